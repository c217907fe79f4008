use Rattle.std.proofs.Common.{take}
use Rattle.cdcl.proofs.PropagationLaws.{SweptSoFar}
use Rattle.cdcl.specs.Propagation.{Grows}
use Rattle.cdcl.proofs.propagation.sweep.Given as goal

abbrev pub invariant-loop-number : goal.invariant-loop-number
invariant-loop-number l = record {
  grows : Grows l.clauses l.initial.trail l.trail;
  swept : SweptSoFar (take l.number l.clauses) l.initial.trail l.trail l.swept;
}
