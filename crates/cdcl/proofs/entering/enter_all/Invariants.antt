use Rattle.std.proofs.Common.{take}
use Rattle.cdcl.specs.Propagation.{Grows}
use Rattle.cdcl.specs.Watch.{IsEntered}
use Rattle.cdcl.proofs.entering.enter_all.Given as goal

abbrev pub invariant-loop-number : goal.invariant-loop-number
invariant-loop-number l = record {
  grows : Grows l.clauses l.initial.trail l.trail;
  entered : IsEntered (take l.number l.clauses) l.trail l.pairs.items l.watches;
}
