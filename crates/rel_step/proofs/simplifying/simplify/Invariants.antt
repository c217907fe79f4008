use Rattle.std.proofs.Common.{◌*◌}
use Rattle.rel_step.proofs.Simpler.{IsSimpler}
use Rattle.rel_step.proofs.simplifying.simplify.Given as goal

abbrev pub invariant-loop-pass : goal.invariant-loop-pass
invariant-loop-pass g l = IsSimpler l.initial.arena l.arena l.fn.id.0 l.simple.0 (4 * l.pass-index)
