use Rattle.std.proofs.Common.{take}
use Rattle.cdcl.specs.Jump.{IsJump, IsHighest}
use Rattle.cdcl.proofs.learning.jump_level.Given as goal

abbrev pub invariant-loop-lit : goal.invariant-loop-lit
invariant-loop-lit l = record {
  jump : IsJump l.trail.entries l.lits l.level;
  highest : IsHighest l.trail.entries (take l.lit-index l.lits) l.level;
}
