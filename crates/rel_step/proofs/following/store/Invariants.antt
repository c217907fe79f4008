use Rattle.std.proofs.Common.{take}
use Rattle.rel_step.specs.Following.{ArePut}
use Rattle.rel_step.proofs.following.store.Given as goal

abbrev pub invariant-loop-i : goal.invariant-loop-i
invariant-loop-i l = ArePut l.arena l.initial.memory (take l.i l.ones) l.memory
