use Rattle.std.proofs.Common.{slice_index, slice_set, take}
use Rattle.bv_expr.specs.Growth.{AddsNoInput}
use Rattle.rel_step.specs.Placing.{AreSet}
use Rattle.rel_step.proofs.root.first_registers.Given as goal

abbrev pub invariant-loop-reg : goal.invariant-loop-reg
invariant-loop-reg l = AreSet l.arena (slice_index (take l.reg (slice_set l.job.registers 0 0))) l.registers × AddsNoInput l.fn.arena l.arena
