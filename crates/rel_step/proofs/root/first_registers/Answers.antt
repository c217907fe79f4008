use Rattle.std.proofs.Common.{◌≡◌, ◌≢◌, ◌<◌, ◌∙◌, ap, sym, arith, slice_index, slice_set, length, length-set}
use Rattle.std.proofs.lemmas.List.{get_or-set_same, get_or-set_other}
use Rattle.bv_expr.proofs.Growing.{AddsNoInput-then}
use Rattle.rel_step.proofs.RootLaws.{AreSet-same, AreSet-zero, take_next, take_end}
use Rattle.rel_step.proofs.root.first_registers.Goals as goal

pub loop-reg-init : goal.loop-reg-init
loop-reg-init c = (
  AreSet-zero _ _ c.in_ok-zero.zero (slice_set c.args.job.now.registers 0 0) c.in_ok-registers.ensures c.in_ok-zero.ensures.width c.in_ok-zero.ensures.value (get_or-set_same c.args.job.now.registers 0 0 0 (omega (arith, c.args.job.now.limits.register_count))),
  c.in_ok-zero.ensures.no_input,
)

pub loop-reg-preserved : goal.loop-reg-preserved
loop-reg-preserved c =
    let R = slice_set c.args.job.now.registers 0 0 in
    let i = c.loop-reg.reg in
    let ne : i ≢ 0 = omega arith in
    let within : i < length R = omega (arith, length-set c.args.job.now.registers 0 0, c.args.job.now.limits.register_count) in
    let value : slice_index R i ≡ slice_index c.as_slice.result.now i = get_or-set_other c.args.job.now.registers 0 i 0 0 ne ∙ ap (λ xs. slice_index xs i) (sym c.as_slice.ensures) in
    (AreSet-same _ _ _ _ (take_next R i _ within value) (c.in_ok-set_number.ensures.set _ c.loop-reg.invariant.0), AddsNoInput-then _ _ _ c.loop-reg.invariant.1 c.in_ok-set_number.ensures.no_input)

pub returns-clause-set : goal.returns-clause-set
returns-clause-set c =
    let R = slice_set c.args.job.now.registers 0 0 in
    AreSet-same _ _ _ _ (take_end R c.loop-reg.reg (omega (arith, length-set c.args.job.now.registers 0 0, c.args.job.now.limits.register_count))) c.loop-reg.invariant.0
