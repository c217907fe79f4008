use Rattle.std.proofs.Common.{◌≡◌, ℕ, ◌+◌, ◌*◌, ◌≤◌, cond, eqb, length, sym, ap, ◌∙◌, arith}
use Rattle.std.proofs.Math.Nat.{mul-le-mul_right}
use Rattle.ct_words.specs.Words.{flag}
use Rattle.bv_expr.proofs.Growing.{AddsNoInput-then}
use Rattle.bv_expr.proofs.Widths.{HasWidth-later}
use Rattle.rv_image.specs.Image.{allowed_at}
use Rattle.rv_machine.specs.Step.{all_allowed, wrapped}
use Rattle.rel_memory.proofs.GrowthLaws.{Grows-of, Grows-then, Extends-of}
use Rattle.rel_memory.proofs.SpanLaws.{all_allowed_one, all_allowed_more, flag_and}
use Rattle.rel_memory.proofs.rel_memory.RelMemory.each_allowed.Goals as goal

pub loop-i-init : goal.loop-i-init
loop-i-init c =
    let first = c.in_ok-first.ensures in
    record {
      width = first.width;
      value = λ env v bytes run. first.value env v bytes run ∙ ap flag (sym (all_allowed_one (allowed_at c.args.right c.args.self.now.image) (v c.args.address.0)));
      grows = Grows-of _ _ _ first.extends;
      count = omega (arith, first.extends.most);
      no_input = first.no_input;
      ranges = first.ranges;
    }

pub next_allowed-requires-clause-address : goal.next_allowed-requires-clause-address
next_allowed-requires-clause-address c = HasWidth-later _ _ _ _ _ c.loop-i.invariant.grows c.requires.address

pub loop-i-preserved : goal.loop-i-preserved
loop-i-preserved c =
    let was = c.loop-i.invariant in
    let step = c.in_ok-all.ensures in
    let can = allowed_at c.args.right c.args.self.now.image in
    let grown = Grows-then _ _ _ was.grows (Grows-of _ _ _ step.extends) in
    record {
      width = step.width;
      value = λ env v bytes run.
          let fits = c.law.ensures.fits env v bytes (grown.values env v run) c.args.address.0 32 c.requires.address in
          step.value env v bytes run
          ∙ ap (λ (n : ℕ). cond (eqb n 0) 0 (flag (can (wrapped (v c.args.address.0 + c.loop-i.i))))) (was.value env v bytes (step.extends.values env v run))
          ∙ flag_and (all_allowed can (v c.args.address.0) c.loop-i.i) (can (wrapped (v c.args.address.0 + c.loop-i.i)))
          ∙ ap flag (sym (all_allowed_more can (v c.args.address.0) c.loop-i.i fits));
      grows = grown;
      count = omega (arith, was.count, step.extends.most);
      no_input = AddsNoInput-then _ _ _ was.no_input step.no_input;
      ranges = step.ranges;
    }

pub returns-in_err-all-clause-extends : goal.returns-in_err-all-clause-extends
returns-in_err-all-clause-extends c =
    let was = c.loop-i.invariant in
    let step = c.next_allowed.ensures.extends in
    let most : (c.loop-i.i + 1) * (5 + 4 * length c.args.self.now.image) ≤ 4 * (5 + 4 * length c.args.self.now.image) = mul-le-mul_right (5 + 4 * length c.args.self.now.image) (omega (arith, c.loop-i-test.true, c.requires.few)) in
    Extends-of _ _ _ (Grows-then _ _ _ was.grows (Grows-of _ _ _ step)) (omega (arith, was.count, step.most, most))

pub returns-in_err-all-clause-no_input : goal.returns-in_err-all-clause-no_input
returns-in_err-all-clause-no_input c = AddsNoInput-then _ _ _ c.loop-i.invariant.no_input c.next_allowed.ensures.no_input

pub returns-clause-value : goal.returns-clause-value
returns-clause-value c = λ env v bytes run.
    let all : c.loop-i.i ≡ c.args.bytes = omega (arith, c.loop-i.auto.i-end, c.loop-i-test.false, c.requires.some) in
    c.loop-i.invariant.value env v bytes run ∙ ap (λ (n : ℕ). flag (all_allowed (allowed_at c.args.right c.args.self.now.image) (v c.args.address.0) n)) all

pub returns-clause-extends : goal.returns-clause-extends
returns-clause-extends c =
    let all : c.loop-i.i ≡ c.args.bytes = omega (arith, c.loop-i.auto.i-end, c.loop-i-test.false, c.requires.some) in
    let most : c.loop-i.i * (5 + 4 * length c.args.self.now.image) ≤ 4 * (5 + 4 * length c.args.self.now.image) = mul-le-mul_right (5 + 4 * length c.args.self.now.image) (omega (arith, all, c.requires.few)) in
    Extends-of _ _ _ c.loop-i.invariant.grows (omega (arith, c.loop-i.invariant.count, most))
