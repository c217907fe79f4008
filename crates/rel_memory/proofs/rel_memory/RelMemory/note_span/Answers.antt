use Rattle.std.proofs.Common.{◌≡◌, ℕ, ◌+◌, ◌%◌, ◌^◌, subst, inl, inr, arith}
use Rattle.std.specs.Prelude.{IsSome}
use Rattle.bv_range.specs.Known.{IsWithin}
use Rattle.rel_memory.specs.Selecting.{value_at}
use Rattle.std.proofs.lemmas.Bool.{cases_eq}
use Rattle.bv_expr.proofs.Growing.{Extends-refl, Extends-then, AddsNoInput-refl, AddsNoInput-then}
use Rattle.rel_memory.proofs.GrowthLaws.{Grows-of, Extends-of, IsMemory-later}
use Rattle.rel_memory.proofs.rel_memory.RelMemory.note_span.Goals as goal

pub loop-offset-init : goal.loop-offset-init
loop-offset-init c = record {
  memory = c.requires.memory;
  first = c.requires.first;
  each = λ at fits from before. absurd (omega arith);
  stays = λ at some. some;
  short = omega arith;
  few = omega arith;
  extends = Extends-refl _ _;
  no_input = AddsNoInput-refl _;
}

pub loop-offset-preserved : goal.loop-offset-preserved
loop-offset-preserved c =
    let was = c.loop-offset.invariant in
    let step = c.in_ok-note.ensures in
    let low = c.loop-offset.auto.offset in
    let here = c.loop-offset-test.true in
    let within = c.offsets-first.ensures.within in
    record {
      memory = IsMemory-later _ _ _ _ step.extends was.memory;
      first = step.first;
      each = λ at fits from before inside. elim (cases_eq at (c.args.span.address + c.loop-offset.offset)) [
        | inl e ↦
            let same : (c.args.span.address + c.loop-offset.offset) % 2 ^ 32 ≡ at = omega arith in
            subst (λ (n : ℕ). IsWithin c.args.range n → IsSome (value_at c.note.new.found.entries n)) same step.this inside
        | inr d ↦ step.stays at (was.each at fits from (omega arith) inside)
      ];
      stays = λ at some. step.stays at (was.stays at some);
      short = omega arith;
      few = omega (arith, was.few, step.few);
      extends = Extends-then _ _ _ _ _ _ was.extends step.extends (omega arith);
      no_input = AddsNoInput-then _ _ _ was.no_input step.no_input;
    }

pub returns-clause-few : goal.returns-clause-few
returns-clause-few c = omega (arith, c.loop-offset.invariant.few, c.loop-offset.invariant.short)

pub returns-clause-extends : goal.returns-clause-extends
returns-clause-extends c = Extends-of _ _ _ (Grows-of _ _ _ c.loop-offset.invariant.extends) (omega (arith, c.loop-offset.invariant.extends.most, c.loop-offset.invariant.short))
