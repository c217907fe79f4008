use Rattle.std.proofs.Common.{◌≡◌, true, false, List, get_or, refl, sym, subst, inl, inr}
use Rattle.std.proofs.lemmas.List.{take_all}
use Rattle.cnf_form.specs.declared.lit.Lit.{Lit}
use Rattle.cnf_form.specs.Literals.{has}
use Rattle.cdcl.specs.Jump.{IsAt}
use Rattle.cdcl.proofs.GivenLaws.{has-at, below-at, has-next, lit_differs, lit_same}
use Rattle.cdcl.proofs.LearnLaws.{second_none}
use Rattle.cdcl.proofs.learning.second_literal.Goals as goal
use Rattle.cdcl.proofs.learning.second_literal.Goals.{else-ne-via-then-ne+else-is_at, else-ne-via-else-ne}

abbrev blank : Lit
blank = record { var = 0; negated = false }

pub is_at-requires : goal.is_at-requires
is_at-requires c = below-at c.args.trail.now.vars c.args.lits.now c.loop-lit.lit-index blank c.requires.in_range c.loop-lit-test.true

pub returns-then-is_at : goal.returns-then-is_at
returns-then-is_at c = inr (lit_differs (get_or c.args.lits.now c.loop-lit.lit-index blank) c.args.first (sym c.if-ne.ensures), (has-at c.args.lits.now c.loop-lit.lit-index blank c.loop-lit-test.true, c.if-is_at.ensures))

pub loop-lit-preserved : goal.loop-lit-preserved
loop-lit-preserved c =
    let es = c.args.trail.now.entries in
    let x = get_or c.args.lits.now c.loop-lit.lit-index blank in
    let here : (x ≡ c.args.first → ⊥) → IsAt es c.args.level x → ⊥ = elim c.else-ne.branch [
      | else-ne-via-then-ne+else-is_at w ↦ λ (_ : x ≡ c.args.first → ⊥). w.if-is_at.ensures
      | else-ne-via-else-ne w ↦ λ (n : x ≡ c.args.first → ⊥) (_ : IsAt es c.args.level x). absurd (n (lit_same x c.args.first (sym w.if-ne.ensures)))
    ] in
    has-next (λ (k : Lit). (k ≡ c.args.first → ⊥) → IsAt es c.args.level k → ⊥) c.args.lits.now c.loop-lit.lit-index blank c.loop-lit-test.true c.loop-lit.invariant here

pub returns : goal.returns
returns c =
    let all = take_all c.loop-lit.lit-index c.args.lits.now c.loop-lit-test.false in
    inl (
      refl,
      second_none c.args.trail.now.entries c.args.lits.now c.args.first c.args.level c.requires.distinct c.requires.learnt c.requires.first c.requires.jump c.requires.highest
          (λ k h n at. c.loop-lit.invariant k (subst (λ (ls : List Lit). has ls k ≡ true) (sym all) h) n at),
    )
