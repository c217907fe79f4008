use Rattle.std.proofs.Common.{◌≡◌, ℕ, ◌<◌, ◌≤◌, false, List, get_or, Option, Some, None, refl, sym, ◌∙◌, ap, subst, inr, arith}
use Rattle.std.proofs.lemmas.Option.{same_Some}
use Rattle.cnf_form.specs.declared.lit.Lit.{Lit}
use Rattle.cdcl.specs.declared.entry.Entry.{Entry}
use Rattle.cdcl.specs.declared.mark.Mark.{Mark}
use Rattle.cdcl.specs.Trail.{level_of, mark_of}
use Rattle.cdcl.specs.Jump.{IsJump}
use Rattle.cdcl.proofs.GivenLaws.{has-at, below-at, has-next}
use Rattle.cdcl.proofs.learning.jump_level.Goals as goal
use Rattle.cdcl.proofs.learning.jump_level.Goals.{then-level-mark+then-mark-level, else-level-mark, else-level-mark-via-then-level-mark+else-mark-level, else-level-mark-via-else-level-mark}

abbrev blank : Lit
blank = record { var = 0; negated = false }

-- a literal isn't of a level between this one and the current one
abbrev Under : List Entry → ℕ → Lit → Type 0
Under es level l = (m : Mark) → mark_of es l.var ≡ Some m → m.level < level_of es → m.level ≤ level

pub mark-requires : goal.mark-requires
mark-requires c = below-at c.args.trail.now.vars c.args.lits.now c.loop-lit.lit-index _ c.requires c.loop-lit-test.true

pub loop-lit-preserved-in_default : goal.loop-lit-preserved-in_default
loop-lit-preserved-in_default c = record {
  jump = c.loop-lit.invariant.jump;
  highest = has-next (Under c.args.trail.now.entries c.loop-lit.level) c.args.lits.now c.loop-lit.lit-index blank c.loop-lit-test.true c.loop-lit.invariant.highest
      (λ m e low. no_mark (sym c.mark.ensures ∙ c.in_default.is) e);
}
  where
    no_mark : {o : Option Mark} {m : Mark} {A : Type 0} → o ≡ None → o ≡ Some m → A
    no_mark n h = cc

pub loop-lit-preserved : goal.loop-lit-preserved
loop-lit-preserved c =
    let es = c.args.trail.now.entries in
    let x = get_or c.args.lits.now c.loop-lit.lit-index blank in
    let Here : ℕ → Type 0 = λ (n : ℕ). IsJump es c.args.lits.now n × (((m : Mark) → mark_of es x.var ≡ Some m → m.level < level_of es → m.level ≤ n) × (c.loop-lit.level ≤ n)) in
    let same : (m : Mark) → mark_of es x.var ≡ Some m → m.level ≡ c.in-Some.mark.level = λ m e. ap (λ (k : Mark). k.level) (same_Some m c.in-Some.mark (sym e ∙ sym c.in-Some.ensures)) in
    let both : Here c.if-level-mark.level = elim c.if-level-mark.branch [
      | then-level-mark+then-mark-level w ↦ subst Here (sym w.level-is) (
        inr (record {
          literal = x;
          of_clause = has-at c.args.lits.now c.loop-lit.lit-index blank c.loop-lit-test.true;
          mark = c.in-Some.mark;
          marked = sym c.in-Some.ensures;
          at = refl;
          below = let low = w.if-mark-level.true in let same = w.level.ensures in omega arith;
        }),
        ((λ m e low. omega (arith, same m e)), let up = w.if-level-mark.true in omega arith),
      )
      | else-level-mark w ↦ subst Here (sym w.level-is) (
        c.loop-lit.invariant.jump,
        (
          (λ m e low. elim w.else-level-mark.branch [
            | else-level-mark-via-then-level-mark+else-mark-level v ↦ absurd (let high = v.if-mark-level.false in let top = v.level.ensures in omega (arith, same m e, low))
            | else-level-mark-via-else-level-mark v ↦ let high = v.if-level-mark.false in omega (arith, same m e)
          ]),
          omega arith,
        ),
      )
    ] in
    record {
      jump = both.0;
      highest = has-next (Under es c.if-level-mark.level) c.args.lits.now c.loop-lit.lit-index blank c.loop-lit-test.true
          (λ k h m e low. let old : m.level ≤ c.loop-lit.level = c.loop-lit.invariant.highest k h m e low in let up : c.loop-lit.level ≤ c.if-level-mark.level = both.1.1 in omega arith)
          both.1.0;
    }
