use Rattle.std.proofs.Common.{◌≡◌, ℕ, true, false, List, sym, ◌∙◌, ap, subst, inl, inr, eqb, Some}
use Rattle.std.specs.Bool.{MatchBool}
use Rattle.std.proofs.lemmas.Bool.{cases_Bool, eqb-true, eqb-false}
use Rattle.cnf_form.specs.declared.lit.Lit.{Lit}
use Rattle.cnf_form.specs.Literals.{flip, has}
use Rattle.cnf_form.specs.News.{are_distinct}
use Rattle.cdcl.specs.declared.entry.Entry.{Entry}
use Rattle.cdcl.specs.declared.mark.Mark.{Mark}
use Rattle.cdcl.specs.Trail.{Assigned, lits_of, level_of, below, mark_of}
use Rattle.cdcl.proofs.TrailLaws.{has-current, has-lower, mark-has}
use Rattle.cdcl.proofs.trail.Trail.is_current.Goals as goal

by_level : (es : List Entry) (l : Lit) (m : Mark) (level : ℕ) → are_distinct (lits_of es) ≡ true → has (lits_of es) l ≡ true → mark_of es l.var ≡ Some m → level ≡ level_of es → MatchBool (eqb m.level level) (has (lits_of (below es)) l ≡ false) (has (lits_of (below es)) l ≡ true)
by_level es l m level d h e same = elim (cases_Bool (eqb m.level level)) [
  | inl t ↦ subst (λ b. MatchBool b (has (lits_of (below es)) l ≡ false) (has (lits_of (below es)) l ≡ true)) (sym t) (has-current es l m d h e (eqb-true _ _ t ∙ same))
  | inr f ↦ subst (λ b. MatchBool b (has (lits_of (below es)) l ≡ false) (has (lits_of (below es)) l ≡ true)) (sym f) (has-lower es l m d h e (λ s. eqb-false _ _ f (s ∙ sym same)))
]

pub returns-in-Some : goal.returns-in-Some
returns-in-Some c = by_level c.args.self.now.entries (flip c.args.lit) c.in-Some.mark c.self.inside.level (subst (λ (a : Assigned). are_distinct (lits_of a.entries) ≡ true) c.self.view_is c.self.invariant.distinct) c.requires.falsified (sym c.in-Some.ensures) (c.self.invariant.leveled ∙ ap (λ (a : Assigned). level_of a.entries) c.self.view_is)

pub returns-in-None : goal.returns-in-None
returns-in-None c = absurd (mark-has c.args.self.now.entries (flip c.args.lit) c.requires.falsified (sym c.in-None.ensures))
