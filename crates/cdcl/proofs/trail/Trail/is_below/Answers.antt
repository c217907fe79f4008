use Rattle.std.proofs.Common.{◌≡◌, ℕ, ◌<◌, ◌≤◌, List, Bool, true, ltb, Some, sym, ◌∙◌, ap, subst, inl, inr, arith}
use Rattle.std.specs.Bool.{MatchBool}
use Rattle.std.proofs.lemmas.Bool.{cases_Bool, ltb-true, ltb-false}
use Rattle.cnf_form.specs.declared.lit.Lit.{Lit}
use Rattle.cnf_form.specs.News.{is_free, are_distinct}
use Rattle.cdcl.specs.declared.entry.Entry.{Entry}
use Rattle.cdcl.specs.declared.mark.Mark.{Mark}
use Rattle.cdcl.specs.Trail.{Assigned, lits_of, level_of, below, mark_of}
use Rattle.cdcl.specs.Jump.{IsLower}
use Rattle.cdcl.proofs.TrailLaws.{mark-none, is_free-below}
use Rattle.cdcl.proofs.LearnLaws.{free_current}
use Rattle.cdcl.proofs.trail.Trail.is_below.Goals as goal

by_level : (es : List Entry) (l : Lit) (m : Mark) (level : ℕ) → are_distinct (lits_of es) ≡ true → mark_of es l.var ≡ Some m → level ≡ level_of es → MatchBool (ltb m.level level) (IsLower es l) (is_free (lits_of (below es)) l.var ≡ true)
by_level es l m level d e same = elim (cases_Bool (ltb m.level level)) [
  | inl t ↦ subst (λ (b : Bool). MatchBool b (IsLower es l) (is_free (lits_of (below es)) l.var ≡ true)) (sym t) (record { mark = m; marked = e; lower = let low : m.level < level = ltb-true m.level level t in omega arith })
  | inr f ↦ subst (λ (b : Bool). MatchBool b (IsLower es l) (is_free (lits_of (below es)) l.var ≡ true)) (sym f) (free_current es l m d e (λ (low : m.level < level_of es). let high : level ≤ m.level = ltb-false m.level level f in omega (arith, low)))
]

pub returns-in-Some : goal.returns-in-Some
returns-in-Some c = by_level c.args.self.now.entries c.args.lit c.in-Some.mark c.self.inside.level (subst (λ (a : Assigned). are_distinct (lits_of a.entries) ≡ true) c.self.view_is c.self.invariant.distinct) (sym c.in-Some.ensures) (c.self.invariant.leveled ∙ ap (λ (a : Assigned). level_of a.entries) c.self.view_is)

pub returns-in-None : goal.returns-in-None
returns-in-None c = is_free-below c.args.self.now.entries c.args.lit.var (mark-none c.args.self.now.entries c.args.lit.var (sym c.in-None.ensures))
