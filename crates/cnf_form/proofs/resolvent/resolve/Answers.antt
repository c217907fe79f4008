use Rattle.std.proofs.Common.{◌≡◌, ℕ, Bool, eqb, List, length, Some, None, sym, ◌∙◌, ap, subst, inl, inr}
use Rattle.std.specs.Bool.{MatchBool}
use Rattle.std.proofs.lemmas.Bool.{cases_Bool, eqb-true, eqb-false}
use Rattle.cnf_form.specs.declared.lit.Lit.{Lit}
use Rattle.cnf_form.specs.Resolvent.{joined, resolvent}
use Rattle.cnf_form.proofs.JoinLaws.{resolvent-one, resolvent-none}
use Rattle.cnf_form.proofs.resolvent.resolve.Goals as goal

by_clashes : (ls ms out : List Lit) (n : ℕ) → n ≡ length (joined ls ms).clashes → out ≡ (joined ls ms).lits → MatchBool (eqb n 1) (resolvent ls ms ≡ Some out) (resolvent ls ms ≡ None)
by_clashes ls ms out n e f = elim (cases_Bool (eqb n 1)) [
  | inl t ↦ subst (λ (b : Bool). MatchBool b (resolvent ls ms ≡ Some out) (resolvent ls ms ≡ None)) (sym t) (resolvent-one ls ms (sym e ∙ eqb-true n 1 t) ∙ ap Some (sym f))
  | inr n' ↦ subst (λ (b : Bool). MatchBool b (resolvent ls ms ≡ Some out) (resolvent ls ms ≡ None)) (sym n') (resolvent-none ls ms (λ one. eqb-false n 1 n' (e ∙ one)))
]

pub returns : goal.returns
returns c = by_clashes c.args.left.now c.args.right.now c.join.new.out.items c.in_ok-clashes.clashes c.in_ok-clashes.ensures.clashes c.in_ok-clashes.ensures.lits
