-- What is refuted has no solution.
use Rattle.std.proofs.Common.{◌≡◌, ℕ, zero, suc, Bool, true, false, not, List, [], ◌∷◌, ◌++◌, Option, Some, None, sym, ◌∙◌, ap, subst, inl, inr}
use Rattle.std.specs.Prelude.{slice_get}
use Rattle.std.proofs.lemmas.Bool.{and_parts, or_cases, or_left, or_right, cases_Bool, false≢true}
use Rattle.std.proofs.lemmas.Option.{same_Some}
use Rattle.cnf_form.specs.declared.lit.Lit.{Lit}
use Rattle.cnf_form.specs.declared.line.Line.{Line}
use Rattle.cnf_form.specs.Literals.{flip, has}
use Rattle.cnf_form.specs.Clauses.{is_ascending, are_clauses}
use Rattle.cnf_form.specs.Solutions.{is_value, holds, is_met, are_met}
use Rattle.cnf_form.specs.Resolvent.{joined, resolvent}
use Rattle.cnf_form.specs.Derivation.{IsDerivation, is_empty, ends_empty, IsRefutation}
use Rattle.cnf_form.proofs.LitLaws.{is_same-true, is_same-self, flip-flip, has-here, has-later}
use Rattle.cnf_form.proofs.ClauseLaws.{are_clauses-at}
use Rattle.cnf_form.proofs.JoinLaws.{is_ascending-joined, joined-keeps, joined-keeps_right, negated_in, in_negated, clashes-joined, one_clash}
use Rattle.cnf_form.proofs.ChainLaws.{PassesOn, AllHave, line_has, AllHave-push}

-- a true literal meets the clause
pub met_at : (values : List Bool) (c : List Lit) (x : Lit) → has c x ≡ true → holds values x ≡ true → is_met values c ≡ true
met_at values [] x h t = absurd (false≢true h)
met_at values (y ∷ ys) x h t = elim (or_cases _ _ h) [ inl e ↦ or_left (holds values y) (is_met values ys) (subst (λ (k : Lit). holds values k ≡ true) (sym (is_same-true y x e)) t) | inr u ↦ or_right (holds values y) (is_met values ys) (met_at values ys x u t) ]

not_both : (o : Option Bool) (b : Bool) → is_value o (not b) ≡ true → is_value o (not (not b)) ≡ true → ⊥
not_both None b h i = false≢true h
not_both (Some true) true h i = false≢true h
not_both (Some true) false h i = false≢true i
not_both (Some false) true h i = false≢true i
not_both (Some false) false h i = false≢true h

holds_flip : (values : List Bool) (l : Lit) → holds values l ≡ true → holds values (flip l) ≡ true → ⊥
holds_flip values l h i = not_both (slice_get values l.var) l.negated h i

record TrueIn (values : List Bool) (c : List Lit) : Type 0 where
  literal : Lit
  of_clause : has c literal ≡ true
  holds : holds values literal ≡ true

true_in : (values : List Bool) (c : List Lit) → is_met values c ≡ true → TrueIn values c
true_in values [] h = absurd (false≢true h)
true_in values (x ∷ xs) h = elim (or_cases _ _ h) [
  | inl t ↦ record { literal = x; of_clause = has-here x xs x (is_same-self x); holds = t }
  | inr u ↦ let r = true_in values xs u in record { literal = r.literal; of_clause = has-later x xs r.literal r.of_clause; holds = r.holds }
]

-- a solution of both clauses is one of their resolvent
pub met_resolvent : (values : List Bool) (c d r : List Lit) → is_ascending c ≡ true → is_ascending d ≡ true → is_met values c ≡ true → is_met values d ≡ true → resolvent c d ≡ Some r → is_met values r ≡ true
met_resolvent values c d r a b h i e =
    let o = one_clash c d r e in
    let x = true_in values c h in
    let y = true_in values d i in
    subst (λ (k : List Lit). is_met values k ≡ true) o.0
    (elim (cases_Bool (has d (flip x.literal))) [
      | inr f ↦ met_at values (joined c d).lits x.literal (joined-keeps c d x.literal x.of_clause f) x.holds
      | inl t ↦ elim (cases_Bool (has c (flip y.literal))) [
        | inr g ↦ met_at values (joined c d).lits y.literal (joined-keeps_right c d y.literal y.of_clause g) y.holds
        | inl u ↦ absurd (clash o.1 x y t u)
      ]
    ])
  where
    only : (p k : Lit) → has (p ∷ []) k ≡ true → p ≡ k
    only p k h = elim (or_cases _ _ h) [ inl s ↦ is_same-true p k s | inr f ↦ absurd (false≢true f) ]

    clash : (p : Lit) × ((joined c d).clashes ≡ p ∷ []) → (x : TrueIn values c) (y : TrueIn values d) → has d (flip x.literal) ≡ true → has c (flip y.literal) ≡ true → ⊥
    clash (p, q) x y t u =
        let is : negated_in c d ≡ p ∷ [] = sym (clashes-joined c d a b) ∙ q in
        let one = only p x.literal (subst (λ (k : List Lit). has k x.literal ≡ true) is (in_negated c d x.literal x.of_clause t)) in
        let two = only p (flip y.literal) (subst (λ (k : List Lit). has k (flip y.literal) ≡ true) is (in_negated c d (flip y.literal) u (subst (λ (k : Lit). has d k ≡ true) (sym (flip-flip y.literal)) y.of_clause))) in
        let same : flip x.literal ≡ y.literal = ap flip (sym one ∙ two) ∙ flip-flip y.literal in
        holds_flip values x.literal x.holds (subst (λ (k : Lit). holds values k ≡ true) (sym same) y.holds)

-- a clause with a true literal
pub record IsMetClause (values : List Bool) (c : List Lit) : Type 0 where
  pub ascending : is_ascending c ≡ true
  pub met : is_met values c ≡ true

met_kept : (values : List Bool) → PassesOn (IsMetClause values)
met_kept values = record {
  resolvent = λ c d r g h e. record {
    ascending = subst (λ (k : List Lit). is_ascending k ≡ true) (one_clash c d r e).0 (is_ascending-joined c d g.ascending h.ascending);
    met = met_resolvent values c d r g.ascending h.ascending g.met h.met e;
  };
}

never_empty : (values : List Bool) (c : List Lit) → IsMetClause values c → is_empty c ≡ true → ⊥
never_empty values [] m e = false≢true m.met
never_empty values (x ∷ xs) m e = false≢true e

not_refuted : (values : List Bool) (older : List (List Lit)) (lines : List Line) → AllHave (IsMetClause values) older → IsDerivation older lines → ends_empty lines ≡ true → ⊥
not_refuted values older [] all d e = false≢true e
not_refuted values older (l ∷ []) all d e = never_empty values l.clause (line_has (IsMetClause values) (met_kept values) older l all d.0) e
not_refuted values older (l ∷ m ∷ ms) all d e =
    not_refuted values (older ++ l.clause ∷ []) (m ∷ ms)
    (AllHave-push (IsMetClause values) older l.clause all (line_has (IsMetClause values) (met_kept values) older l all d.0)) d.1 e

met_clause : (values : List Bool) (cs : List (List Lit)) (k : ℕ) (c : List Lit) → are_met values cs ≡ true → slice_get cs k ≡ Some c → is_met values c ≡ true
met_clause values [] k c m e = cc
met_clause values (d ∷ ds) zero c m e = subst (λ (x : List Lit). is_met values x ≡ true) (same_Some _ _ e) (and_parts (is_met values d) (are_met values ds) m).0
met_clause values (d ∷ ds) (suc k) c m e = met_clause values ds k c (and_parts (is_met values d) (are_met values ds) m).1 e

-- a formula with a refutation has no solution
pub no_solution : (vars : ℕ) (clauses : List (List Lit)) (lines : List Line) (values : List Bool) → are_clauses vars clauses ≡ true → IsRefutation clauses lines → are_met values clauses ≡ true → ⊥
no_solution vars clauses lines values good r m =
    not_refuted values clauses lines (λ k c e. record {
      ascending = (and_parts _ _ (are_clauses-at vars clauses k c good e)).0;
      met = met_clause values clauses k c m e;
    }) r.derivation r.ends
