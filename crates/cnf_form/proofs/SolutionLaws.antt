-- Facts of solutions.
use Rattle.std.proofs.Common.{◌≡◌, ℕ, zero, suc, ◌+◌, Bool, true, false, ◌&&◌, List, [], ◌∷◌, take, Some, refl, sym, ◌∙◌, ap, subst, inl, inr, add-one}
use Rattle.std.specs.Prelude.{slice_get}
use Rattle.std.proofs.lemmas.Bool.{and_parts, and_from, cases_Bool}
use Rattle.std.proofs.lemmas.Option.{same_Some}
use Rattle.cnf_form.specs.declared.lit.Lit.{Lit}
use Rattle.cnf_form.specs.Solutions.{is_met, are_met}

are_met-suc : (values : List Bool) (cs : List (List Lit)) (n : ℕ) (c : List Lit) → slice_get cs n ≡ Some c → are_met values (take n cs) ≡ true → is_met values c ≡ true → are_met values (take (suc n) cs) ≡ true
are_met-suc values [] n c e m h = cc
are_met-suc values (d ∷ ds) zero c e m h = and_from _ _ (subst (λ (k : List Lit). is_met values k ≡ true) (sym (same_Some _ _ e)) h) refl
are_met-suc values (d ∷ ds) (suc n) c e m h =
    let both = and_parts (is_met values d) (are_met values (take n ds)) m in
    and_from (is_met values d) (are_met values (take (suc n) ds)) both.0 (are_met-suc values ds n c e both.1 h)

pub are_met-next : (values : List Bool) (cs : List (List Lit)) (n : ℕ) (c : List Lit) → slice_get cs n ≡ Some c → are_met values (take n cs) ≡ true → is_met values c ≡ true → are_met values (take (n + 1) cs) ≡ true
are_met-next values cs n c e m h = rw add-one (are_met-suc values cs n c e m h)

pub are_met-not : (values : List Bool) (cs : List (List Lit)) (n : ℕ) (c : List Lit) → slice_get cs n ≡ Some c → is_met values c ≡ false → are_met values cs ≡ false
are_met-not values [] n c e h = cc
are_met-not values (d ∷ ds) zero c e h = ap (λ b. b && are_met values ds) (ap (is_met values) (same_Some _ _ e) ∙ h)
are_met-not values (d ∷ ds) (suc n) c e h = elim (cases_Bool (is_met values d)) [
  | inl t ↦ ap (λ b. b && are_met values ds) t ∙ are_met-not values ds n c e h
  | inr f ↦ ap (λ b. b && are_met values ds) f
]
