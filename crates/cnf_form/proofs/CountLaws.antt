-- A spent log over n variables has fewer than 3^n lines.
use Rattle.std.proofs.Common.{◌≡◌, ℕ, zero, suc, ◌<◌, ◌≤◌, ◌+◌, ◌*◌, ◌^◌, Bool, true, false, eqb, List, [], ◌∷◌, ◌++◌, length, Some, refl, sym, ◌∙◌, ap, subst, inl, inr, arith}
use Rattle.std.specs.Prelude.{slice_get}
use Rattle.std.specs.List.{IsDistinct, AllByRecursion, list_any}
use Rattle.std.proofs.Math.Nat.{pow-succ'}
use Rattle.std.proofs.lemmas.Map.Steps.{length-le_from_distinct_below}
use Rattle.std.proofs.lemmas.List.{length_push}
use Rattle.std.proofs.lemmas.Bool.{and_parts, or_cases, cases_Bool, cases_lt, false≢true, or_left, or_right, eqb-true}
use Rattle.std.proofs.lemmas.Map.Keys.{IsDistinct-cons}
use Rattle.cnf_form.specs.declared.lit.Lit.{Lit}
use Rattle.cnf_form.specs.declared.line.Line.{Line}
use Rattle.cnf_form.specs.Literals.{has}
use Rattle.cnf_form.specs.Clauses.{is_ascending, all_below, are_clauses}
use Rattle.cnf_form.specs.Resolvent.{joined, resolvent}
use Rattle.cnf_form.specs.News.{IsNews}
use Rattle.cnf_form.specs.Spent.{AreNewLines, IsSpent}
use Rattle.cnf_form.proofs.LitLaws.{has-flip}
use Rattle.cnf_form.proofs.ClauseLaws.{all_below-has, all_below-from, are_clauses-at}
use Rattle.cnf_form.proofs.JoinLaws.{is_ascending-joined, has-joined, CameFrom, one_clash}
use Rattle.cnf_form.proofs.DerivationLaws.{AreNewLines-push}
use Rattle.cnf_form.proofs.NewsLaws.{news_not_older}
use Rattle.cnf_form.proofs.ChainLaws.{PassesOn, AllHave, line_has, AllHave-push, slice_get-append}

abbrev plain : ℕ → Lit
plain v = record { var = v; negated = false }

abbrev minus : ℕ → Lit
minus v = record { var = v; negated = true }

-- 1 where the variable is in the clause, 2 where its negation is
abbrev digit_of : Bool → Bool → ℕ
digit_of true b = 1
digit_of false true = 2
digit_of false false = 0

-- the clause as a number of base 3
code : ℕ → List Lit → ℕ
code zero c = 0
code (suc v) c = digit_of (has c (plain v)) (has c (minus v)) + 3 * code v c

code-nil : (n : ℕ) → code n [] ≡ 0
unfolding code
code-nil zero = refl
code-nil (suc v) = let h = code-nil v in omega arith

digit-low : (a b : Bool) → digit_of a b ≤ 2
digit-low true b = omega arith
digit-low false true = omega arith
digit-low false false = omega arith

code-low : (n : ℕ) (c : List Lit) → code n c < 3 ^ n
unfolding code
code-low zero c = omega arith
code-low (suc v) c =
    let rest = code-low v c in
    let d = digit-low (has c (plain v)) (has c (minus v)) in
    let p = pow-succ' 3 v in
    omega arith

digit-plain : (a b x y : Bool) → digit_of a b ≡ digit_of x y → a ≡ true → x ≡ true
digit-plain true b true y e h = refl
digit-plain true b false true e h = absurd (omega (arith, e))
digit-plain true b false false e h = absurd (omega (arith, e))
digit-plain false b x y e h = absurd (false≢true h)

digit-minus : (a b x y : Bool) → digit_of a b ≡ digit_of x y → a ≡ false → b ≡ true → y ≡ true
digit-minus true b x y e h i = absurd (false≢true (sym h))
digit-minus false false x y e h i = absurd (false≢true i)
digit-minus false true true y e h i = absurd (omega (arith, e))
digit-minus false true false true e h i = refl
digit-minus false true false false e h i = absurd (omega (arith, e))

-- clauses of one number have the same literals
code-sub : (n : ℕ) (d c : List Lit) → code n d ≡ code n c → is_ascending d ≡ true → (k : Lit) → k.var < n → has d k ≡ true → has c k ≡ true
unfolding code
code-sub zero d c e a k low h = absurd (omega arith)
code-sub (suc v) d c e a k low h =
    let x = digit-low (has d (plain v)) (has d (minus v)) in
    let y = digit-low (has c (plain v)) (has c (minus v)) in
    let digits : digit_of (has d (plain v)) (has d (minus v)) ≡ digit_of (has c (plain v)) (has c (minus v)) = omega arith in
    let rests : code v d ≡ code v c = omega arith in
    elim (cases_lt k.var v) [
      | inl less ↦ code-sub v d c rests a k less h
      | inr more ↦ let here : k.var ≡ v = omega arith in at k.negated refl here digits
    ]
  where
    same : (b : Bool) → k.negated ≡ b → k.var ≡ v → k ≡ record { var = v; negated = b }
    same b p q = ap (λ (s : Bool). mk k.var s) p ∙ ap (λ (w : ℕ). mk w b) q
      where
        mk : ℕ → Bool → Lit
        mk w s = record { var = w; negated = s }

    at : (b : Bool) → k.negated ≡ b → k.var ≡ v → digit_of (has d (plain v)) (has d (minus v)) ≡ digit_of (has c (plain v)) (has c (minus v)) → has c k ≡ true
    at false p q s = let is = same false p q in subst (λ (l : Lit). has c l ≡ true) (sym is) (digit-plain _ _ _ _ s (subst (λ (l : Lit). has d l ≡ true) is h))
    at true p q s = let is = same true p q in
        let there : has d (minus v) ≡ true = subst (λ (l : Lit). has d l ≡ true) is h in
        subst (λ (l : Lit). has c l ≡ true) (sym is) (digit-minus (has d (plain v)) (has d (minus v)) (has c (plain v)) (has c (minus v)) s (has-flip d (minus v) a there) there)

-- a clause over the variables below n
pub record IsGood (n : ℕ) (c : List Lit) : Type 0 where
  pub ascending : is_ascending c ≡ true
  pub low : all_below n c ≡ true

pub good_kept : (n : ℕ) → PassesOn (IsGood n)
good_kept n = record { resolvent = good_resolvent }
  where
    good_resolvent : (c d r : List Lit) → IsGood n c → IsGood n d → resolvent c d ≡ Some r → IsGood n r
    good_resolvent c d r g h e = subst (IsGood n) (one_clash c d r e).0 (record {
      ascending = is_ascending-joined c d g.ascending h.ascending;
      low = all_below-from n (joined c d).lits (λ k t. from k (has-joined c d k g.ascending h.ascending t));
    })
      where
        from : (k : Lit) → CameFrom c d k → k.var < n
        from k (inl (t, x)) = all_below-has n c k g.low t
        from k (inr (t, x)) = all_below-has n d k h.low t

pub are_good : (n : ℕ) (cs : List (List Lit)) → are_clauses n cs ≡ true → AllHave (IsGood n) cs
are_good n cs good k c e = let both = and_parts (is_ascending c) (all_below n c) (are_clauses-at n cs k c good e) in record { ascending = both.0; low = both.1 }

slice_get-last : (cs : List (List Lit)) (c : List Lit) → slice_get (cs ++ c ∷ []) (length cs) ≡ Some c
slice_get-last [] c = refl
slice_get-last (x ∷ xs) c = slice_get-last xs c

codes : ℕ → List Line → List ℕ
codes n [] = []
codes n (l ∷ ls) = code n l.clause ∷ codes n ls

-- all numbers of the lines differ, from each other, from 0 and from those of older clauses
record Differ (n : ℕ) (older : List (List Lit)) (lines : List Line) : Type 0 where
  distinct : IsDistinct eqb (codes n lines)
  new : (q : ℕ) → list_any (eqb q) (codes n lines) ≡ true → (k : ℕ) (d : List Lit) → slice_get older k ≡ Some d → code n d ≡ q → ⊥
  not_zero : list_any (eqb 0) (codes n lines) ≡ true → ⊥

none_equal : (q : ℕ) (ns : List ℕ) → (list_any (eqb q) ns ≡ true → ⊥) → AllByRecursion (λ y. eqb q y ≡ false) ns
none_equal q [] h = tt
none_equal q (x ∷ xs) h = (elim (cases_Bool (eqb q x)) [ inl t ↦ absurd (h (or_left _ _ t)) | inr f ↦ f ], none_equal q xs (λ t. h (or_right _ _ t)))

distinct_nil : IsDistinct eqb []
unfolding IsDistinct
distinct_nil = tt

differ : (n : ℕ) (older : List (List Lit)) (lines : List Line) → AllHave (IsGood n) older → AreNewLines older lines → Differ n older lines
unfolding codes
differ n older [] g a = record { distinct = distinct_nil; new = λ q h. absurd (false≢true h); not_zero = λ h. false≢true h }
differ n older (l ∷ ls) g a =
    let here = line_has (IsGood n) (good_kept n) older l g a.0.derived in
    let rest = differ n (older ++ l.clause ∷ []) ls (AllHave-push (IsGood n) older l.clause g here) a.1 in
    record {
      distinct = IsDistinct-cons eqb (code n l.clause) (codes n ls) (none_equal (code n l.clause) (codes n ls) (λ t. rest.new (code n l.clause) t (length older) l.clause (slice_get-last older l.clause) refl)) rest.distinct;
      new = λ q h k d e s. elim (or_cases _ _ h) [
        | inl t ↦ news_not_older older l.clause d k a.0.news e (g k d e).ascending (λ x y. code-sub n d l.clause (s ∙ eqb-true _ _ t) (g k d e).ascending x (all_below-has n d x (g k d e).low y) y)
        | inr t ↦ rest.new q t k d (slice_get-append older (l.clause ∷ []) k d e) s
      ];
      not_zero = λ h. elim (or_cases _ _ h) [
        | inl t ↦ zero_code here a.0.news (eqb-true _ _ t)
        | inr t ↦ rest.not_zero t
      ];
    }
  where
    zero_code : IsGood n l.clause → IsNews older l.clause → 0 ≡ code n l.clause → ⊥
    zero_code i w e = false≢true (code-sub n l.clause [] (sym e ∙ sym (code-nil n)) i.ascending w.literal (all_below-has n l.clause w.literal i.low w.of_clause) w.of_clause)

codes-low : (n : ℕ) (lines : List Line) (q : ℕ) → list_any (eqb q) (codes n lines) ≡ true → q < 3 ^ n
unfolding codes
codes-low n [] q h = absurd (false≢true h)
codes-low n (l ∷ ls) q h = elim (or_cases _ _ h) [ inl t ↦ subst (λ (k : ℕ). k < 3 ^ n) (sym (eqb-true _ _ t)) (code-low n l.clause) | inr t ↦ codes-low n ls q t ]

codes-length : (n : ℕ) (lines : List Line) → length (codes n lines) ≡ length lines
unfolding codes
codes-length n [] = refl
codes-length n (l ∷ ls) = ap suc (codes-length n ls)

pow-positive : (n : ℕ) → 0 < 3 ^ n
pow-positive n = let h = code-low n [] in omega arith

-- a spent log of n variables has fewer than 3^n lines, even with one more
pub spent_few : (n : ℕ) (formula : List (List Lit)) (budget : ℕ) (lines : List Line) → are_clauses n formula ≡ true → IsSpent formula budget lines → budget + 2 ≤ 3 ^ n
spent_few n formula budget lines g s =
    let all = AreNewLines-push formula lines s.next s.new s.more in
    let d = differ n formula (lines ++ s.next ∷ []) (are_good n formula g) all in
    let most = length-le_from_distinct_below (0 ∷ codes n (lines ++ s.next ∷ [])) (3 ^ n) (IsDistinct-cons eqb 0 _ (none_equal 0 _ d.not_zero) d.distinct) low in
    let count = codes-length n (lines ++ s.next ∷ []) in
    let push = length_push lines s.next in
    let b : length lines ≡ budget = s.count in
    omega arith
  where
    low : (q : ℕ) → list_any (eqb q) (0 ∷ codes n (lines ++ s.next ∷ [])) ≡ true → q < 3 ^ n
    low q h = elim (or_cases _ _ h) [ inl t ↦ subst (λ (k : ℕ). k < 3 ^ n) (sym (eqb-true _ _ t)) (pow-positive n) | inr t ↦ codes-low n (lines ++ s.next ∷ []) q t ]
