-- How many lists begin with a list, and how many with it and one more number.
use Rattle.std.proofs.Common.{◌≡◌, ◌≢◌, ◌⊎◌, ℕ, suc, zero, ◌+◌, ◌-◌, ◌<◌, ◌≤◌, max, Bool, true, false, cond, ◌&&◌, List, [], ◌∷◌, ◌++◌, length, get_or, map, fold, refl, sym, ◌∙◌, ap, subst, inl, inr, eqb, arith}
use Rattle.std.specs.List.{Contains, Any, AllByRecursion, IsDistinct, starts_with, count_by, sum_by}
use Rattle.std.specs.Cmp.Lexicographic.{pointwise, bytes_decides}
use Rattle.std.proofs.lemmas.Bool.{false≢true}
use Rattle.std.proofs.lemmas.Bool.Decides.{eqb_tells}
use Rattle.std.proofs.lemmas.List.Sums.{sum_by-cons, get_or-le-sum_by}
use Rattle.ct_pairs.proofs.ValuesLemmas.{Contains-tail}
use Rattle.path_run.specs.Counting.{times_in, weight_in}

abbrev one : Bool → ℕ
one b = cond b 1 0

abbrev starts : List ℕ → List ℕ → Bool
starts p t = starts_with eqb p t

-- sums
sum_by-plus : {X : Type 0} (f g : X → ℕ) (xs : List X) → sum_by (λ x. f x + g x) xs ≡ sum_by f xs + sum_by g xs
sum_by-plus f g [] = refl
sum_by-plus f g (x ∷ xs) = omega (arith, sum_by-cons (λ y. f y + g y) x xs, sum_by-cons f x xs, sum_by-cons g x xs, sum_by-plus f g xs)

sum_by-same : {X : Type 0} (f g : X → ℕ) (xs : List X) → ((x : X) → f x ≡ g x) → sum_by f xs ≡ sum_by g xs
sum_by-same f g xs e = ap (λ h. sum_by h xs) (λ i x. e x i)

sum_by-none : {X : Type 0} (f : X → ℕ) (xs : List X) → ((x : X) → f x ≡ 0) → sum_by f xs ≡ 0
sum_by-none f [] e = refl
sum_by-none f (x ∷ xs) e = omega (arith, sum_by-cons f x xs, e x, sum_by-none f xs e)

-- of different numbers at most one is x
other_at : (n x m : ℕ) → n ≡ x → eqb n m ≡ false → one (eqb m x && true) ≡ 0
other_at n x m same apart =
    elim (eqb_tells m x) [ inl (y1, e) ↦ absurd (false≢true (sym apart ∙ ap (λ k. eqb n k) (e ∙ sym same) ∙ equal_here n)) | inr (n1, e) ↦ ap (λ b. one (b && true)) n1 ]
  where
    equal_here : (k : ℕ) → eqb k k ≡ true
    equal_here k = elim (eqb_tells k k) [ inl (y1, e) ↦ y1 | inr (n1, e) ↦ absurd (e refl) ]

none_at : (n x : ℕ) (ns : List ℕ) → n ≡ x → AllByRecursion (λ m. eqb n m ≡ false) ns → sum_by (λ m. one (eqb m x && true)) ns ≡ 0
none_at n x [] same apart = refl
none_at n x (m ∷ ns) same apart =
    omega (arith, sum_by-cons (λ k. one (eqb k x && true)) m ns, other_at n x m same apart.0, none_at n x ns same apart.1)

heads : (x : ℕ) (ns : List ℕ) → IsDistinct eqb ns → sum_by (λ n. one (eqb n x && true)) ns ≤ 1
unfolding IsDistinct
heads x [] d = omega arith
heads x (n ∷ ns) d =
    elim (eqb_tells n x) [ inl (y1, e) ↦ omega (arith, sum_by-cons (λ k. one (eqb k x && true)) n ns, none_at n x ns e d.0, ap (λ b. one (b && true)) y1) | inr (n1, e) ↦ omega (arith, sum_by-cons (λ k. one (eqb k x && true)) n ns, heads x ns d.1, ap (λ b. one (b && true)) n1) ]

-- a list that begins with t is t, or begins with t and one of the numbers, and no more than that
parts_under : (b : Bool) (p t ns : List ℕ) → one (pointwise eqb t p) + sum_by (λ n. one (starts p (t ++ n ∷ []))) ns ≤ one (starts p t) → one (b && pointwise eqb t p) + sum_by (λ n. one (b && starts p (t ++ n ∷ []))) ns ≤ one (b && starts p t)
parts_under true p t ns h = h
parts_under false p t ns h = omega (arith, sum_by-none (λ (n : ℕ). one false) ns (λ n. refl))

parts_of_one : (p t ns : List ℕ) → IsDistinct eqb ns → one (pointwise eqb t p) + sum_by (λ n. one (starts p (t ++ n ∷ []))) ns ≤ one (starts p t)
parts_of_one [] [] ns d = omega (arith, sum_by-none (λ n. one (starts [] (n ∷ []))) ns (λ n. refl))
parts_of_one (x ∷ p) [] ns d = omega (arith, heads x ns d)
parts_of_one [] (y ∷ t) ns d = omega (arith, sum_by-none (λ n. one (starts [] (y ∷ (t ++ n ∷ [])))) ns (λ n. refl))
parts_of_one (x ∷ p) (y ∷ t) ns d = parts_under (eqb y x) p t ns (parts_of_one p t ns d)

-- a list counted, and those of the rest
weights-cons : (p : List ℕ) (ps : List (List ℕ)) (t ns : List ℕ) → sum_by (λ n. weight_in (p ∷ ps) (t ++ n ∷ [])) ns ≡ sum_by (λ n. one (starts p (t ++ n ∷ []))) ns + sum_by (λ n. weight_in ps (t ++ n ∷ [])) ns
weights-cons p ps t ns =
    sum_by-same (λ n. weight_in (p ∷ ps) (t ++ n ∷ [])) (λ n. one (starts p (t ++ n ∷ [])) + weight_in ps (t ++ n ∷ [])) ns (λ n. sum_by-cons (λ q. one (starts q (t ++ n ∷ []))) p ps)
    ∙ sum_by-plus (λ n. one (starts p (t ++ n ∷ []))) (λ n. weight_in ps (t ++ n ∷ [])) ns

-- those that are t and those that go on at different nexts are no more than those that begin with t
pub weight-parts : (ps : List (List ℕ)) (t ns : List ℕ) → IsDistinct eqb ns → times_in ps t + sum_by (λ n. weight_in ps (t ++ n ∷ [])) ns ≤ weight_in ps t
weight-parts [] t ns d = omega (arith, sum_by-none (λ n. weight_in [] (t ++ n ∷ [])) ns (λ n. refl))
weight-parts (p ∷ ps) t ns d =
    omega (arith, weights-cons p ps t ns, sum_by-cons (λ q. one (pointwise eqb t q)) p ps, sum_by-cons (λ q. one (starts q t)) p ps, parts_of_one p t ns d, weight-parts ps t ns d)

-- t itself, or on at one of the nexts
abbrev pub StaysOrGoes : List ℕ → List ℕ → List ℕ → Type 0
StaysOrGoes t ns p = (t ≡ p) ⊎ Any (λ n. starts_with eqb p (t ++ n ∷ []) ≡ true) ns

cover_of_one : (p t ns : List ℕ) → (starts p t ≡ true → StaysOrGoes t ns p) → one (starts p t) ≤ one (pointwise eqb t p) + sum_by (λ n. one (starts p (t ++ n ∷ []))) ns
cover_of_one p t ns h = by (starts p t) refl
  where
    by : (b : Bool) → starts p t ≡ b → one b ≤ one (pointwise eqb t p) + sum_by (λ n. one (starts p (t ++ n ∷ []))) ns
    by false e = omega arith
    by true e =
        elim (h e) [ inl same ↦ omega (arith, ap one ((bytes_decides t p).1 same)) | inr (k, n, below, at, y1) ↦ omega (arith, get_or-le-sum_by (λ m. one (starts p (t ++ m ∷ []))) ns k n below, ap (λ m. one (starts p (t ++ m ∷ []))) at, ap one y1) ]

-- where each list that begins with t is t or goes on at one of the nexts, there are no more
pub weight-cover : (ps : List (List ℕ)) (t ns : List ℕ) → ((p : List ℕ) → Contains ps p → starts_with eqb p t ≡ true → StaysOrGoes t ns p) → weight_in ps t ≤ times_in ps t + sum_by (λ n. weight_in ps (t ++ n ∷ [])) ns
weight-cover [] t ns h = omega arith
weight-cover (p ∷ ps) t ns h =
    omega (arith, weights-cons p ps t ns, sum_by-cons (λ q. one (pointwise eqb t q)) p ps, sum_by-cons (λ q. one (starts q t)) p ps, cover_of_one p t ns (h p (0, omega arith, refl)), weight-cover ps t ns (λ q there. h q (Contains-tail p ps q there)))
