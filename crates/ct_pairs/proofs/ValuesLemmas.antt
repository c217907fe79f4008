-- Which lists of bytes there are of one length.
use Rattle.std.proofs.Common.{◌≡◌, ℕ, zero, suc, ◌<◌, List, [], ◌∷◌, length, map, refl, sym, ◌∙◌, ap, subst, ◌⊎◌, inl, inr, arith}
use Rattle.std.specs.List.{Contains, All, flat_map, range_with_len}
use Rattle.std.proofs.lemmas.List.Elements.{Contains-append_left, Contains-append_right, Contains-append_cases, All-cons, All-head, All-tail}
use Rattle.std.proofs.lemmas.List.FromFn.{length-range_with_len, get_or-range_with_len}
use Rattle.ct_pairs.specs.Values.{all_values}

-- membership, one element at a time
pub Contains-tail : {X : Type 0} (x : X) (xs : List X) (t : X) → Contains xs t → Contains (x ∷ xs) t
Contains-tail x xs t h = (suc h.0, omega (arith, h.1), h.2)

pub Contains-cons_cases : {X : Type 0} (x : X) (xs : List X) (t : X) → Contains (x ∷ xs) t → (x ≡ t) ⊎ Contains xs t
Contains-cons_cases x xs t (zero, within, at) = inl at
Contains-cons_cases x xs t (suc k, within, at) = inr (k, omega (arith, within), at)

Contains-nil : {X : Type 0} (P : Type 0) (t : X) → Contains [] t → P
Contains-nil P t h = absurd (omega (arith, h.1))

-- what a map or a flat map has
pub Contains-map : {X Y : Type 0} (f : X → Y) (xs : List X) (x : X) → Contains xs x → Contains (map f xs) (f x)
Contains-map f [] x h = Contains-nil _ x h
Contains-map f (y ∷ ys) x h =
    elim (Contains-cons_cases y ys x h) [ inl same ↦ (0, omega arith, ap f same) | inr later ↦ Contains-tail (f y) (map f ys) (f x) (Contains-map f ys x later) ]

pub Contains-map_only : {X Y : Type 0} (f : X → Y) (xs : List X) (y : Y) → Contains (map f xs) y → (x : X) × Contains xs x × (f x ≡ y)
Contains-map_only f [] y h = Contains-nil _ y h
Contains-map_only f (x ∷ xs) y h =
    elim (Contains-cons_cases (f x) (map f xs) y h) [ inl same ↦ (x, (0, omega arith, refl), same) | inr later ↦ let (z, there, is) = Contains-map_only f xs y later in (z, Contains-tail x xs z there, is) ]

pub Contains-flat_map : {X Y : Type 0} (f : X → List Y) (xs : List X) (x : X) (y : Y) → Contains xs x → Contains (f x) y → Contains (flat_map f xs) y
Contains-flat_map f [] x y h there = Contains-nil _ x h
Contains-flat_map f (z ∷ zs) x y h there =
    elim (Contains-cons_cases z zs x h) [ inl same ↦ Contains-append_left (f z) (flat_map f zs) y (subst (λ w. Contains (f w) y) (sym same) there) | inr later ↦ Contains-append_right (f z) (flat_map f zs) y (Contains-flat_map f zs x y later there) ]

pub Contains-flat_map_only : {X Y : Type 0} (f : X → List Y) (xs : List X) (y : Y) → Contains (flat_map f xs) y → (x : X) × Contains xs x × Contains (f x) y
Contains-flat_map_only f [] y h = Contains-nil _ y h
Contains-flat_map_only f (x ∷ xs) y h =
    elim (Contains-append_cases (f x) (flat_map f xs) y h) [ inl here ↦ (x, (0, omega arith, refl), here) | inr later ↦ let (z, there, is) = Contains-flat_map_only f xs y later in (z, Contains-tail x xs z there, is) ]

-- the bytes
Contains-range : (n v : ℕ) → v < n → Contains (range_with_len 0 n) v
Contains-range n v below = (v, omega (arith, length-range_with_len 0 n), get_or-range_with_len 0 n v v below ∙ (omega arith))

Contains-range_only : (n v : ℕ) → Contains (range_with_len 0 n) v → v < n
Contains-range_only n v h =
    let e = get_or-range_with_len 0 n h.0 v (omega (arith, length-range_with_len 0 n, h.1)) in
    omega (arith, length-range_with_len 0 n, h.1, h.2, e)

-- every list of n bytes is there, and no other list
pub all_values_has : (n : ℕ) (values : List ℕ) → length values ≡ n → All (λ v. v < 256) values → Contains (all_values n) values
unfolding all_values
all_values_has zero [] e small = (0, omega arith, refl)
all_values_has zero (v ∷ vs) e small = absurd (omega (arith, e))
all_values_has (suc n) [] e small = absurd (omega (arith, e))
all_values_has (suc n) (v ∷ vs) e small =
    Contains-flat_map (λ value. map (λ values. value ∷ values) (all_values n)) (range_with_len 0 256) v (v ∷ vs)
    (Contains-range 256 v (All-head (λ v. v < 256) v vs small))
    (Contains-map (λ values. v ∷ values) (all_values n) vs (all_values_has n vs (omega (arith, e)) (All-tail (λ v. v < 256) v vs small)))

pub all_values_only : (n : ℕ) (values : List ℕ) → Contains (all_values n) values → (length values ≡ n) × All (λ v. v < 256) values
unfolding all_values
all_values_only zero values h =
    elim (Contains-cons_cases [] [] values h) [ inl same ↦ subst (λ vs. (length vs ≡ 0) × All (λ v. v < 256) vs) same (refl, λ k d within. absurd (omega (arith, within))) | inr later ↦ Contains-nil _ values later ]
all_values_only (suc n) values h =
    let (value, byte, there) = Contains-flat_map_only (λ value. map (λ values. value ∷ values) (all_values n)) (range_with_len 0 256) values h in
    let (rest, among, is) = Contains-map_only (λ values. value ∷ values) (all_values n) values there in
    let (long, small) = all_values_only n rest among in
    subst (λ vs. (length vs ≡ suc n) × All (λ v. v < 256) vs) is (ap suc long, All-cons (λ v. v < 256) value rest (Contains-range_only 256 value byte) small)

-- the lists of one byte
ones : (xs : List ℕ) → flat_map (λ value. map (λ values. value ∷ values) ([] ∷ [])) xs ≡ map (λ v. v ∷ []) xs
ones [] = refl
ones (x ∷ xs) = ap (λ vs. (x ∷ []) ∷ vs) (ones xs)

pub all_values-one : all_values 1 ≡ map (λ v. v ∷ []) (range_with_len 0 256)
unfolding all_values
all_values-one = ones (range_with_len 0 256)

pub all_values-none : all_values 0 ≡ [] ∷ []
unfolding all_values
all_values-none = refl
