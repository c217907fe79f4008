-- Tests of lists, and lists that are read item by item.
use Rattle.std.proofs.Common.{◌≡◌, ℕ, zero, suc, ◌+◌, ◌<◌, ◌≤◌, Bool, true, false, not, ◌||◌, List, [], ◌∷◌, ◌++◌, length, get_or, take, map, Option, Some, None, refl, sym, ap, ◌∙◌, inl, inr, append_assoc, arith}
use Rattle.std.specs.List.{list_any, list_all, flat_map, find, filter_map, cons_option, position, position_from, range_with_len}
use Rattle.std.specs.Option.{is_some, option_or}
use Rattle.std.proofs.lemmas.Bool.{and_parts, cases_Bool, cases_lt}
use Rattle.std.proofs.lemmas.Iterator.Adapters.{position_from-zero}
use Rattle.std.proofs.lemmas.List.{take_more}
use Rattle.std.proofs.lemmas.List.Elements.{filter_map-append}
use Rattle.std.proofs.lemmas.List.Folds.{find-append}

-- `not`

pub false-from_not : (b : Bool) → not b ≡ true → b ≡ false
false-from_not true e = absurd cc
false-from_not false e = refl

pub true-from_not : (b : Bool) → not b ≡ false → b ≡ true
true-from_not true e = refl
true-from_not false e = absurd cc

pub or_swap : (a b c : Bool) → (a || (b || c)) ≡ (b || (a || c))
or_swap true true c = refl
or_swap true false c = refl
or_swap false true c = refl
or_swap false false c = refl

pub or_false : (a b : Bool) → (a || b) ≡ false → (a ≡ false) × (b ≡ false)
or_false true b e = absurd cc
or_false false b e = (refl, e)

-- tests of lists

-- a weaker test
pub list_any-weaker : {A : Type 0} (test weaker : A → Bool) (xs : List A) → ((x : A) → test x ≡ true → weaker x ≡ true) → list_any test xs ≡ true → list_any weaker xs ≡ true
list_any-weaker test weaker [] implied some = absurd cc
list_any-weaker test weaker (x ∷ xs) implied some = later (test x) (weaker x) (list_any weaker xs) (implied x) (list_any-weaker test weaker xs implied) some
  where
    later : {rest : Bool} (here weak weak_rest : Bool) → (here ≡ true → weak ≡ true) → (rest ≡ true → weak_rest ≡ true) → (here || rest) ≡ true → (weak || weak_rest) ≡ true
    later true weak weak_rest first others either = ap (λ b. b || weak_rest) (first refl)
    later false true weak_rest first others either = refl
    later false false weak_rest first others either = others either

-- a test of the images of a range
pub list_all-map_range : {A : Type 0} (test : A → Bool) (image : ℕ → A) (first count : ℕ) → ((k : ℕ) → first ≤ k → k < first + count → test (image k) ≡ true)
    → list_all test (map image (range_with_len first count)) ≡ true
list_all-map_range test image first zero each = refl
list_all-map_range test image first (suc count) each =
    rw (each first (omega arith) (omega arith)) (list_all-map_range test image (first + 1) count (λ k low high. each k (omega arith) (omega arith)))

-- a number of a range whose numbers all pass
pub list_all-range_at : (test : ℕ → Bool) (first count k : ℕ) → list_all test (range_with_len first count) ≡ true → first ≤ k → k < first + count → test k ≡ true
list_all-range_at test first zero k all low high = absurd (omega arith)
list_all-range_at test first (suc count) k all low high =
    let both = and_parts (test first) _ all in
    elim (cases_lt first k) [
      | inl after ↦ list_all-range_at test (first + 1) count k both.1 (omega arith) (omega arith)
      | inr past ↦ let same : k ≡ first = omega arith in rw same both.0
    ]

-- what is found in one of two lists
pub is_some-or : {A : Type 0} (a b : Option A) → is_some (option_or a b) ≡ (is_some a || is_some b)
is_some-or None b = refl
is_some-or (Some x) b = refl

-- what is found in a list of lists
pub is_some-find-flat_map : {A B : Type 0} (test : B → Bool) (image : A → List B) (xs : List A)
    → is_some (find test (flat_map image xs)) ≡ list_any (λ x. is_some (find test (image x))) xs
is_some-find-flat_map test image [] = refl
is_some-find-flat_map test image (x ∷ xs) =
    ap is_some (find-append test (image x) (flat_map image xs))
    ∙ is_some-or (find test (image x)) _
    ∙ ap (λ rest. is_some (find test (image x)) || rest) (is_some-find-flat_map test image xs)

none_later : {A : Type 0} (test : A → Bool) (xs : List A) (i : ℕ) → position_from test i xs ≡ None → list_all (λ x. not (test x)) xs ≡ true
none_later test [] i none = refl
none_later test (x ∷ xs) i none =
    elim (cases_Bool (test x)) [
      | inl passes ↦ let found : Some i ≡ None = rw passes at none in absurd cc
      | inr fails ↦ rw fails (none_later test xs (i + 1) (rw fails at none))
    ]

-- a test that no item passes
pub position-none : {A : Type 0} (test : A → Bool) (xs : List A) → position test xs ≡ None → list_all (λ x. not (test x)) xs ≡ true
position-none test xs none = none_later test xs 0 (sym (position_from-zero test xs) ∙ none)

-- an item of a list whose items all pass
pub list_all_at : {A : Type 0} (test : A → Bool) (xs : List A) (i : ℕ) (d : A) → list_all test xs ≡ true → i < length xs → test (get_or xs i d) ≡ true
list_all_at test [] i d all inside = absurd (omega arith)
list_all_at test (x ∷ xs) zero d all inside = (and_parts (test x) _ all).0
list_all_at test (x ∷ xs) (suc i) d all inside = list_all_at test xs i d (and_parts (test x) _ all).1 (omega arith)

-- lists that grow at the end

-- an item more, after those that were there first
pub pushed : {A : Type 0} (new old first done next : List A) (x : A) → new ≡ old ++ x ∷ [] → old ≡ first ++ done → next ≡ done ++ x ∷ [] → new ≡ first ++ next
pushed new old first done next x push so_far more =
    push ∙ ap (λ items. items ++ x ∷ []) so_far ∙ append_assoc first done (x ∷ []) ∙ ap (λ items. first ++ items) (sym more)

-- the images of one item more
pub filter_map_more : {A B : Type 0} (image : A → Option B) (xs : List A) (i : ℕ) (d : A) → i < length xs
    → filter_map image (take (i + 1) xs) ≡ filter_map image (take i xs) ++ cons_option (image (get_or xs i d)) []
filter_map_more image xs i d inside =
    ap (filter_map image) (take_more xs i d inside) ∙ filter_map-append image (take i xs) (get_or xs i d ∷ [])
