-- The first two ranges that share an address, from an index on.
use Rattle.std.proofs.Common.{◌≡◌, ℕ, zero, suc, ◌+◌, ◌-◌, ◌<◌, ◌≤◌, Bool, true, false, not, cond, ltb, List, [], ◌∷◌, length, get_or, map, take, drop, All, Some, None, refl, sym, ap, ◌∙◌, arith}
use Rattle.std.specs.List.{AllPairs, position, position_or_len}
use Rattle.std.specs.Option.{option_or, option_map}
use Rattle.std.proofs.lemmas.Bool.{ltb-false, not-true}
use Rattle.std.proofs.lemmas.List.{drop_more, drop_all, take_rest}
use Rattle.std.proofs.lemmas.List.Elements.{All-map}
use Rattle.std.proofs.lemmas.List.Kept.{AllPairs-cons}
use Rattle.std.proofs.lemmas.List.Sums.{prefix_len_passes}
use Rattle.ct_rows.proofs.RuleLaws.{option_or-none, option_map-none}
use Rattle.elf_load.specs.Overlap.{share_address, first_pair_from, first_overlap}

first_pair_from-drop : {T : Type 0} (related : T → T → Bool) (items : List T) (index : ℕ) (d : T) → index < length items
    → first_pair_from related index (drop index items)
    ≡ option_or (option_map (λ distance. (index, index + 1 + distance)) (position (related (get_or items index d)) (drop (index + 1) items))) (first_pair_from related (index + 1) (drop (index + 1) items))
unfolding first_pair_from
first_pair_from-drop related items index d inside = rw (drop_more items index d inside) refl

pub pair_here : {T : Type 0} (related : T → T → Bool) (items : List T) (index distance : ℕ) (item : T) → index < length items
    → item ≡ get_or items index item → Some distance ≡ position (related item) (take (length items - (index + 1)) (drop (index + 1) items))
    → first_pair_from related index (drop index items) ≡ Some (index, index + 1 + distance)
pair_here related items index distance item inside is found =
    first_pair_from-drop related items index item inside
    ∙ rw (sym is, sym (found ∙ ap (position (related item)) (take_rest items (index + 1)))) refl

pub pair_later : {T : Type 0} (related : T → T → Bool) (items : List T) (index : ℕ) (item : T) → index < length items
    → item ≡ get_or items index item → None ≡ position (related item) (take (length items - (index + 1)) (drop (index + 1) items))
    → first_pair_from related index (drop index items) ≡ first_pair_from related (index + 1) (drop (index + 1) items)
pair_later related items index item inside is nowhere =
    first_pair_from-drop related items index item inside
    ∙ rw (sym is, sym (nowhere ∙ ap (position (related item)) (take_rest items (index + 1)))) refl

pub pair_nowhere : {T : Type 0} (related : T → T → Bool) (items : List T) (index : ℕ) → length items ≤ index → first_pair_from related index (drop index items) ≡ None
unfolding first_pair_from
pair_nowhere related items index past = rw (drop_all index items past) refl

cond-none : (test : Bool) (index : ℕ) → cond test (Some index) None ≡ None → test ≡ false
cond-none true index none = absurd cc
cond-none false index none = refl

-- where no element passes, each fails
pub position-none : {X : Type 0} (p : X → Bool) (xs : List X) → position p xs ≡ None → All (λ x. p x ≡ false) xs
position-none p xs none k d inside =
    let all : length xs ≤ position_or_len p xs = ltb-false _ _ (cond-none (ltb (position_or_len p xs) (length xs)) (position_or_len p xs) none) in
    not-true _ (prefix_len_passes (λ x. not (p x)) xs k d (omega arith))

-- where no pair is the first, no item is related to the ones after it
pub pair_none : {T : Type 0} (related : T → T → Bool) (item : T) (items : List T) (index : ℕ) → first_pair_from related index (item ∷ items) ≡ None
    → (All (λ other. related item other ≡ false) items) × (first_pair_from related (index + 1) items ≡ None)
unfolding first_pair_from
pair_none related item items index none =
    let both = option_or-none (option_map (λ distance. (index, index + 1 + distance)) (position (related item) items)) (first_pair_from related (index + 1) items) none in
    (position-none (related item) items (option_map-none (λ (distance : ℕ). (index, index + 1 + distance)) (position (related item) items) both.0), both.1)

pairs_apart : {T : Type 0} (related : T → T → Bool) (items : List T) (index : ℕ) → first_pair_from related index items ≡ None
    → AllPairs (λ left right. related left right ≡ false) items
pairs_apart related [] index none = λ i j d before inside. absurd (omega arith)
pairs_apart related (item ∷ items) index none =
    let both = pair_none related item items index none in
    AllPairs-cons (λ left right. related left right ≡ false) item items both.0 (pairs_apart related items (index + 1) both.1)

-- where no overlap is the first, no two ranges share an address
pub none_share : {T : Type 0} (first past : T → ℕ) (ranges : List T) → first_overlap first past ranges ≡ None
    → AllPairs (λ left right. share_address first past left right ≡ false) ranges
unfolding first_overlap
none_share first past ranges none = pairs_apart (share_address first past) ranges 0 none

-- what is related by images
pub AllPairs-map : {X Y : Type 0} (R : Y → Y → Type 0) (f : X → Y) (xs : List X) → AllPairs (λ x y. R (f x) (f y)) xs → AllPairs R (map f xs)
AllPairs-map R f [] pairs = λ i j d before inside. absurd (omega arith)
AllPairs-map {X} {Y} R f (x ∷ xs) pairs =
    let later : AllPairs (λ x y. R (f x) (f y)) xs = λ i j d before inside. pairs (suc i) (suc j) d (omega arith) (omega arith) in
    let first : All (λ y. R (f x) (f y)) xs = λ k d inside. pairs zero (suc k) d (omega arith) (omega arith) in
    AllPairs-cons R (f x) (map f xs) (All-map (λ y. R (f x) y) f xs first) (AllPairs-map R f xs later)
