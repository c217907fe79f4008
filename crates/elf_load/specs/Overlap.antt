-- The first two ranges of addresses that share an address.
use Rattle.std.specs.Prelude.{ℕ, ◌+◌, min, max, nat_lt, Bool, List, [], ◌∷◌, Option, None, position}
use Rattle.std.specs.Option.{option_or, option_map}

-- two ranges, by their first addresses and by the addresses after their last ones, share an address
abbrev pub share_address : {T : Type 0} → (T → ℕ) → (T → ℕ) → T → T → Bool
share_address first past left right = nat_lt (max (first left) (first right)) (min (past left) (past right))

-- the first pair that is related, by the indices of its items, of which the first item has at least this index
unfoldable pub first_pair_from : {T : Type 0} → (T → T → Bool) → ℕ → List T → Option (ℕ × ℕ)
first_pair_from related index [] = None
first_pair_from related index (item ∷ items) =
    option_or (option_map (λ distance. (index, index + 1 + distance)) (position (related item) items)) (first_pair_from related (index + 1) items)

-- the first pair of ranges that share an address, by their indices from 0
unfoldable pub first_overlap : {T : Type 0} → (T → ℕ) → (T → ℕ) → List T → Option (ℕ × ℕ)
first_overlap first past ranges = first_pair_from (share_address first past) 0 ranges
