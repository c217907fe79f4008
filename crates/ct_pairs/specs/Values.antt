-- Every list of bytes of one length.
use Rattle.std.specs.Prelude.{ℕ, zero, suc, List, [], ◌∷◌, map}
use Rattle.std.specs.List.{flat_map, range_with_len}

-- every list of n bytes, in dictionary order
unfoldable pub all_values : ℕ → List (List ℕ)
all_values zero = [] ∷ []
all_values (suc n) = flat_map (λ value. map (λ values. value ∷ values) (all_values n)) (range_with_len 0 256)
