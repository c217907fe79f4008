-- The different lists of a list of lists.
use Rattle.std.specs.Prelude.{ℕ, nat_eq, Bool, List, [], ◌∷◌, ◌++◌, if◌then◌else◌, fold}
use Rattle.std.specs.List.{list_any}
use Rattle.std.specs.Cmp.Lexicographic.{pointwise}

-- whether the list is among these
abbrev pub is_among : List (List ℕ) → List ℕ → Bool
is_among kept t = list_any (pointwise nat_eq t) kept

-- the list at the end, unless it is there
abbrev pub with_new : List (List ℕ) → List ℕ → List (List ℕ)
with_new kept t = if is_among kept t then kept else kept ++ t ∷ []

-- the different lists, each where it comes first
unfoldable pub different : List (List ℕ) → List (List ℕ)
different lists = fold with_new [] lists
