-- The two names of a check, by their places.
use Rattle.std.proofs.Common.{◌≡◌, ℕ, List, [], ◌∷◌, Option, None, Some, slice_get, refl}
use Rattle.std.specs.Option.{option_zip}
use Rattle.ct_lines.specs.CheckWords.{two_names}
use Rattle.ct_lines.specs.Words.{name_of}

-- a first and a second word with no third
abbrev pub names_at : Option (List ℕ) → Option (List ℕ) → Option (List ℕ) → Option (List ℕ × List ℕ)
names_at (Some first) (Some second) None = option_zip (name_of first) (name_of second)
names_at _ _ _ = None

-- two names are the words at the first two places, where no third has one
pub two_names_at : (words : List (List ℕ)) → two_names words ≡ names_at (slice_get words 0) (slice_get words 1) (slice_get words 2)
two_names_at [] = refl
two_names_at (a ∷ []) = refl
two_names_at (a ∷ b ∷ []) = refl
two_names_at (a ∷ b ∷ c ∷ rest) = refl
