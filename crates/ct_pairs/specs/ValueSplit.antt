-- Which of two splits at one site is reported.
use Rattle.std.specs.Prelude.{◌≡◌, ◌≢◌, ℕ, ◌≤◌, nat_lt, ◌==◌, Bool, ◌&&◌, ◌||◌, [], ◌∷◌, Option, Some, None, if◌then◌else◌}
use Rattle.ct_pairs.specs.declared.value_split.ValueSplit.{ValueSplit}
use Rattle.ct_pairs.specs.declared.pair.Pair.{Pair}
use Rattle.ct_pairs.specs.declared.found.Found.{Found}

-- whether a comes before b by step, then left, then right
abbrev pub comes_before : ValueSplit → ValueSplit → Bool
comes_before a b =
    nat_lt a.step b.step || (a.step == b.step && (nat_lt a.left b.left || (a.left == b.left && nat_lt a.right b.right)))

-- the one that comes before the other, and the old one if they are equal
abbrev pub earlier : Option ValueSplit → ValueSplit → ValueSplit
earlier None new = new
earlier (Some old) new = if comes_before new old then new else old

-- the leak comes no later than a split at this step of these values
pub record IsWithin (leak : ValueSplit) (k l r : ℕ) : Type 0 where
  pub step : leak.step ≤ k
  pub left : leak.step ≡ k → leak.left ≤ l
  pub right : leak.step ≡ k → leak.left ≡ l → leak.right ≤ r

-- the table with this split, where it comes before the one that is there
pub record Notes (old new : ℕ → Option ValueSplit) (site : ℕ) (leak : ValueSplit) : Type 0 where
  pub here : new site ≡ Some (earlier (old site) leak)
  pub others : (q : ℕ) → q ≢ site → new q ≡ old q

-- the table has the site, no later
abbrev pub Covers : (ℕ → Option ValueSplit) → ℕ → ℕ → ℕ → ℕ → Type 0
Covers table site step left right = (leak : ValueSplit) × (table site ≡ Some leak) × IsWithin leak step left right

-- the pair of two values of the one secret byte
abbrev pub value_pair : ℕ → ℕ → Pair
value_pair left right = record { shared = []; left = left ∷ []; right = right ∷ [] }

-- a row of the table as it is reported
abbrev pub found_of : ℕ × ValueSplit → Found
found_of row = record { site = row.0; step = row.1.step; pair = value_pair row.1.left row.1.right }
