-- What is known of a job with one secret byte after some of its values.
use Rattle.std.specs.Prelude.{◌≡◌, ℕ, ◌+◌, ◌<◌, ◌≤◌, List, [], ◌∷◌, length, map, get_or, Option, Some}
use Rattle.std.specs.List.{range_with_len}
use Rattle.std.specs.Ordering.{nat_cmp}
use Rattle.std.specs.BTreeMap.{BTreeMap, get}
use Rattle.rv_machine.specs.declared.«record».Record.{Record}
use Rattle.ct_pairs.specs.declared.value_split.ValueSplit.{ValueSplit}
use Rattle.ct_pairs.specs.declared.job.Job.{Job}
use Rattle.ct_pairs.specs.Start.{run_trail}
use Rattle.ct_pairs.specs.Split.{FirstSplit}
use Rattle.ct_pairs.specs.Paths.{nexts}
use Rattle.ct_pairs.specs.Different.{different}
use Rattle.ct_pairs.specs.ValueSplit.{Covers}

-- two trails first split at this site and step
abbrev pub SplitAt : List Record → List Record → ℕ → ℕ → Type 0
SplitAt xs ys site step = (a : Record) × (b : Record) × FirstSplit xs ys step a b × (a.pc ≡ site) × (b.pc ≡ site)

-- the trail of a value of the one secret byte, up to the bound
abbrev pub value_trail : Job → ℕ → List Record
value_trail job value = run_trail job [] (value ∷ []) job.bound

-- where the values go: X is the trails, `list v` the trail of the value v, and S x y site step says that
-- the trails x and y first split there
module _ {X : Type 0} (S : X → X → ℕ → ℕ → Type 0) (list : ℕ → X) where
  -- the leak is a split of two different values below n
  abbrev pub IsSplitBelow : ℕ → ℕ → ValueSplit → Type 0
  IsSplitBelow n site leak = (leak.left < leak.right) × (leak.right < n) × S (list leak.left) (list leak.right) site leak.step

  -- each row is
  abbrev pub AreSplits : ℕ → (ℕ → Option ValueSplit) → Type 0
  AreSplits n table = (site : ℕ) (leak : ValueSplit) → table site ≡ Some leak → IsSplitBelow n site leak

  -- each split of two values below n is covered
  abbrev pub CoversBelow : ℕ → (ℕ → Option ValueSplit) → Type 0
  CoversBelow n table = (l r site step : ℕ) → l < n → r < n → S (list l) (list r) site step → Covers table site step l r

  -- the representatives of the values below n: each is below n, and each value has the trail of one that isn't above it
  pub record Represent (values : List ℕ) (n : ℕ) : Type 0 where
    pub below : (j : ℕ) → j < length values → get_or values j 0 < n
    pub each : (v : ℕ) → v < n → (j : ℕ) × (j < length values) × (get_or values j 0 ≤ v) × (list (get_or values j 0) ≡ list v)

  -- the table after the pairs of n with the first i representatives
  pub record IsMet (values : List ℕ) (i n : ℕ) (table : ℕ → Option ValueSplit) : Type 0 where
    pub splits : AreSplits (n + 1) table
    pub before : CoversBelow n table
    pub met : (j : ℕ) → j < i → (site step : ℕ) → S (list (get_or values j 0)) (list n) site step → Covers table site step (get_or values j 0) n

-- after the values below n: who represents them, the table of their splits, and their different paths
pub record IsSurveyed (job : Job) (n : ℕ) (representatives : List ℕ) (leaks : BTreeMap ℕ ValueSplit) (paths : List (List ℕ)) : Type 0 where
  pub represent : Represent SplitAt (value_trail job) representatives n
  pub splits : AreSplits SplitAt (value_trail job) n (get nat_cmp leaks)
  pub covers : CoversBelow SplitAt (value_trail job) n (get nat_cmp leaks)
  pub counted : paths ≡ different (map (λ v. nexts (value_trail job v)) (range_with_len 0 n))
