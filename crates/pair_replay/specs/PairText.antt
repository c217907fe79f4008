-- The text of a pair, and the first bad line of bytes that are none.
use Rattle.std.specs.Prelude.{ℕ, ◌≡◌, ◌≢◌, ◌+◌, ◌-◌, ◌≤◌, ◌<◌, List, [], ◌∷◌, ◌++◌, Option, Some, None, length, take, slice_get, All, codes}
use Rattle.ct_rows.specs.Lines.{line}
use Rattle.ct_texts.specs.Bytes.{bytes_text}
use Rattle.ct_pairs.specs.Inputs.{public_count, secret_count}
use Rattle.ct_pairs.specs.declared.input_byte.InputByte.{InputByte}
use Rattle.ct_pairs.specs.declared.job.Job.{Job}
use Rattle.ct_pairs.specs.declared.pair.Pair.{Pair}
use Rattle.pair_replay.specs.declared.refusal.PairRefusal.{PairRefusal}
use Rattle.pair_replay.specs.declared.refusal.PairRefusal.TheVariants.{Memory, Line}

-- the line of one list of values: its name, a space, and two digits a value or - where there is none
unfoldable pub values_line : List ℕ → List ℕ → List ℕ
values_line name values = line (name ++ codes " " ++ bytes_text values)

-- the four lines of a pair
unfoldable pub pair_text : Pair → List ℕ
pair_text pair =
    line (codes "pair 1")
    ++ values_line (codes "shared") pair.shared
    ++ values_line (codes "left") pair.left
    ++ values_line (codes "right") pair.right

-- so many values, each a byte
pub record AreValues (count : ℕ) (values : List ℕ) : Type 0 where
  pub length_is : length values ≡ count
  pub bytes : All (λ value. value < 256) values

-- what a line is to be: this text, or so many values with this name
pub data Wanted : Type 0 where
  Heading : List ℕ → Wanted
  Values : List ℕ → ℕ → Wanted

-- the lines of a pair for these inputs
abbrev pub lines_for : List InputByte → List Wanted
lines_for inputs =
    Heading (codes "pair 1")
    ∷ Values (codes "shared") (public_count inputs)
    ∷ Values (codes "left") (secret_count inputs)
    ∷ Values (codes "right") (secret_count inputs)
    ∷ []

-- the lines of a pair of the job
abbrev pub wanted_lines : Job → List Wanted
wanted_lines job = lines_for job.inputs

-- the bytes begin with the line that is wanted, and the rest follows
abbrev pub BeginsWith : Wanted → List ℕ → List ℕ → Type 0
BeginsWith (Heading text) bytes rest = bytes ≡ line text ++ rest
BeginsWith (Values name count) bytes rest = (found : List ℕ) × AreValues count found × (bytes ≡ values_line name found ++ rest)

-- the bytes begin with the lines that are wanted, in order, and the rest follows
abbrev pub HasLines : List Wanted → List ℕ → List ℕ → Type 0
HasLines [] bytes rest = bytes ≡ rest
HasLines (wanted ∷ more) bytes rest = (next : List ℕ) × BeginsWith wanted bytes next × HasLines more next rest

-- the bytes don't begin with the line that is wanted; where none is wanted, there are some
abbrev pub IsBad : Option Wanted → List ℕ → Type 0
IsBad (Some wanted) bytes = (rest : List ℕ) → BeginsWith wanted bytes rest → ⊥
IsBad None bytes = bytes ≢ []

-- line k, counted from 1, is the first bad one: the lines before it are as wanted, and it isn't
pub record IsBadLine (wanted : List Wanted) (bytes : List ℕ) (k : ℕ) : Type 0 where
  pub from_one : 1 ≤ k
  pub at_most : k ≤ length wanted + 1
  pub rest : List ℕ
  pub before : HasLines (take (k - 1) wanted) bytes rest
  pub bad : IsBad (slice_get wanted (k - 1)) rest

-- a refusal names the first bad line, or want of memory
abbrev pub HasBadLine : Job → List ℕ → PairRefusal → Type 0
HasBadLine job bytes Memory = Unit {0}
HasBadLine job bytes (Line k) = IsBadLine (wanted_lines job) bytes k
