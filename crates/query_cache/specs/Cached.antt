-- A cache of settled questions: what it holds, and what its calls answer and leave.
use Rattle.std.specs.Prelude.{ℕ, ◌≡◌, ◌≢◌, ◌+◌, ◌-◌, ◌^◌, ◌<◌, ◌≤◌, ◌⊎◌, Bool, true, false, List, ◌∷◌, Option, Some, None, length, take, min, remove, slice_get, All}
use Rattle.query_ask.specs.Questions.{Asked}
use Rattle.query_ask.specs.Verdicts.{Judged, IsVerdict}
use Rattle.query_ask.specs.declared.verdict.Verdict.{Verdict}
use Rattle.query_cache.specs.declared.cache.TheConstants.{MOST_ENTRIES, MOST_NODES}
use Rattle.query_cache.specs.declared.kept.Kept.{Kept}
use Rattle.query_cache.specs.declared.kept.Kept.TheVariants.{Done, TooLarge, Memory}

-- the entries, each a question and its verdict, the most recent first; and how often a verdict was answered
pub record Cached : Type 0 where
  pub entries : List (Asked × Verdict)
  pub hits : ℕ

-- the verdict is right for the question
abbrev pub HasRightVerdict : Asked × Verdict → Type 0
HasRightVerdict entry = IsVerdict entry.0 entry.1

-- the question has no more nodes than are kept
abbrev pub IsSmall : Asked × Verdict → Type 0
IsSmall entry = length entry.0.nodes ≤ MOST_NODES

-- the entries of a cache, and how many there may be
pub record AreKept (entries : List (Asked × Verdict)) (most : ℕ) : Type 0 where
  pub right : All HasRightVerdict entries
  pub small : All IsSmall entries
  pub room : most ≡ MOST_ENTRIES

-- each question has one entry
abbrev pub AreApart : List (Asked × Verdict) → Type 0
AreApart entries = (i j : ℕ) (question : Asked) (v w : Verdict) → slice_get entries i ≡ Some (question, v) → slice_get entries j ≡ Some (question, w) → i ≡ j

-- no entry is about the question
abbrev pub Lacks : Asked → List (Asked × Verdict) → Type 0
Lacks question entries = All (λ entry. entry.0 ≢ question) entries

-- the verdict of the entry about the question, and none where no entry is about it
abbrev pub HasVerdict : Asked → List (Asked × Verdict) → Option Verdict → Type 0
HasVerdict question entries None = Lacks question entries
HasVerdict question entries (Some verdict) = (at : ℕ) × (slice_get entries at ≡ Some (question, verdict))

-- the entry about the question came to the front, the others keep their order, and one hit more is counted
pub record ComesFirst (question : Asked) (before : Cached) (verdict : Verdict) (after : Cached) : Type 0 where
  pub at : ℕ
  pub here : slice_get before.entries at ≡ Some (question, verdict)
  pub entries : after.entries ≡ (question, verdict) ∷ remove before.entries at
  pub hits : after.hits ≡ min (before.hits + 1) (2 ^ 64 - 1)

-- what a look for a question leaves: where no entry is about it, the cache as it was
abbrev pub HasLooked : Asked → Cached → Option Verdict → Cached → Type 0
HasLooked question before None after = Lacks question before.entries × (after ≡ before)
HasLooked question before (Some verdict) after = ComesFirst question before verdict after

-- whether an entry is about the question, and what looking for it leaves
abbrev pub HasFound : Asked → Cached → Bool → Cached → Type 0
HasFound question before true after = (verdict : Verdict) × ComesFirst question before verdict after
HasFound question before false after = Lacks question before.entries × (after ≡ before)

-- an entry in front, in the place of an older one about its question
pub record Replaces (entry : Judged) (before after : List (Asked × Verdict)) : Type 0 where
  pub at : ℕ
  pub older : Verdict
  pub here : slice_get before at ≡ Some (entry.question, older)
  pub entries : after ≡ (entry.question, entry.verdict) ∷ remove before at

-- an entry in front, about whose question there was none; of a full cache the last entry is gone
pub record IsAdded (entry : Judged) (before after : List (Asked × Verdict)) : Type 0 where
  pub lacks : Lacks entry.question before
  pub entries : after ≡ (entry.question, entry.verdict) ∷ take (MOST_ENTRIES - 1) before

-- a question with too many nodes isn't kept, and only then the answer says so
abbrev pub HasSize : Judged → Kept → Type 0
HasSize entry Done = length entry.question.nodes ≤ MOST_NODES
HasSize entry TooLarge = MOST_NODES < length entry.question.nodes
HasSize entry Memory = length entry.question.nodes ≤ MOST_NODES

-- what keeping an entry answers and leaves: a refusal changes nothing
abbrev pub HasKept : Judged → Cached → Kept → Cached → Type 0
HasKept entry before Done after =
    HasSize entry Done × (Replaces entry before.entries after.entries ⊎ IsAdded entry before.entries after.entries)
    × (after.hits ≡ before.hits)
HasKept entry before TooLarge after = HasSize entry TooLarge × (after ≡ before)
HasKept entry before Memory after = HasSize entry Memory × (after ≡ before)
