-- What a call of the program does with its shelf and its sink.
use Rattle.std.specs.Prelude.{◌≡◌, ◌<◌, ◌≤◌, ℕ, List, length, take, Option, Some, IfSome, IsSomeAnd}
use Rattle.ct_outside.specs.declared.reading.TheConstants.{LONGEST}
use Rattle.ct_outside.specs.Count.{Rose}
use Rattle.ct_outside.specs.Told.{told_append}

-- the files of the shelf, where it tells them; the names that it was asked for, before the call and after it;
-- how many bytes it gave of the last file begun; and its faults, before and after
pub record Reading : Type 0 where
  pub files : Option (List ℕ → Option (List ℕ))
  pub asked_before : List (List ℕ)
  pub asked : List (List ℕ)
  pub given : ℕ
  pub faults_before : ℕ
  pub faults : ℕ

-- what a call read, by the ghost members of its shelf and by the shelf before and after it
abbrev pub read_of : {F : Type 0} → (F → Option (List ℕ → Option (List ℕ))) → (F → List (List ℕ)) → (F → ℕ) → (F → ℕ) → F → F → Reading
read_of files asked given faults before after = record {
  files = files before;
  asked_before = asked before;
  asked = asked after;
  given = given after;
  faults_before = faults before;
  faults = faults after;
}

-- the bytes written, where the sink tells them, before the call and after it; how many it was sure to take; and its faults, before and after
pub record Writing : Type 0 where
  pub before : Option (List ℕ)
  pub after : Option (List ℕ)
  pub sure : ℕ
  pub faults_before : ℕ
  pub faults : ℕ

-- what a call wrote, by the ghost members of its sink and by the sink before and after it
abbrev pub wrote_of : {S : Type 0} → (S → Option (List ℕ)) → (S → ℕ) → (S → ℕ) → S → S → Writing
wrote_of written sure faults before after = record {
  before = written before;
  after = written after;
  sure = sure before;
  faults_before = faults before;
  faults = faults after;
}

-- the shelf failed in this call
abbrev pub ShelfFailed : Reading → Type 0
ShelfFailed reading = Rose reading.faults_before reading.faults

-- the sink failed in this call
abbrev pub SinkFailed : Writing → Type 0
SinkFailed writing = Rose writing.faults_before writing.faults

-- the shelf was asked for nothing
abbrev pub AskedNothing : Reading → Type 0
AskedNothing reading = reading.asked ≡ reading.asked_before

-- the file of this name was read whole as these bytes, which are its own where the shelf tells its files
pub record WasRead (reading : Reading) (name bytes : List ℕ) : Type 0 where
  pub own : IfSome reading.files (λ known. known name ≡ Some bytes)
  pub given : reading.given ≡ length bytes
  pub short : length bytes ≤ LONGEST

-- the shelf gave more than LONGEST bytes of the file of this name, which has them where the shelf tells its files
pub record WasLong (reading : Reading) (name : List ℕ) : Type 0 where
  pub given : LONGEST < reading.given
  pub own : IfSome reading.files (λ known. IsSomeAnd (known name) (λ bytes. LONGEST < length bytes))

-- reading failed, after at most LONGEST bytes
pub record WasCutOff (reading : Reading) : Type 0 where
  pub cause : ShelfFailed reading
  pub short : reading.given ≤ LONGEST

-- nothing was written
abbrev pub WroteNothing : Writing → Type 0
WroteNothing writing = writing.after ≡ writing.before

-- the whole text was written
abbrev pub WroteWhole : Writing → List ℕ → Type 0
WroteWhole writing text = writing.after ≡ told_append writing.before text

-- a front of the text was written, and then the sink failed, which wasn't sure to take it all
pub record WroteFront (writing : Writing) (text : List ℕ) : Type 0 where
  pub taken : ℕ
  pub less : taken < length text
  pub front : writing.after ≡ told_append writing.before (take taken text)
  pub cause : SinkFailed writing
  pub unsure : writing.sure < length text
