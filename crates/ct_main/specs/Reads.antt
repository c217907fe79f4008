-- How the phases of a command ended, by what its shelf was asked for and gave.
use Rattle.std.specs.Prelude.{◌≡◌, ◌≢◌, ◌⊎◌, ◌≤◌, ℕ, List, [], ◌∷◌, ◌++◌, length, Some, None, IfSome}
use Rattle.std.specs.List.{last_or}
use Rattle.elf_load.specs.declared.refusal.ElfRefusal.TheVariants as files
use Rattle.ct_document.specs.declared.refusal.PolicyRefusal.TheVariants as policies
use Rattle.ct_outside.specs.declared.reading.TheConstants.{LONGEST}
use Rattle.ct_main.specs.declared.refusal.Refusal.{Refusal}
use Rattle.ct_main.specs.declared.refusal.Refusal.TheVariants.{Elf, Policy, PairText, Long, Memory, ReadFault}
use Rattle.ct_main.specs.Outside.{Reading, AskedNothing, WasRead, WasLong, WasCutOff}
use Rattle.ct_main.specs.Phases.{Phase, names_of, held, there, phases_refusal}

-- the shelf was asked for the files of these phases, each once and in order, and for no other
abbrev pub AskedFor : Reading → List Phase → Type 0
AskedFor reading phases = reading.asked ≡ reading.asked_before ++ names_of phases

-- the files of these phases hold this, which is their own where the shelf tells its files, and gave no refusal
pub record Passed (reading : Reading) (phases : List Phase) (contents : List (List ℕ)) : Type 0 where
  pub count : length contents ≡ length phases
  pub own : IfSome reading.files (λ known. held known phases ≡ there contents)
  pub meet : phases_refusal [] phases (there contents) ≡ None

-- the file of this phase was begun, after those of the phases before had passed, and no other was asked for; this is what those hold
pub record Begun (reading : Reading) (phases : List Phase) : Type 0 where
  pub before : List Phase
  pub begun : Phase
  pub to_come : List Phase
  pub split : phases ≡ before ++ begun ∷ to_come
  pub contents : List (List ℕ)
  pub passed : Passed reading before contents
  pub asks : AskedFor reading (before ++ begun ∷ [])

-- the file that was begun last was read whole, and gave this refusal
pub record WasRefused (reading : Reading) (phases : List Phase) (refusal : Refusal) : Type 0 where
  pub last : Begun reading phases
  pub bytes : List ℕ
  pub read : WasRead reading last.begun.0 bytes
  pub first : last.begun.1 (last.contents ++ bytes ∷ []) ≡ Some refusal

-- the file that was begun last has too many bytes
pub record StoppedLong (reading : Reading) (phases : List Phase) : Type 0 where
  pub last : Begun reading phases
  pub long : WasLong reading last.begun.0

-- reading the file that was begun last failed
pub record StoppedCutOff (reading : Reading) (phases : List Phase) : Type 0 where
  pub last : Begun reading phases
  pub cut_off : WasCutOff reading

-- all files were read whole and passed; this is what they hold
pub record Accepted (reading : Reading) (phases : List Phase) (contents : List (List ℕ)) : Type 0 where
  pub passed : Passed reading phases contents
  pub asks : AskedFor reading phases
  pub given : IfSome (last_or None contents) (λ bytes. (reading.given ≡ length bytes) × (length bytes ≤ LONGEST))

-- memory may be wanted at any time: before a file was begun, after one was, or after all had passed
abbrev pub WantedMemory : Reading → List Phase → Type 0
WantedMemory reading phases = AskedNothing reading ⊎ (Begun reading phases ⊎ ((contents : List (List ℕ)) × Accepted reading phases contents))

-- the refusals of rules; want of memory while they are tried is none of them
abbrev pub IsRule : Refusal → Type 0
IsRule (Elf rule) = rule ≢ files.Memory
IsRule (Policy rule) = rule ≢ policies.Memory
IsRule (PairText line) = Unit {0}
IsRule _ = ⊥

-- why phases ended with this refusal
abbrev pub EndsPhases : Reading → List Phase → Refusal → Type 0
EndsPhases reading phases Long = StoppedLong reading phases
EndsPhases reading phases ReadFault = StoppedCutOff reading phases
EndsPhases reading phases Memory = WantedMemory reading phases
EndsPhases reading phases refusal = IsRule refusal × WasRefused reading phases refusal
