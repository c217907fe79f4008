-- Which answer has to come.
use Rattle.std.specs.Prelude.{◌≡◌, ◌⊎◌, ◌<◌, ℕ, List, Option, Some, None}
use Rattle.ct_outside.specs.declared.reading.TheConstants.{LONGEST}
use Rattle.ct_lines.specs.declared.command.Command.{Command}
use Rattle.ct_main.specs.declared.refusal.Refusal.{Refusal}
use Rattle.ct_main.specs.declared.refusal.Refusal.TheVariants.{Words, Long, Memory, ReadFault}
use Rattle.ct_main.specs.Outside.{Reading, Writing, AskedNothing, ShelfFailed, SinkFailed}
use Rattle.ct_main.specs.Phases.{refusal_of}

-- this refusal, or none, unless memory was wanted
abbrev pub OrMemory : Option Refusal → Option Refusal → Type 0
OrMemory expected refusal = (refusal ≡ expected) ⊎ (refusal ≡ Some Memory)

-- the words are this command, the shelf tells its files, and this is the first refusal that they give the command, if any
pub record IsTold (words : Option Command) (reading : Reading) (command : Command) (known : List ℕ → Option (List ℕ)) (refusal : Option Refusal) : Type 0 where
  pub words_are : words ≡ Some command
  pub files : reading.files ≡ Some known
  pub first : refusal_of command known ≡ refusal

-- wherever a cause stands, in the order of the causes, its answer comes, unless memory is wanted
pub record IsComplete (words : Option Command) (reading : Reading) (writing : Writing) (refusal : Option Refusal) : Type 0 where
  pub words_refused : words ≡ None → OrMemory (Some Words) refusal
  pub long : (AskedNothing reading → ⊥) → LONGEST < reading.given → OrMemory (Some Long) refusal
  pub absent : (command : Command) (known : List ℕ → Option (List ℕ)) → IsTold words reading command known (Some ReadFault)
      → OrMemory (Some ReadFault) refusal
  pub refused : (command : Command) (known : List ℕ → Option (List ℕ)) (first : Refusal) → IsTold words reading command known (Some first)
      → (ShelfFailed reading → ⊥) → OrMemory (Some first) refusal
  pub answered : (command : Command) (known : List ℕ → Option (List ℕ)) → IsTold words reading command known None
      → (ShelfFailed reading → ⊥) → (SinkFailed writing → ⊥) → OrMemory None refusal
