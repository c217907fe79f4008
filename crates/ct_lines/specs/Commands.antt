-- Which command a list of words stands for.
use Rattle.std.specs.Prelude.{ℕ, ◌-◌, ◌^◌, ◌≤◌, if◌then◌else◌, List, [], ◌∷◌, codes, Option, None, Some, IfSome}
use Rattle.std.specs.Option.{option_map}
use Rattle.std.specs.Str.{bytes_eq}
use Rattle.ct_pairs.specs.declared.entry.Entry.{Entry}
use Rattle.ct_pairs.specs.Limits.{most_bound, most_budget, most_targets, IsBound}
use Rattle.ct_lines.specs.declared.command.Command.{Command}
use Rattle.ct_lines.specs.declared.command.Command.TheVariants.{Byte, Check, Replay, Trace, List as Listing, Gen}
use Rattle.ct_lines.specs.declared.command.TheConstants.{MOST_WORKERS, MOST_BLOCKS}
use Rattle.ct_lines.specs.declared.run.Run.{Run}
use Rattle.ct_lines.specs.Words.{IsWithin, number_of, entry_of, name_of}
use Rattle.ct_lines.specs.CheckWords.{check_of}

-- a routine of a file and a bound, where each of their words stands for something
abbrev pub run_from : Option (List ℕ) → Option ℕ → Option Entry → Option Run
run_from (Some binary) (Some bound) (Some entry) = Some (record { binary = binary; entry = entry; bound = bound })
run_from _ _ _ = None

-- the words after `byte` or `trace`: a name word, an entry word and a number word that is a bound
abbrev pub run_of : List (List ℕ) → Option Run
run_of (binary ∷ entry ∷ bound ∷ []) = run_from (name_of binary) (number_of 1 most_bound bound) (entry_of entry)
run_of _ = None

-- the words after `byte`
abbrev pub byte_of : List (List ℕ) → Option Command
byte_of words = option_map (λ run. Byte run.binary run.entry run.bound) (run_of words)

-- the words after `trace`
abbrev pub trace_of : List (List ℕ) → Option Command
trace_of words = option_map (λ run. Trace run.binary run.entry run.bound) (run_of words)

-- a replay of three files, where each of their words is a name
abbrev pub replay_from : Option (List ℕ) → Option (List ℕ) → Option (List ℕ) → Option Command
replay_from (Some binary) (Some policy) (Some pair) = Some (Replay binary policy pair)
replay_from _ _ _ = None

-- the words after `replay`: three name words
abbrev pub replay_of : List (List ℕ) → Option Command
replay_of (binary ∷ policy ∷ pair ∷ []) = replay_from (name_of binary) (name_of policy) (name_of pair)
replay_of _ = None

-- the words after `list`: a name word
abbrev pub list_of : List (List ℕ) → Option Command
list_of (binary ∷ []) = option_map (λ name. Listing name) (name_of binary)
list_of _ = None

-- a generated routine, where the words of its number and its size stand for something
abbrev pub gen_from : Option ℕ → Option ℕ → Option Command
gen_from (Some number) (Some size) = Some (Gen number size)
gen_from _ _ = None

-- the words after `gen`: a number word below 2^32, and one from 1 to the most blocks
abbrev pub gen_of : List (List ℕ) → Option Command
gen_of (number ∷ size ∷ []) = gen_from (number_of 0 (2 ^ 32 - 1) number) (number_of 1 MOST_BLOCKS size)
gen_of _ = None

-- the words after the program's name: the first is the command
abbrev pub command_of : List (List ℕ) → Option Command
command_of [] = None
command_of (command ∷ words) =
    if bytes_eq command (codes "byte") then byte_of words
    else (if bytes_eq command (codes "check") then check_of words
    else (if bytes_eq command (codes "replay") then replay_of words
    else (if bytes_eq command (codes "trace") then trace_of words
    else (if bytes_eq command (codes "list") then list_of words
    else (if bytes_eq command (codes "gen") then gen_of words
    else None)))))

-- the names of the files that a command reads, in the order in which it reads them
abbrev pub files_of : Command → List (List ℕ)
files_of (Byte binary entry bound) = binary ∷ []
files_of (Check binary policy bound workers budget targets) = binary ∷ policy ∷ []
files_of (Replay binary policy pair) = binary ∷ policy ∷ pair ∷ []
files_of (Trace binary entry bound) = binary ∷ []
files_of (Listing binary) = binary ∷ []
files_of (Gen number size) = []

-- the numbers of a command are within their limits
abbrev pub AreWithinLimits : Command → Type 0
AreWithinLimits (Byte binary entry bound) = IsBound bound
AreWithinLimits (Check binary policy bound workers budget targets) =
    IfSome bound IsBound × IsWithin 1 MOST_WORKERS workers × (budget ≤ most_budget) × IsWithin 1 most_targets targets
AreWithinLimits (Trace binary entry bound) = IsBound bound
AreWithinLimits (Gen number size) = IsWithin 1 MOST_BLOCKS size
AreWithinLimits _ = Unit {0}
