-- What the words of the program stand for.
use Rattle.std.specs.Prelude.{ℕ, List, [], ◌∷◌, Option, None, Some}
use Rattle.ct_pairs.specs.declared.limits.TheConstants.{USUAL_BUDGET, USUAL_TARGETS}
use Rattle.ct_lines.specs.declared.command.TheConstants.{USUAL_WORKERS}
use Rattle.ct_lines.specs.declared.command.Command.{Command}
use Rattle.ct_lines.specs.declared.command.Command.TheVariants.{Check, Replay}
use Rattle.ct_lines.specs.Words.{name_of}
use Rattle.ct_lines.specs.Commands.{replay_from}

-- a check of two files, where both words are names: with the policy's own bound, and with what is usual beside it, at which no run looks
abbrev pub check_from : Option (List ℕ) → Option (List ℕ) → Option Command
check_from (Some binary) (Some policy) = Some (Check binary policy None USUAL_WORKERS USUAL_BUDGET USUAL_TARGETS)
check_from _ _ = None

-- the command of ctrel that reads the same files: with two name words it is a check, and with three a replay
abbrev pub command_of : List (List ℕ) → Option Command
command_of (binary ∷ policy ∷ []) = check_from (name_of binary) (name_of policy)
command_of (binary ∷ policy ∷ pair ∷ []) = replay_from (name_of binary) (name_of policy) (name_of pair)
command_of _ = None

-- the commands of which a run is shown
abbrev pub IsShown : Command → Type 0
IsShown (Check binary policy bound workers budget targets) = Unit {0}
IsShown (Replay binary policy pair) = Unit {0}
IsShown _ = ⊥
