-- What the words after `check` stand for: the names of two files, and options that each stand at most once, anywhere, before their number.
use Rattle.std.specs.Prelude.{ℕ, Bool, false, ◌||◌, if◌then◌else◌, List, [], ◌∷◌, codes, Option, None, Some, option_and_then}
use Rattle.std.specs.List.{slice_get}
use Rattle.std.specs.Option.{option_map, option_zip, unwrap_or}
use Rattle.std.specs.Str.{bytes_eq}
use Rattle.ct_pairs.specs.declared.limits.TheConstants.{USUAL_BUDGET, USUAL_TARGETS}
use Rattle.ct_pairs.specs.Limits.{most_bound, most_budget, most_targets}
use Rattle.ct_lines.specs.declared.command.TheConstants.{MOST_WORKERS, USUAL_WORKERS}
use Rattle.ct_lines.specs.declared.command.Command.{Command}
use Rattle.ct_lines.specs.declared.command.Command.TheVariants.{Check}
use Rattle.ct_lines.specs.Words.{number_of, name_of}

-- the word is an option
abbrev pub is_option : List ℕ → Bool
is_option word =
    bytes_eq word (codes "--bound") || bytes_eq word (codes "--workers") || bytes_eq word (codes "--budget") || bytes_eq word (codes "--targets")

-- the words that are no option and follow none; `follows` says whether the first of them follows one
abbrev pub names_among : Bool → List (List ℕ) → List (List ℕ)
names_among follows [] = []
names_among follows (word ∷ words) =
    if follows || is_option word then names_among (is_option word) words else word ∷ names_among false words

-- two name words, and no other
abbrev pub two_names : List (List ℕ) → Option (List ℕ × List ℕ)
two_names (first ∷ second ∷ []) = option_zip (name_of first) (name_of second)
two_names _ = None

-- for each place where the option stands, the word after it, if there is one
abbrev pub words_after : List ℕ → List (List ℕ) → List (Option (List ℕ))
words_after option [] = []
words_after option (word ∷ words) =
    if bytes_eq word option then slice_get words 0 ∷ words_after option words else words_after option words

-- what these say: nothing where the option stands nowhere, and a number from `low` to `high` where it stands once
abbrev pub setting_from : ℕ → ℕ → List (Option (List ℕ)) → Option (Option ℕ)
setting_from low high [] = Some None
setting_from low high (word ∷ []) = option_map (λ number. Some number) (option_and_then (number_of low high) word)
setting_from low high _ = None

-- what the words say of an option whose number is from `low` to `high`
abbrev pub setting_of : List ℕ → ℕ → ℕ → List (List ℕ) → Option (Option ℕ)
setting_of option low high words = setting_from low high (words_after option words)

-- a check, where nothing is refused; an option that stands nowhere has its default, and without a bound the policy's holds
abbrev pub check_from : Option (Option ℕ) → Option (Option ℕ) → Option (Option ℕ) → Option (Option ℕ) → Option (List ℕ × List ℕ) → Option Command
check_from (Some bound) (Some workers) (Some budget) (Some targets) (Some names) =
    Some (Check names.0 names.1 bound (unwrap_or workers USUAL_WORKERS) (unwrap_or budget USUAL_BUDGET) (unwrap_or targets USUAL_TARGETS))
check_from _ _ _ _ _ = None

-- the words after `check`: BINARY and POLICY, and the options
abbrev pub check_of : List (List ℕ) → Option Command
check_of words =
    check_from (setting_of (codes "--bound") 1 most_bound words) (setting_of (codes "--workers") 1 MOST_WORKERS words)
    (setting_of (codes "--budget") 0 most_budget words) (setting_of (codes "--targets") 1 most_targets words)
    (two_names (names_among false words))
