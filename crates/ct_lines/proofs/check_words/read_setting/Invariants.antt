use Rattle.std.proofs.Common.{◌≡◌, ℕ, List, [], ◌∷◌, Option, None, Some, length, map, IfSome}
use Rattle.std.specs.String.{string_bytes}
use Rattle.ct_lines.specs.CheckWords.{setting_from, setting_of, words_after}
use Rattle.ct_lines.specs.Words.{IsWithin}
use Rattle.ct_lines.proofs.check_words.read_setting.Given as goal

-- what the words after further places say, where the earlier places said nothing or a number
abbrev pub further_from : ℕ → ℕ → Option ℕ → List (Option (List ℕ)) → Option (Option ℕ)
further_from low high None words = setting_from low high words
further_from low high (Some number) [] = Some (Some number)
further_from low high (Some number) (word ∷ words) = None

abbrev pub invariant-loop-left : goal.invariant-loop-left
invariant-loop-left l =
    record {
      value : further_from l.low l.high l.setting (words_after l.option (map string_bytes l.left)) ≡ setting_of l.option l.low l.high (map string_bytes l.words);
      within : IfSome l.setting (IsWithin l.low l.high);
    }

abbrev pub decreases-loop-left : goal.decreases-loop-left
decreases-loop-left l = length l.left
