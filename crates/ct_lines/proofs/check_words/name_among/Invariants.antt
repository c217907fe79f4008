use Rattle.std.proofs.Common.{◌≡◌, false, length, map, slice_get}
use Rattle.std.specs.String.{string_bytes}
use Rattle.ct_lines.specs.CheckWords.{names_among}
use Rattle.ct_lines.proofs.check_words.name_among.Given as goal

abbrev pub invariant-loop-left : goal.invariant-loop-left
invariant-loop-left l =
    slice_get (names_among l.follows (map string_bytes l.left)) l.others ≡ slice_get (names_among false (map string_bytes l.words)) l.nth

abbrev pub decreases-loop-left : goal.decreases-loop-left
decreases-loop-left l = length l.left
