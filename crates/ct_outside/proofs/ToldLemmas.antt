-- One more piece of what is told.
use Rattle.std.proofs.Common.{◌≡◌, ℕ, ◌+◌, ◌-◌, List, ◌++◌, length, take, drop, Option, None, Some, refl, ap, arith, append_assoc, length-drop}
use Rattle.std.proofs.lemmas.List.{take_all}
use Rattle.std.proofs.Math.Seq.{take-add}
use Rattle.ct_outside.specs.Told.{told_append}

-- bytes appended twice are appended at once
pub told_append-append : (told : Option (List ℕ)) (first second : List ℕ) → told_append (told_append told first) second ≡ told_append told (first ++ second)
told_append-append None first second = refl
told_append-append (Some bytes) first second = ap Some (append_assoc bytes first second)

-- a text of which `taken` bytes were appended, and then `count` bytes of its rest
pub told_append-more : (before middle after : Option (List ℕ)) (text : List ℕ) (taken count : ℕ) → middle ≡ told_append before (take taken text) → after ≡ told_append middle (take count (take (length text - taken) (drop taken text))) → after ≡ told_append before (take (taken + count) text)
told_append-more before middle after text taken count first second =
    let rest : take (length text - taken) (drop taken text) ≡ drop taken text = take_all (length text - taken) (drop taken text) (omega (arith, length-drop taken text)) in
    let whole = take-add taken count text in
    let joined = told_append-append before (take taken text) (take count (drop taken text)) in
    cc
