-- Facts of lists kept end to end.
use Rattle.std.proofs.Common.{◌≡◌, ℕ, zero, suc, ◌<◌, ◌≤◌, ◌-◌, List, [], ◌∷◌, ◌++◌, length, take, drop, get_or, Some, refl, sym, ◌∙◌, ap, arith, length-append, length-drop, length-take-le, sub-one}
use Rattle.std.specs.Prelude.{slice_get, slice_range}
use Rattle.std.proofs.lemmas.List.{take_all, drop-append-le, take-append-le, take-append-drop}
use Rattle.std.proofs.Math.Seq.{drop-append_seam}
use Rattle.cnf_form.specs.Pieces.{pieces, start_of, AreEnds}

pub length-pieces : {A : Type 0} (values : List A) (from : ℕ) (ends : List ℕ) → length (pieces values from ends) ≡ length ends
length-pieces values from [] = refl
length-pieces values from (end ∷ ends) = ap suc (length-pieces values end ends)

pub from_within : {A : Type 0} (values : List A) (from : ℕ) (ends : List ℕ) → AreEnds values from ends → from ≤ length values
from_within values from [] e = omega arith
from_within values from (end ∷ ends) e = let low = e.0 in let rest = from_within values end ends e.1 in omega arith

-- a range of the values stays when more values follow
range_kept : {A : Type 0} (values more : List A) (from end : ℕ) → from ≤ end → end ≤ length values → slice_range (values ++ more) from end ≡ slice_range values from end
range_kept values more from end low high =
    let start : from ≤ length values = omega arith in
    ap (take (end - from)) (drop-append-le from values more start)
    ∙ take-append-le (end - from) (drop from values) more (omega (arith, length-drop from values))

-- what was put behind the values is their last range
range_last : {A : Type 0} (values more : List A) → slice_range (values ++ more) (length values) (length (values ++ more)) ≡ more
range_last values more =
    ap (take (length (values ++ more) - length values)) (drop-append_seam values more)
    ∙ take_all _ more (omega (arith, length-append values more))

pub pieces-push : {A : Type 0} (values list : List A) (from : ℕ) (ends : List ℕ) → AreEnds values from ends → pieces (values ++ list) from (ends ++ length (values ++ list) ∷ []) ≡ pieces values from ends ++ list ∷ []
pieces-push values list from [] e =
    ap (λ last. last ∷ []) (ap (λ start. slice_range (values ++ list) start (length (values ++ list))) e ∙ range_last values list)
pieces-push values list from (end ∷ ends) e =
    let high = from_within values end ends e.1 in
    ap (λ piece. piece ∷ pieces (values ++ list) end (ends ++ length (values ++ list) ∷ [])) (range_kept values list from end e.0 high)
    ∙ ap (λ rest. slice_range values from end ∷ rest) (pieces-push values list end ends e.1)

pub AreEnds-push : {A : Type 0} (values list : List A) (from : ℕ) (ends : List ℕ) → AreEnds values from ends → AreEnds (values ++ list) from (ends ++ length (values ++ list) ∷ [])
AreEnds-push values list from [] e = let long = length-append values list in (omega arith, refl)
AreEnds-push values list from (end ∷ ends) e = (e.0, AreEnds-push values list end ends e.1)

pub piece_at : {A : Type 0} (values : List A) (from : ℕ) (ends : List ℕ) (at d : ℕ) → at < length ends → slice_get (pieces values from ends) at ≡ Some (slice_range values (start_of from ends at) (get_or ends at d))
piece_at values from [] at d low = absurd (omega arith)
piece_at values from (end ∷ ends) zero d low = refl
piece_at values from (end ∷ ends) (suc at) d low = piece_at values end ends at d (omega arith)

pub start_before_end : {A : Type 0} (values : List A) (from : ℕ) (ends : List ℕ) (at d : ℕ) → AreEnds values from ends → at < length ends → start_of from ends at ≤ get_or ends at d
start_before_end values from [] at d e low = absurd (omega arith)
start_before_end values from (end ∷ ends) zero d e low = e.0
start_before_end values from (end ∷ ends) (suc at) d e low = start_before_end values end ends at d e.1 (omega arith)

pub end_within : {A : Type 0} (values : List A) (from : ℕ) (ends : List ℕ) (at d : ℕ) → AreEnds values from ends → at < length ends → get_or ends at d ≤ length values
end_within values from [] at d e low = absurd (omega arith)
end_within values from (end ∷ ends) zero d e low = from_within values end ends e.1
end_within values from (end ∷ ends) (suc at) d e low = end_within values end ends at d e.1 (omega arith)

pub start_at_first : (from : ℕ) (ends : List ℕ) (at : ℕ) → at ≡ 0 → start_of from ends at ≡ from
start_at_first from [] at e = refl
start_at_first from (end ∷ ends) zero e = refl
start_at_first from (end ∷ ends) (suc at) e = absurd (omega arith)

start_next : (from : ℕ) (ends : List ℕ) (at d : ℕ) → suc at < length ends → get_or ends at d ≡ start_of from ends (suc at)
start_next from [] at d low = absurd (omega arith)
start_next from (end ∷ []) at d low = absurd (omega arith)
start_next from (end ∷ more ∷ ends) zero d low = refl
start_next from (end ∷ more ∷ ends) (suc at) d low = start_next end (more ∷ ends) at d (omega arith)

pub start_is : (from : ℕ) (ends : List ℕ) (at d : ℕ) → at < length ends → 0 < at → get_or ends (at - 1) d ≡ start_of from ends at
start_is from ends zero d low some = absurd (omega arith)
start_is from ends (suc at) d low some = rw sub-one (start_next from ends at d low)

start_within : {A : Type 0} (values : List A) (from : ℕ) (ends : List ℕ) (at : ℕ) → AreEnds values from ends → at < length ends → (from ≤ start_of from ends at) × (start_of from ends at ≤ length values)
start_within values from [] at e low = absurd (omega arith)
start_within values from (end ∷ ends) zero e low = (omega arith, from_within values from (end ∷ ends) e)
start_within values from (end ∷ ends) (suc at) e low =
    let rest = start_within values end ends at e.1 (omega arith) in
    let here : from ≤ end = e.0 in (omega arith, rest.1)

-- the first pieces, whose values are those before the next piece
pub pieces-take : {A : Type 0} (values : List A) (from : ℕ) (ends : List ℕ) (count : ℕ) → AreEnds values from ends → count < length ends → AreEnds (take (start_of from ends count) values) from (take count ends) × (pieces (take (start_of from ends count) values) from (take count ends) ≡ take count (pieces values from ends))
pieces-take values from [] count e low = absurd (omega arith)
pieces-take values from (end ∷ ends) zero e low = (sym (length-take-le from values (from_within values from (end ∷ ends) e)), refl)
pieces-take values from (end ∷ ends) (suc count) e low =
    let rest = pieces-take values end ends count e.1 (omega arith) in
    let start = start_of end ends count in
    let bounds = start_within values end ends count e.1 (omega arith) in
    let long : length (take start values) ≡ start = length-take-le start values bounds.1 in
    let first : slice_range (take start values) from end ≡ slice_range values from end =
    sym (range_kept (take start values) (drop start values) from end e.0 (omega arith)) ∙ ap (λ whole. slice_range whole from end) (take-append-drop start values) in
    ((e.0, rest.0), ap (λ piece. piece ∷ pieces (take start values) end (take count ends)) first ∙ ap (λ more. slice_range values from end ∷ more) rest.1)
