-- The lines of a run, step by step.
use Rattle.std.proofs.Common.{◌≡◌, ℕ, suc, ◌+◌, List, [], ◌∷◌, ◌++◌, length, false, Option, Some, None, refl, sym, ◌∙◌, ap, append_assoc, append-nil, arith}
use Rattle.std.specs.Option.{is_some, option_to_list}
use Rattle.rv_image.specs.Cell.{Cell}
use Rattle.rv_machine.specs.declared.«record».Record.{Record}
use Rattle.rv_machine.specs.declared.end.End.{End}
use Rattle.rv_machine.specs.State.{State}
use Rattle.rv_machine.specs.Step.{step}
use Rattle.rv_machine.specs.Trail.{state_after, record_after, trail}
use Rattle.rv_machine.proofs.TrailLaws.{trail_zero, trail_next}
use Rattle.ct_listing.specs.Trace.{record_line, record_lines}

-- an ending that isn't there is none
pub none_from : (ending : Option End) → is_some ending ≡ false → ending ≡ None
none_from None none = refl
none_from (Some end) none = cc

-- the numbers go on over the second list
record_lines-append : (first : ℕ) (seen later : List Record) → record_lines first (seen ++ later) ≡ record_lines first seen ++ record_lines (first + length seen) later
unfolding record_lines
record_lines-append first [] later = ap (λ n. record_lines n later) (omega arith)
record_lines-append first (shown ∷ seen) later =
    let moved : suc first + length seen ≡ first + length (shown ∷ seen) = omega arith in
    ap (λ rest. record_line first shown ++ rest) (record_lines-append (suc first) seen later ∙ ap (λ n. record_lines (suc first) seen ++ record_lines n later) moved)
    ∙ sym (append_assoc (record_line first shown) (record_lines (suc first) seen) (record_lines (first + length (shown ∷ seen)) later))

-- no step has a line yet
pub lines_zero : (image : List Cell) (stops : List ℕ) (s : State) (old : List ℕ) → old ≡ old ++ record_lines 1 (trail image stops s 0)
unfolding record_lines
lines_zero image stops s old = sym (ap (λ records. old ++ record_lines 1 records) (trail_zero image stops s) ∙ append-nil old)

-- the line of one more step
pub lines_next : (image : List Cell) (stops : List ℕ) (s before : State) (n : ℕ) (seen : Option Record) (old text new : List ℕ)
    → before ≡ state_after image stops s n → seen ≡ (step image stops before).seen → length (trail image stops s n) ≡ n
    → text ≡ old ++ record_lines 1 (trail image stops s n) → new ≡ text ++ record_lines (n + 1) (option_to_list seen)
    → new ≡ old ++ record_lines 1 (trail image stops s (n + 1))
lines_next image stops s before n seen old text new here shown count written added =
    let records : List Record = trail image stops s n in
    let last : seen ≡ record_after image stops s n = shown ∙ ap (λ t. (step image stops t).seen) here in
    let number : n + 1 ≡ 1 + length records = omega (arith, count) in
    added
    ∙ ap (λ t. t ++ record_lines (n + 1) (option_to_list seen)) written
    ∙ append_assoc old (record_lines 1 records) (record_lines (n + 1) (option_to_list seen))
    ∙ ap (λ t. old ++ t) (ap (λ k. record_lines 1 records ++ record_lines k (option_to_list seen)) number
    ∙ sym (record_lines-append 1 records (option_to_list seen))
    ∙ ap (λ o. record_lines 1 (records ++ option_to_list o)) last
    ∙ ap (record_lines 1) (sym (trail_next image stops s n)))
