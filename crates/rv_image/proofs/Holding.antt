-- One span holds addresses in a row.
use Rattle.std.proofs.Common.{◌≡◌, ℕ, ◌+◌, ◌-◌, ◌%◌, ◌<◌, ◌≤◌, true, false, List, length, get_or, take, Some, None, refl, slice_index, arith}
use Rattle.rv_image.specs.declared.location.Location.{Location}
use Rattle.rv_image.specs.declared.span.Span.{Span}
use Rattle.rv_image.specs.declared.right.Right.TheVariants.{Execute}
use Rattle.rv_image.specs.Cell.{Cell}
use Rattle.rv_image.specs.Image.{bytes_of, size_of, fetch_at}
use Rattle.rv_image.specs.Location.{IsHeld, IsExecutable, little_word}
use Rattle.rv_image.specs.View.{cells_in, total, IsLaidOut}
use Rattle.rv_image.proofs.Spans.{length-cells_in, map-cells_in, total-take}
use Rattle.rv_image.proofs.Halving.{IsLocation-hit}
use Rattle.rv_image.proofs.Laws.{allowed_at-Some, loaded_at-Some}
use Rattle.rv_image.proofs.Fetching.{fetch_at-first, fetch_at-all}

-- a span that holds an address holds those after it up to the span's end
pub IsHeld-hit : (spans : List Span) (starts bytes : List ℕ) (k address : ℕ) (d : Span) → IsLaidOut spans starts bytes → k < length spans
    → (get_or spans k d).address ≤ address → address - (get_or spans k d).address < (get_or spans k d).length
    → IsHeld (cells_in spans bytes) address ((get_or spans k d).length - (address - (get_or spans k d).address)) (record {
      span = get_or spans k d;
      index = get_or starts k 0 + (address - (get_or spans k d).address);
      byte = get_or bytes (get_or starts k 0 + (address - (get_or spans k d).address)) 0;
      left = (get_or spans k d).length - (address - (get_or spans k d).address);
    })
unfolding bytes_of size_of
IsHeld-hit spans starts bytes k address d laid inside from within =
    let start : get_or starts k 0 ≡ total (take k spans) = laid.start_is k inside in
    let all = map-cells_in spans bytes laid.byte_each in
    let moved : (j : ℕ) → get_or starts k 0 + (address + j - (get_or spans k d).address) ≡ get_or starts k 0 + (address - (get_or spans k d).address) + j = λ j. omega arith in
    record {
      cell = λ j less.
          let location = IsLocation-hit spans starts bytes k (address + j) d laid inside (omega arith) (omega arith) in
          rw (all, ← moved j) location.cell;
      index = λ j less.
          let location = IsLocation-hit spans starts bytes k (address + j) d laid inside (omega arith) (omega arith) in
          rw (← moved j) location.index;
      within = omega (arith, laid.byte_each, length-cells_in spans bytes laid.byte_each, total-take spans k d inside);
    }

IsExecutable-held : (cells : List Cell) (address n k at index : ℕ) (location : Location) → IsHeld cells address n location → location.span.exec ≡ true → k < n
    → at ≡ address + k → index ≡ location.index + k → IsExecutable cells at (slice_index (bytes_of cells) index)
IsExecutable-held cells address n k at index location held right less is_at is_index = rw (is_at, is_index) (record {
  right = rw (allowed_at-Some Execute cells (address + k) _ (held.cell k less)) right;
  loaded = loaded_at-Some cells (address + k) _ (held.cell k less);
})

-- the instruction word of four bytes that are held and may be executed
pub fetch_at-held : (cells : List Cell) (pc : ℕ) (location : Location) → pc % 4 ≡ 0 → IsHeld cells pc 4 location → location.span.exec ≡ true
    → fetch_at cells pc ≡ Some (little_word (bytes_of cells) location.index)
fetch_at-held cells pc location even held right =
    fetch_at-all cells pc _ _ _ _ even
    (IsExecutable-held cells pc 4 0 pc location.index location held right (omega arith) (omega arith) (omega arith))
    (IsExecutable-held cells pc 4 1 (pc + 1) (location.index + 1) location held right (omega arith) refl refl)
    (IsExecutable-held cells pc 4 2 (pc + 2) (location.index + 2) location held right (omega arith) refl refl)
    (IsExecutable-held cells pc 4 3 (pc + 3) (location.index + 3) location held right (omega arith) refl refl)

-- there is no instruction word of bytes that are held and may not be executed
pub fetch_at-held_none : (cells : List Cell) (pc : ℕ) (location : Location) → IsHeld cells pc 4 location → location.span.exec ≡ false → fetch_at cells pc ≡ None
fetch_at-held_none cells pc location held refused =
    let here : pc + 0 ≡ pc = omega arith in
    fetch_at-first cells pc (rw (allowed_at-Some Execute cells pc _ (rw here at (held.cell 0 (omega arith)))) refused)
