-- How an image is kept: its spans in ascending address, and all its bytes in the same order.
use Rattle.std.specs.Prelude.{ℕ, ◌≡◌, ◌+◌, ◌^◌, ◌<◌, ◌≤◌, List, [], ◌∷◌, ◌++◌, length, take, drop, All, sum_by, slice_index}
use Rattle.rv_image.specs.declared.span.Span.{Span}
use Rattle.rv_image.specs.Cell.{Cell, cells_from}

-- the spans' cells, one span after another
unfoldable pub cells_in : List Span → List ℕ → List Cell
cells_in [] bytes = []
cells_in (span ∷ spans) bytes =
    cells_from span.address span.read span.write span.exec (take span.length bytes) ++ cells_in spans (drop span.length bytes)

-- the spans ascend from an address on without overlap and within memory, and none is empty
unfoldable pub LiesFrom : ℕ → List Span → Type 0
LiesFrom low [] = Unit {0}
LiesFrom low (span ∷ spans) =
    (low ≤ span.address) × (0 < span.length) × (span.address + span.length ≤ 2 ^ 32) × LiesFrom (span.address + span.length) spans

-- the spans' lengths together
abbrev pub total : List Span → ℕ
total spans = sum_by (λ span. span.length) spans

-- how spans and bytes fit: each span starts at its location among the bytes
pub record IsLaidOut (spans : List Span) (starts bytes : List ℕ) : Type 0 where
  pub ascending : LiesFrom 0 spans
  pub start_each : length starts ≡ length spans
  pub start_is : (k : ℕ) → k < length spans → slice_index starts k ≡ total (take k spans)
  pub byte_each : total spans ≡ length bytes
  pub small : length bytes ≤ 2 ^ 24
  pub bytes_fit : All (λ byte. byte < 256) bytes
