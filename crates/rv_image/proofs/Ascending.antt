-- The cells of spans are an image.
use Rattle.std.proofs.Common.{◌≡◌, ℕ, zero, suc, ◌+◌, ◌^◌, ◌<◌, ◌≤◌, Bool, List, [], ◌∷◌, ◌++◌, length, get_or, take, drop, map, All, inl, inr, arith}
use Rattle.std.specs.List.Sorted.{IsStrictlyIncreasing}
use Rattle.std.proofs.lemmas.Bool.{cases_lt}
use Rattle.std.proofs.lemmas.List.{length-take, length-drop, get_or-take, get_or-drop, get_or_past}
use Rattle.rv_image.specs.declared.span.Span.{Span}
use Rattle.rv_image.specs.Cell.{Cell, cells_from}
use Rattle.rv_image.specs.Image.{IsImage}
use Rattle.rv_image.specs.View.{cells_in, LiesFrom, total, IsLaidOut}
use Rattle.rv_image.proofs.Spans.{total-cons, length-cells_in}

-- every number of the list is a byte
abbrev pub IsBytes : List ℕ → Type 0
IsBytes bytes = (k : ℕ) → get_or bytes k 0 < 256

pub IsBytes-from_All : (bytes : List ℕ) → All (λ byte. byte < 256) bytes → IsBytes bytes
IsBytes-from_All bytes all k =
    elim (cases_lt k (length bytes)) [ inl inside ↦ all k 0 inside | inr past ↦ rw (get_or_past bytes k 0 past) (omega arith) ]

pub IsBytes-take : (n : ℕ) (bytes : List ℕ) → IsBytes bytes → IsBytes (take n bytes)
IsBytes-take n bytes fit k =
    elim (cases_lt k n) [
      | inl inside ↦ rw (get_or-take n bytes k 0 inside) (fit k)
      | inr past ↦ rw (get_or_past (take n bytes) k 0 (omega (arith, length-take n bytes))) (omega arith)
    ]

pub IsBytes-drop : (n : ℕ) (bytes : List ℕ) → IsBytes bytes → IsBytes (drop n bytes)
IsBytes-drop n bytes fit k = rw (get_or-drop n bytes k 0) (fit (n + k))

-- the addresses ascend from one on, all below 2^32, and the bytes are bytes
Ascends : ℕ → List Cell → Type 0
Ascends low [] = low ≤ 2 ^ 32
Ascends low (cell ∷ cells) = (low ≤ cell.address) × (cell.byte < 256) × Ascends (suc cell.address) cells

Ascends-low : (cells : List Cell) (low : ℕ) → Ascends low cells → low ≤ 2 ^ 32
unfolding Ascends
Ascends-low [] low ascends = ascends
Ascends-low (cell ∷ cells) low ascends = let later = Ascends-low cells (suc cell.address) ascends.2 in let here : low ≤ cell.address = ascends.0 in omega arith

Ascends-cells_from : (bytes : List ℕ) (first low : ℕ) (read write exec : Bool) (cells : List Cell) → low ≤ first → IsBytes bytes → Ascends (first + length bytes) cells
    → Ascends low (cells_from first read write exec bytes ++ cells)
unfolding Ascends cells_from
Ascends-cells_from [] first low read write exec [] above fit later = omega arith
Ascends-cells_from [] first low read write exec (cell ∷ cells) above fit later = let here : first + 0 ≤ cell.address = later.0 in (omega arith, later.1, later.2)
Ascends-cells_from (byte ∷ bytes) first low read write exec cells above fit later =
    let same : suc first + length bytes ≡ first + length (byte ∷ bytes) = omega arith in
    (above, fit 0, Ascends-cells_from bytes (suc first) (suc first) read write exec cells (omega arith) (λ k. fit (suc k)) (rw same later))

Ascends-cells_in : (spans : List Span) (bytes : List ℕ) (low : ℕ) → LiesFrom low spans → low ≤ 2 ^ 32 → total spans ≡ length bytes → IsBytes bytes → Ascends low (cells_in spans bytes)
unfolding Ascends cells_in LiesFrom
Ascends-cells_in [] bytes low lies below all fit = below
Ascends-cells_in (span ∷ spans) bytes low lies below all fit =
    let sum = total-cons span spans in
    let later = Ascends-cells_in spans (drop span.length bytes) (span.address + span.length) lies.3 lies.2 (omega (arith, length-drop span.length bytes)) (IsBytes-drop span.length bytes fit) in
    let run : length (take span.length bytes) ≡ span.length = omega (arith, length-take span.length bytes) in
    Ascends-cells_from (take span.length bytes) span.address low span.read span.write span.exec (cells_in spans (drop span.length bytes)) lies.0 (IsBytes-take span.length bytes fit) (rw run later)

Ascends-increasing : (cells : List Cell) (low : ℕ) → Ascends low cells → IsStrictlyIncreasing (map (λ cell. cell.address) cells)
unfolding Ascends
Ascends-increasing [] low ascends k inside = absurd (omega arith)
Ascends-increasing (cell ∷ []) low ascends k inside = absurd (omega arith)
Ascends-increasing (cell ∷ next ∷ cells) low ascends zero inside = ascends.2.0
Ascends-increasing (cell ∷ next ∷ cells) low ascends (suc k) inside =
    let moved : suc k + 1 ≡ suc (k + 1) = omega arith in
    rw moved (Ascends-increasing (next ∷ cells) (suc cell.address) ascends.2 k (omega arith))

Ascends-address : (cells : List Cell) (low : ℕ) → Ascends low cells → All (λ cell. cell.address < 2 ^ 32) cells
unfolding Ascends
Ascends-address [] low ascends k d inside = absurd (omega arith)
Ascends-address (cell ∷ cells) low ascends zero d inside = let later = Ascends-low cells (suc cell.address) ascends.2 in omega arith
Ascends-address (cell ∷ cells) low ascends (suc k) d inside = Ascends-address cells (suc cell.address) ascends.2 k d (omega arith)

Ascends-byte : (cells : List Cell) (low : ℕ) → Ascends low cells → All (λ cell. cell.byte < 256) cells
unfolding Ascends
Ascends-byte [] low ascends k d inside = absurd (omega arith)
Ascends-byte (cell ∷ cells) low ascends zero d inside = ascends.1
Ascends-byte (cell ∷ cells) low ascends (suc k) d inside = Ascends-byte cells (suc cell.address) ascends.2 k d (omega arith)

-- the cells of spans that are laid out with bytes are an image
pub IsImage-cells_in : (spans : List Span) (starts bytes : List ℕ) → IsLaidOut spans starts bytes → IsImage (cells_in spans bytes)
IsImage-cells_in spans starts bytes laid =
    let ascends = Ascends-cells_in spans bytes 0 laid.ascending (omega arith) laid.byte_each (IsBytes-from_All bytes laid.bytes_fit) in
    let count = length-cells_in spans bytes laid.byte_each in
    record {
      ascending = Ascends-increasing (cells_in spans bytes) 0 ascends;
      addresses = Ascends-address (cells_in spans bytes) 0 ascends;
      bytes = Ascends-byte (cells_in spans bytes) 0 ascends;
      small = rw count laid.small;
    }
