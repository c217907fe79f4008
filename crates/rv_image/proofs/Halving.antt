-- What halving the spans finds: the last span that begins at or below an address holds it, or no span does.
use Rattle.std.proofs.Common.{◌≡◌, ℕ, ◌+◌, ◌-◌, ◌<◌, ◌≤◌, leb, List, length, get_or, take, None, refl, inl, inr, arith}
use Rattle.std.specs.List.{AllWithin}
use Rattle.std.specs.List.Sorted.{IsPartitionedBy}
use Rattle.std.proofs.lemmas.Bool.{cases_lt}
use Rattle.std.proofs.lemmas.List.{get_or_default}
use Rattle.std.proofs.lemmas.List.Sorted.{IsPartitionedBy-leb}
use Rattle.rv_image.specs.declared.span.Span.{Span}
use Rattle.rv_image.specs.Image.{cell_at, index_at, size_of}
use Rattle.rv_image.specs.Location.{IsLocation}
use Rattle.rv_image.specs.View.{cells_in, LiesFrom, total, IsLaidOut}
use Rattle.rv_image.proofs.Spans.{LiesFrom-apart, find-cells_in-hit, find-cells_in-miss, count_by-cells_in, length-cells_in, total-take}

-- spans that lie in order begin in order
LiesFrom-nondecreasing : (spans : List Span) (i j : ℕ) (d : Span) → LiesFrom 0 spans → i ≤ j → j < length spans → (get_or spans i d).address ≤ (get_or spans j d).address
LiesFrom-nondecreasing spans i j d lies before inside =
    elim (cases_lt i j) [
      | inl less ↦ let apart = LiesFrom-apart spans 0 i j d lies less inside in omega arith
      | inr no_less ↦ let same : i ≡ j = omega arith in rw same (omega arith)
    ]

-- what a search by halves asks
pub IsPartitionedBy-address : (spans : List Span) (address : ℕ) → LiesFrom 0 spans → IsPartitionedBy (λ span. leb span.address address) spans
IsPartitionedBy-address spans address lies =
    IsPartitionedBy-leb (λ (span : Span). span.address) spans address (λ i j d before inside. LiesFrom-nondecreasing spans i j d lies before inside)

-- no span holds the address
pub cell_at-miss : (spans : List Span) (starts bytes : List ℕ) (begun address : ℕ) (d : Span) → IsLaidOut spans starts bytes → begun ≤ length spans
    → AllWithin (λ span. address < span.address) spans begun (length spans)
    → (0 < begun → (get_or spans (begun - 1) d).address + (get_or spans (begun - 1) d).length ≤ address)
    → cell_at (cells_in spans bytes) address ≡ None
unfolding cell_at
cell_at-miss spans starts bytes begun address d laid bound later past =
    find-cells_in-miss spans bytes address
    (λ k e inside.
    elim (cases_lt k begun) [
      | inr after ↦ inl (later k e after inside)
      | inl before ↦
          let over = past (omega arith) in
          let one = get_or_default spans k e d inside in
          rw one (
          elim (cases_lt k (begun - 1)) [
            | inl less ↦ let apart = LiesFrom-apart spans 0 k (begun - 1) d laid.ascending less (omega arith) in inr (omega arith)
            | inr last ↦ let same : k ≡ begun - 1 = omega arith in inr (rw same over)
          ])
    ])

-- the last span that begins at or below the address holds it
pub IsLocation-hit : (spans : List Span) (starts bytes : List ℕ) (k address : ℕ) (d : Span) → IsLaidOut spans starts bytes → k < length spans
    → (get_or spans k d).address ≤ address → address - (get_or spans k d).address < (get_or spans k d).length
    → IsLocation (cells_in spans bytes) address (record {
      span = get_or spans k d;
      index = get_or starts k 0 + (address - (get_or spans k d).address);
      byte = get_or bytes (get_or starts k 0 + (address - (get_or spans k d).address)) 0;
      left = (get_or spans k d).length - (address - (get_or spans k d).address);
    })
unfolding cell_at index_at size_of
IsLocation-hit spans starts bytes k address d laid inside from within =
    let start : get_or starts k 0 ≡ total (take k spans) = laid.start_is k inside in
    let all = laid.byte_each in
    let hit = find-cells_in-hit spans bytes 0 k address d laid.ascending (omega arith) inside from (omega arith) in
    let count = count_by-cells_in spans bytes 0 k address d laid.ascending (omega arith) inside from (omega arith) in
    record {
      cell = rw start hit;
      index = rw (hit, count, start) refl;
      within = rw (start, length-cells_in spans bytes all) (omega (arith, total-take spans k d inside));
    }
