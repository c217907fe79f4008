-- Spans one after another: what stands at an address inside a span, outside all spans, and how many stand below it.
use Rattle.std.proofs.Common.{◌≡◌, ℕ, zero, suc, ◌+◌, ◌-◌, ◌<◌, ◌≤◌, cond, eqb, ltb, List, [], ◌∷◌, length, get_or, take, drop, map, Some, None, ◌⊎◌, refl, sym, inl, inr, arith}
use Rattle.std.specs.List.{find, count_by}
use Rattle.std.proofs.lemmas.List.{length-take, length-drop, length-append, get_or-take, get_or-drop, take-append-drop, map-append, nil_from_length}
use Rattle.std.proofs.lemmas.List.Folds.{find-append}
use Rattle.std.proofs.lemmas.List.Sums.{sum_by-cons, sum_by-append, sum_by_more_le}
use Rattle.rv_image.specs.declared.span.Span.{Span}
use Rattle.rv_image.specs.Cell.{Cell, cells_from}
use Rattle.rv_image.specs.View.{cells_in, LiesFrom, total}
use Rattle.rv_image.proofs.Runs.{find-cells_from-hit, find-cells_from-miss, count_by-cells_from, length-cells_from, map-cells_from}

-- the length of the first span, and of the others
pub total-cons : (span : Span) (spans : List Span) → total (span ∷ spans) ≡ span.length + total spans
total-cons span spans = sum_by-cons (λ (s : Span). s.length) span spans

-- the spans before a location and the span there are within all of them
pub total-take : (spans : List Span) (k : ℕ) (d : Span) → k < length spans → total (take k spans) + (get_or spans k d).length ≤ total spans
total-take spans k d inside = sum_by_more_le (λ (s : Span). s.length) spans k d inside

-- each span begins at or above the address from which they lie
pub LiesFrom-address : (spans : List Span) (low k : ℕ) (d : Span) → LiesFrom low spans → k < length spans → low ≤ (get_or spans k d).address
unfolding LiesFrom
LiesFrom-address [] low k d lies inside = absurd (omega arith)
LiesFrom-address (span ∷ spans) low zero d lies inside = lies.0
LiesFrom-address (span ∷ spans) low (suc k) d lies inside =
    let later = LiesFrom-address spans (span.address + span.length) k d lies.3 (omega arith) in
    let here : low ≤ span.address = lies.0 in
    omega arith

-- a span ends at or below the start of each later one
pub LiesFrom-apart : (spans : List Span) (low j k : ℕ) (d : Span) → LiesFrom low spans → j < k → k < length spans
    → (get_or spans j d).address + (get_or spans j d).length ≤ (get_or spans k d).address
unfolding LiesFrom
LiesFrom-apart [] low j k d lies before inside = absurd (omega arith)
LiesFrom-apart (span ∷ spans) low j zero d lies before inside = absurd (omega arith)
LiesFrom-apart (span ∷ spans) low zero (suc k) d lies before inside = LiesFrom-address spans (span.address + span.length) k d lies.3 (omega arith)
LiesFrom-apart (span ∷ spans) low (suc j) (suc k) d lies before inside =
    LiesFrom-apart spans (span.address + span.length) j k d lies.3 (omega arith) (omega arith)

-- no span is empty
pub LiesFrom-filled : (spans : List Span) (low k : ℕ) (d : Span) → LiesFrom low spans → k < length spans → 0 < (get_or spans k d).length
unfolding LiesFrom
LiesFrom-filled [] low k d lies inside = absurd (omega arith)
LiesFrom-filled (span ∷ spans) low zero d lies inside = lies.1
LiesFrom-filled (span ∷ spans) low (suc k) d lies inside = LiesFrom-filled spans (span.address + span.length) k d lies.3 (omega arith)

-- the cell at an address of the span at a location
pub find-cells_in-hit : (spans : List Span) (bytes : List ℕ) (low i address : ℕ) (d : Span) → LiesFrom low spans → total spans ≤ length bytes → i < length spans
    → (get_or spans i d).address ≤ address → address < (get_or spans i d).address + (get_or spans i d).length
    → find (λ cell. eqb cell.address address) (cells_in spans bytes)
    ≡ Some (record {
      address = address;
      byte = get_or bytes (total (take i spans) + (address - (get_or spans i d).address)) 0;
      read = (get_or spans i d).read;
      write = (get_or spans i d).write;
      exec = (get_or spans i d).exec;
    })
unfolding cells_in LiesFrom
find-cells_in-hit [] bytes low i address d lies enough inside from before = absurd (omega arith)
find-cells_in-hit (span ∷ spans) bytes low zero address d lies enough inside from before =
    let sum = total-cons span spans in
    let run = cells_from span.address span.read span.write span.exec (take span.length bytes) in
    let split = find-append (λ (cell : Cell). eqb cell.address address) run (cells_in spans (drop span.length bytes)) in
    let hit = find-cells_from-hit (take span.length bytes) span.address address span.read span.write span.exec from (omega (arith, length-take span.length bytes)) in
    let byte = get_or-take span.length bytes (address - span.address) 0 (omega arith) in
    let location : address - span.address ≡ 0 + (address - span.address) = omega arith in
    rw (split, hit, byte, ← location) refl
find-cells_in-hit (span ∷ spans) bytes low (suc i) address d lies enough inside from before =
    let sum = total-cons span spans in
    let sums = total-cons span (take i spans) in
    let above = LiesFrom-address spans (span.address + span.length) i d lies.3 (omega arith) in
    let run = cells_from span.address span.read span.write span.exec (take span.length bytes) in
    let split = find-append (λ (cell : Cell). eqb cell.address address) run (cells_in spans (drop span.length bytes)) in
    let miss = find-cells_from-miss (take span.length bytes) span.address address span.read span.write span.exec (inr (omega (arith, length-take span.length bytes))) in
    let later = find-cells_in-hit spans (drop span.length bytes) (span.address + span.length) i address d lies.3 (omega (arith, length-drop span.length bytes)) (omega arith) from before in
    let byte = get_or-drop span.length bytes (total (take i spans) + (address - (get_or spans i d).address)) 0 in
    let location : span.length + (total (take i spans) + (address - (get_or spans i d).address)) ≡ total (take (suc i) (span ∷ spans)) + (address - (get_or spans i d).address) = omega arith in
    rw (split, miss, later, byte, location) refl

-- no cell is at an address that lies in no span
pub find-cells_in-miss : (spans : List Span) (bytes : List ℕ) (address : ℕ)
    → ((k : ℕ) (d : Span) → k < length spans → (address < (get_or spans k d).address) ⊎ ((get_or spans k d).address + (get_or spans k d).length ≤ address))
    → find (λ cell. eqb cell.address address) (cells_in spans bytes) ≡ None
unfolding cells_in
find-cells_in-miss [] bytes address outside = refl
find-cells_in-miss (span ∷ spans) bytes address outside =
    let run = cells_from span.address span.read span.write span.exec (take span.length bytes) in
    let split = find-append (λ (cell : Cell). eqb cell.address address) run (cells_in spans (drop span.length bytes)) in
    let here : (address < span.address) ⊎ (span.address + length (take span.length bytes) ≤ address) =
    elim (outside 0 span (omega arith)) [ inl before ↦ inl before | inr after ↦ inr (omega (arith, length-take span.length bytes)) ] in
    let miss = find-cells_from-miss (take span.length bytes) span.address address span.read span.write span.exec here in
    let later = find-cells_in-miss spans (drop span.length bytes) address (λ k d inside. outside (suc k) d (omega arith)) in
    rw (split, miss) later

-- no cell is below the address from which the spans lie
pub count_by-cells_in-none : (spans : List Span) (bytes : List ℕ) (low address : ℕ) → LiesFrom low spans → address ≤ low
    → count_by (λ cell. ltb cell.address address) (cells_in spans bytes) ≡ 0
unfolding cells_in LiesFrom
count_by-cells_in-none [] bytes low address lies below = refl
count_by-cells_in-none (span ∷ spans) bytes low address lies below =
    let here : low ≤ span.address = lies.0 in
    let run = cells_from span.address span.read span.write span.exec (take span.length bytes) in
    let split = sum_by-append (λ (cell : Cell). cond (ltb cell.address address) 1 0) run (cells_in spans (drop span.length bytes)) in
    let first = count_by-cells_from (take span.length bytes) span.address address span.read span.write span.exec in
    let later = count_by-cells_in-none spans (drop span.length bytes) (span.address + span.length) address lies.3 (omega arith) in
    omega arith

-- how many cells are below an address of the span at a location
pub count_by-cells_in : (spans : List Span) (bytes : List ℕ) (low i address : ℕ) (d : Span) → LiesFrom low spans → total spans ≤ length bytes → i < length spans
    → (get_or spans i d).address ≤ address → address < (get_or spans i d).address + (get_or spans i d).length
    → count_by (λ cell. ltb cell.address address) (cells_in spans bytes) ≡ total (take i spans) + (address - (get_or spans i d).address)
unfolding cells_in LiesFrom
count_by-cells_in [] bytes low i address d lies enough inside from before = absurd (omega arith)
count_by-cells_in (span ∷ spans) bytes low zero address d lies enough inside from before =
    let sum = total-cons span spans in
    let run = cells_from span.address span.read span.write span.exec (take span.length bytes) in
    let split = sum_by-append (λ (cell : Cell). cond (ltb cell.address address) 1 0) run (cells_in spans (drop span.length bytes)) in
    let first = count_by-cells_from (take span.length bytes) span.address address span.read span.write span.exec in
    let later = count_by-cells_in-none spans (drop span.length bytes) (span.address + span.length) address lies.3 (omega arith) in
    omega (arith, length-take span.length bytes)
count_by-cells_in (span ∷ spans) bytes low (suc i) address d lies enough inside from before =
    let sum = total-cons span spans in
    let sums = total-cons span (take i spans) in
    let above = LiesFrom-address spans (span.address + span.length) i d lies.3 (omega arith) in
    let run = cells_from span.address span.read span.write span.exec (take span.length bytes) in
    let split = sum_by-append (λ (cell : Cell). cond (ltb cell.address address) 1 0) run (cells_in spans (drop span.length bytes)) in
    let first = count_by-cells_from (take span.length bytes) span.address address span.read span.write span.exec in
    let later = count_by-cells_in spans (drop span.length bytes) (span.address + span.length) i address d lies.3 (omega (arith, length-drop span.length bytes)) (omega arith) from before in
    omega (arith, length-take span.length bytes)

-- the spans have a cell for each byte
pub length-cells_in : (spans : List Span) (bytes : List ℕ) → total spans ≡ length bytes → length (cells_in spans bytes) ≡ length bytes
unfolding cells_in
length-cells_in [] bytes all = all
length-cells_in (span ∷ spans) bytes all =
    let sum = total-cons span spans in
    let run = cells_from span.address span.read span.write span.exec (take span.length bytes) in
    let split = length-append run (cells_in spans (drop span.length bytes)) in
    let first = length-cells_from (take span.length bytes) span.address span.read span.write span.exec in
    let later = length-cells_in spans (drop span.length bytes) (omega (arith, length-drop span.length bytes)) in
    omega (arith, length-take span.length bytes, length-drop span.length bytes)

-- the cells' bytes are the bytes
pub map-cells_in : (spans : List Span) (bytes : List ℕ) → total spans ≡ length bytes → map (λ cell. cell.byte) (cells_in spans bytes) ≡ bytes
unfolding cells_in
map-cells_in [] bytes all = sym (nil_from_length bytes (sym all))
map-cells_in (span ∷ spans) bytes all =
    let sum = total-cons span spans in
    let run = cells_from span.address span.read span.write span.exec (take span.length bytes) in
    let split = map-append (λ (cell : Cell). cell.byte) run (cells_in spans (drop span.length bytes)) in
    let first = map-cells_from (take span.length bytes) span.address span.read span.write span.exec in
    let later = map-cells_in spans (drop span.length bytes) (omega (arith, length-drop span.length bytes)) in
    rw (split, first, later) (take-append-drop span.length bytes)
