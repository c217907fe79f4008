-- What the spans of an image say of its addresses.
use Rattle.std.proofs.Common.{◌≡◌, ℕ, zero, suc, ◌+◌, ◌^◌, ◌<◌, ◌≤◌, ◌≢◌, Bool, true, false, cond, ◌&&◌, ◌||◌, eqb, leb, ltb, List, [], ◌∷◌, ◌++◌, length, map, replicate, All, Option, Some, None, ◌⊎◌, refl, sym, ap, ◌∙◌, inl, inr, arith, option_map}
use Rattle.std.specs.List.{find, list_any}
use Rattle.std.specs.Option.{option_map_or}
use Rattle.std.specs.List.Sorted.{IsStrictlyIncreasing}
use Rattle.std.proofs.lemmas.Bool.{cases_Bool, and_parts, and_cases, or_parts, leb-true, leb-false, ltb-true, ltb-false, lt-leb, and_left, and_right, or_from}
use Rattle.std.proofs.lemmas.List.{length-map, length-append, length-replicate}
use Rattle.std.proofs.lemmas.List.Folds.{find-append}
use Rattle.rv_image.specs.declared.span.Span.{Span}
use Rattle.rv_image.specs.declared.right.Right.{Right}
use Rattle.rv_image.specs.declared.right.Right.TheVariants.{Read, Write, Execute}
use Rattle.rv_image.specs.Cell.{Cell, cells_from}
use Rattle.rv_image.specs.Image.{IsImage, cell_at, cell_right, span_right, allowed_at}
use Rattle.rv_image.specs.Loading.{zeros_of, part_cells}
use Rattle.rv_image.specs.Ranges.{without_byte, rights_of, rights_in}
use Rattle.rv_image.specs.View.{LiesFrom, total}
use Rattle.rv_image.proofs.Runs.{find-cells_from-hit, find-cells_from-miss, length-cells_from}
use Rattle.rv_image.proofs.Spans.{total-cons}
use Rattle.rv_image.proofs.Laws.{cell_at-All, cell_at-address}
use Rattle.rel_memory.specs.Spanning.{in_span, span_allows}

zeros_long : (n : ℕ) → length (replicate {A = ℕ} n 0) ≡ n
zeros_long n = length-replicate {A = ℕ} n 0

rights_in-nil : rights_in [] ≡ []
unfolding rights_in
rights_in-nil = refl

rights_in-cons : (span : Span) (spans : List Span) → rights_in (span ∷ spans) ≡ cells_from span.address span.read span.write span.exec (replicate span.length 0) ++ rights_in spans
unfolding rights_in zeros_of part_cells
rights_in-cons span spans = refl

-- the addresses climb from one on, all below 2^32
Climbs : ℕ → List Cell → Type 0
Climbs low [] = Unit {0}
Climbs low (cell ∷ cells) = (low ≤ cell.address) × (cell.address < 2 ^ 32) × Climbs (suc cell.address) cells

Climbs-from : (low : ℕ) (cell : Cell) (cells : List Cell) → low ≤ cell.address → IsStrictlyIncreasing (map (λ c. c.address) (cell ∷ cells)) → All (λ c. c.address < 2 ^ 32) (cell ∷ cells) → Climbs low (cell ∷ cells)
unfolding Climbs
Climbs-from low cell [] above increasing fits = (above, fits 0 cell (omega arith), tt)
Climbs-from low cell (next ∷ cells) above increasing fits =
    let first = increasing 0 (omega arith) in
    let rest : IsStrictlyIncreasing (map (λ (c : Cell). c.address) (next ∷ cells)) =
    λ k inside. let moved : suc k + 1 ≡ suc (k + 1) = omega arith in rw moved at (increasing (suc k) (omega arith)) in
    (above, fits 0 cell (omega arith), Climbs-from (suc cell.address) next cells (omega arith) rest (λ k d inside. fits (suc k) d (omega arith)))

Climbs-image : (cells : List Cell) → IsStrictlyIncreasing (map (λ c. c.address) cells) → All (λ c. c.address < 2 ^ 32) cells → Climbs 0 cells
unfolding Climbs
Climbs-image [] increasing fits = tt
Climbs-image (cell ∷ cells) increasing fits = Climbs-from 0 cell cells (omega arith) increasing fits

Climbs-rights : (cells : List Cell) (low : ℕ) → Climbs low cells → Climbs low (rights_of cells)
unfolding Climbs rights_of
Climbs-rights [] low climbs = tt
Climbs-rights (cell ∷ cells) low climbs = (climbs.0, climbs.1, Climbs-rights cells (suc cell.address) climbs.2)

Climbs-span : (bytes : List ℕ) (first low : ℕ) (read write exec : Bool) (rest : List Cell) → 0 < length bytes → Climbs low (cells_from first read write exec bytes ++ rest)
    → (low ≤ first) × (first + length bytes ≤ 2 ^ 32) × Climbs (first + length bytes) rest
unfolding Climbs cells_from
Climbs-span [] first low read write exec rest some climbs = absurd (omega arith)
Climbs-span (byte ∷ []) first low read write exec rest some climbs =
    let next : first + 1 ≡ suc first = omega arith in
    (climbs.0, omega (arith, climbs.1), rw next climbs.2)
Climbs-span (byte ∷ other ∷ bytes) first low read write exec rest some climbs =
    let later = Climbs-span (other ∷ bytes) (suc first) (suc first) read write exec rest (omega arith) climbs.2 in
    let next : first + length (byte ∷ other ∷ bytes) ≡ suc first + length (other ∷ bytes) = omega arith in
    (climbs.0, omega (arith, later.1), rw next later.2)

LiesFrom-climbs : (spans : List Span) (low : ℕ) → Climbs low (rights_in spans) → All (λ span. 0 < span.length) spans → LiesFrom low spans
unfolding LiesFrom
LiesFrom-climbs [] low climbs filled = tt
LiesFrom-climbs (span ∷ spans) low climbs filled =
    let some : 0 < span.length = filled 0 span (omega arith) in
    let size = zeros_long span.length in
    let parts = Climbs-span (replicate span.length 0) span.address low span.read span.write span.exec (rights_in spans) (omega (arith, some, zeros_long span.length)) (rw rights_in-cons at climbs) in
    let rest : Climbs (span.address + span.length) (rights_in spans) = rw size at parts.2 in
    (parts.0, some, omega (arith, parts.1), LiesFrom-climbs spans (span.address + span.length) rest (λ k d inside. filled (suc k) d (omega arith)))

LiesFrom-fits : (spans : List Span) (low : ℕ) → LiesFrom low spans → All (λ span. span.address + span.length ≤ 2 ^ 32) spans
unfolding LiesFrom
LiesFrom-fits [] low lies k d inside = absurd (omega arith)
LiesFrom-fits (span ∷ spans) low lies zero d inside = lies.2
LiesFrom-fits (span ∷ spans) low lies (suc k) d inside = LiesFrom-fits spans (span.address + span.length) lies.3 k d (omega arith)

outside : (at : ℕ) (span : Span) → in_span at span ≡ false → (at < span.address) ⊎ (span.address + span.length ≤ at)
outside at span out = elim (and_cases (leb span.address at) (ltb at (span.address + span.length)) out) [
  | inl below ↦ inl (leb-false span.address at below)
  | inr above ↦ inr (ltb-false at (span.address + span.length) above)
]

miss : (at : ℕ) (span : Span) → in_span at span ≡ false → find (λ cell. eqb cell.address at) (cells_from span.address span.read span.write span.exec (replicate span.length 0)) ≡ None
miss at span out =
    find-cells_from-miss (replicate span.length 0) span.address at span.read span.write span.exec
    (elim (outside at span out) [ inl below ↦ inl below | inr above ↦ inr (omega (arith, above, zeros_long span.length)) ])

-- no cell is at an address that lies in no span
none_outside : (spans : List Span) (at : ℕ) → list_any (in_span at) spans ≡ false → cell_at (rights_in spans) at ≡ None
unfolding cell_at
none_outside [] at out = rw rights_in-nil refl
none_outside (span ∷ spans) at out =
    let parts = or_parts (in_span at span) (list_any (in_span at) spans) out in
    let split = find-append (λ (cell : Cell). eqb cell.address at) (cells_from span.address span.read span.write span.exec (replicate span.length 0)) (rights_in spans) in
    rw (rights_in-cons span spans, split, miss at span parts.0) (none_outside spans at parts.1)

above_none : (right : Right) (spans : List Span) (low at : ℕ) → LiesFrom low spans → at < low → list_any (span_allows right at) spans ≡ false
unfolding LiesFrom
above_none right [] low at lies below = refl
above_none right (span ∷ spans) low at lies below =
    let here : low ≤ span.address = lies.0 in
    or_from (span_allows right at span) (list_any (span_allows right at) spans)
    (and_right (span_right right span) (in_span at span) (and_left (leb span.address at) (ltb at (span.address + span.length)) (lt-leb span.address at (omega arith))))
    (above_none right spans (span.address + span.length) at lies.3 (omega arith))

right_same : (right : Right) (span : Span) (address byte : ℕ)
    → cell_right right (record { address = address; byte = byte; read = span.read; write = span.write; exec = span.exec }) ≡ span_right right span
right_same Read span address byte = refl
right_same Write span address byte = refl
right_same Execute span address byte = refl

allows_here : (here any : Bool) → any ≡ false → here ≡ ((here && true) || any)
allows_here true false none = refl
allows_here true true none = cc
allows_here false any none = sym none

allows_there : (here any : Bool) → any ≡ ((here && false) || any)
allows_there true any = refl
allows_there false any = refl

-- an address has a right where a span with the right has the address
allowed_in_spans : (right : Right) (spans : List Span) (low at : ℕ) → LiesFrom low spans → allowed_at right (rights_in spans) at ≡ list_any (span_allows right at) spans
unfolding allowed_at cell_at LiesFrom
allowed_in_spans right [] low at lies = rw rights_in-nil refl
allowed_in_spans right (span ∷ spans) low at lies =
    let run = cells_from span.address span.read span.write span.exec (replicate span.length 0) in
    let split = find-append (λ (cell : Cell). eqb cell.address at) run (rights_in spans) in
    elim (cases_Bool (in_span at span)) [
      | inl inside ↦
          let within = and_parts (leb span.address at) (ltb at (span.address + span.length)) inside in
          let from = leb-true span.address at within.0 in
          let before = ltb-true at (span.address + span.length) within.1 in
          let hit = find-cells_from-hit (replicate span.length 0) span.address at span.read span.write span.exec from (omega (arith, before, zeros_long span.length)) in
          let none = above_none right spans (span.address + span.length) at lies.3 before in
          rw (rights_in-cons span spans, split, hit, inside) (right_same right span _ _ ∙ allows_here (span_right right span) (list_any (span_allows right at) spans) none)
      | inr out ↦
          let later = allowed_in_spans right spans (span.address + span.length) at lies.3 in
          rw (rights_in-cons span spans, split, miss at span out, out) (later ∙ allows_there (span_right right span) (list_any (span_allows right at) spans))
    ]

-- the rights without the bytes

cell_at-rights : (cells : List Cell) (at : ℕ) → cell_at (rights_of cells) at ≡ option_map without_byte (cell_at cells at)
unfolding cell_at rights_of
cell_at-rights [] at = refl
cell_at-rights (cell ∷ cells) at = by_test (eqb cell.address at) (cell_at cells at) (cell_at (rights_of cells) at) (cell_at-rights cells at)
  where
    by_test : (here : Bool) (later rest : Option Cell) → rest ≡ option_map without_byte later → cond here (Some (without_byte cell)) rest ≡ option_map without_byte (cond here (Some cell) later)
    by_test true later rest e = refl
    by_test false later rest e = e

right_without : (right : Right) (cell : Cell) → cell_right right (without_byte cell) ≡ cell_right right cell
right_without Read cell = refl
right_without Write cell = refl
right_without Execute cell = refl

right_of : (right : Right) (found : Option Cell) → option_map_or (cell_right right) (option_map without_byte found) false ≡ option_map_or (cell_right right) found false
right_of right None = refl
right_of right (Some cell) = right_without right cell

allowed_at-rights : (right : Right) (cells : List Cell) (at : ℕ) → allowed_at right (rights_of cells) at ≡ allowed_at right cells at
unfolding allowed_at
allowed_at-rights right cells at = rw (cell_at-rights cells at) (right_of right (cell_at cells at))

none_of : (found : Option Cell) → option_map without_byte found ≡ None → found ≡ None
none_of None e = refl
none_of (Some cell) e = absurd cc

length-rights_of : (cells : List Cell) → length (rights_of cells) ≡ length cells
unfolding rights_of
length-rights_of cells = length-map cells without_byte

length-rights_in : (spans : List Span) → length (rights_in spans) ≡ total spans
unfolding rights_in
length-rights_in [] = refl
length-rights_in (span ∷ spans) =
    let run = cells_from span.address span.read span.write span.exec (replicate span.length 0) in
    let cells = ap length (rights_in-cons span spans) ∙ length-append run (rights_in spans) in
    omega (arith, cells, length-cells_from (replicate span.length 0) span.address span.read span.write span.exec, zeros_long span.length, length-rights_in spans, total-cons span spans)

-- what spans say of an image's addresses
pub record IsSpanned (cells : List Cell) (spans : List Span) : Type 0 where
  pub fits : All (λ span. span.address + span.length ≤ 2 ^ 32) spans
  pub allowed : (right : Right) (at : ℕ) → allowed_at right cells at ≡ list_any (span_allows right at) spans
  pub accessible : (at : ℕ) → cell_at cells at ≢ None → list_any (in_span at) spans ≡ true
  pub count : total spans ≡ length cells

pub spanned : (cells : List Cell) (spans : List Span) → IsImage cells → rights_of cells ≡ rights_in spans → All (λ span. 0 < span.length) spans → IsSpanned cells spans
spanned cells spans image cover filled =
    let climbs : Climbs 0 (rights_in spans) = rw (← cover) (Climbs-rights cells 0 (Climbs-image cells image.ascending image.addresses)) in
    let lies = LiesFrom-climbs spans 0 climbs filled in
    record {
      fits = LiesFrom-fits spans 0 lies;
      allowed = λ right at. sym (allowed_at-rights right cells at) ∙ ap (λ (c : List Cell). allowed_at right c at) cover ∙ allowed_in_spans right spans 0 at lies;
      accessible = λ at some. elim (cases_Bool (list_any (in_span at) spans)) [
        | inl found ↦ found
        | inr missing ↦ absurd (some (none_of (cell_at cells at) (sym (cell_at-rights cells at) ∙ ap (λ (c : List Cell). cell_at c at) cover ∙ none_outside spans at missing)))
      ];
      count = sym (length-rights_in spans) ∙ ap length (sym cover) ∙ length-rights_of cells;
    }

-- an accessible address has 32 bits
pub address_fits : (cells : List Cell) (at : ℕ) → IsImage cells → cell_at cells at ≢ None → at < 2 ^ 32
address_fits cells at image some = by_cell (cell_at cells at) refl
  where
    by_cell : (found : Option Cell) → cell_at cells at ≡ found → at < 2 ^ 32
    by_cell None e = absurd (some e)
    by_cell (Some cell) e =
        let fits = cell_at-All (λ c. c.address < 2 ^ 32) cells at cell image.addresses e in
        let same = cell_at-address cells at cell e in
        omega arith
