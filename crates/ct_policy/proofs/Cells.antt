-- An address of a segment or of a memory entry is accessible in the image.
use Rattle.std.proofs.Common.{◌≡◌, ℕ, ◌+◌, ◌^◌, ◌<◌, ◌≤◌, Bool, true, false, ◌&&◌, ◌||◌, eqb, leb, ltb, List, [], ◌∷◌, length, map, fold, Option, Some, None, refl, sym, ap, ◌∙◌, inl, inr, arith}
use Rattle.std.specs.List.{list_any, find, flat_map, sum_by}
use Rattle.std.specs.Option.{is_some, option_map}
use Rattle.std.proofs.lemmas.Bool.{cases_lt, and_parts, leb-true, ltb-true, lt-ltb, le-ltb}
use Rattle.std.proofs.lemmas.List.{length-replicate}
use Rattle.std.proofs.lemmas.List.Concat.{length-flat_map}
use Rattle.std.proofs.lemmas.List.Folds.{list_any-append}
use Rattle.std.proofs.lemmas.List.Sums.{sum_by-cons}
use Rattle.elf_load.specs.declared.segment.Segment.{Segment}
use Rattle.elf_load.specs.declared.elf.Elf.{Elf}
use Rattle.rv_image.specs.declared.span.Span.{Span}
use Rattle.rv_image.specs.Image.{cell_at, index_at}
use Rattle.rv_image.specs.Part.{segment_span}
use Rattle.rv_image.specs.View.{total}
use Rattle.rv_image.specs.Loading.{CanBuild, zeros_of, parts_of, insert_part, put_part, in_order, part_cells, cells_of}
use Rattle.rv_image.proofs.Runs.{find-cells_from-hit, find-cells_from-miss, length-cells_from}
use Rattle.rv_image.proofs.Ordering.{total-in_order}
use Rattle.ct_document.specs.declared.memory_entry.MemoryEntry.{MemoryEntry}
use Rattle.ct_document.specs.declared.policy.Policy.{Policy}
use Rattle.ct_policy.specs.Policy.{segment_region, memory_region, memory_span, accessible, extra_spans}
use Rattle.ct_policy.specs.Regions.{holds}
use Rattle.ct_document.proofs.Lists.{list_any-map}
use Rattle.ct_policy.proofs.Lists.{or_swap, list_any-weaker, is_some-find-flat_map}

-- a part has a cell at the address
abbrev hits : ℕ → Segment → Bool
hits address part = is_some (find (λ cell. eqb cell.address address) (part_cells part))

module _ (test : Segment → Bool) where
  any-insert_part : (part : Segment) (parts : List Segment) → list_any test (insert_part part parts) ≡ (test part || list_any test parts)
  unfolding insert_part
  any-insert_part part [] = refl
  any-insert_part part (first ∷ others) =
      elim (cases_lt first.address part.address) [
        | inl below ↦
            let before = lt-ltb first.address part.address below in
            rw before (ap (λ rest. test first || rest) (any-insert_part part others) ∙ or_swap (test first) (test part) (list_any test others))
        | inr above ↦ let after = le-ltb first.address part.address above in rw after refl
      ]

  any-put_part : ((part : Segment) → length part.bytes ≡ 0 → test part ≡ false) → (parts : List Segment) (part : Segment)
      → list_any test (put_part parts part) ≡ (test part || list_any test parts)
  unfolding put_part
  any-put_part empty parts part =
      elim (cases_lt 0 (length part.bytes)) [
        | inl filled ↦ rw (lt-ltb 0 (length part.bytes) filled) (any-insert_part part parts)
        | inr none ↦ rw (le-ltb 0 (length part.bytes) none, empty part (omega arith)) refl
      ]

  any-fold : ((part : Segment) → length part.bytes ≡ 0 → test part ≡ false) → (done parts : List Segment)
      → list_any test (fold put_part done parts) ≡ (list_any test parts || list_any test done)
  any-fold empty done [] = refl
  any-fold empty done (part ∷ parts) =
      any-fold empty (put_part done part) parts
      ∙ rw (any-put_part empty done part) (or_parts (list_any test parts) (test part) (list_any test done))
    where
      or_parts : (a b c : Bool) → (a || (b || c)) ≡ ((b || a) || c)
      or_parts true true c = refl
      or_parts true false c = refl
      or_parts false true c = refl
      or_parts false false c = refl

hits-empty : (address : ℕ) (part : Segment) → length part.bytes ≡ 0 → hits address part ≡ false
unfolding part_cells
hits-empty address part none =
    ap is_some (find-cells_from-miss part.bytes part.address address part.read part.write part.exec (
    elim (cases_lt address part.address) [ inl before ↦ inl before | inr after ↦ inr (omega arith) ]))

hits-region : (address : ℕ) (part : Segment) (first size : ℕ) → first ≡ part.address → size ≡ length part.bytes → first ≤ address → address < first + size → hits address part ≡ true
unfolding part_cells
hits-region address part first size at long low high =
    ap is_some (find-cells_from-hit part.bytes part.address address part.read part.write part.exec (omega arith) (omega arith))

-- the bounds of an address that a region holds
pub holds_bounds : (address start end : ℕ) → (leb start address && ltb address end) ≡ true → (start ≤ address) × (address < end)
holds_bounds address start end both =
    let parts = and_parts (leb start address) (ltb address end) both in
    (leb-true start address parts.0, ltb-true address end parts.1)

segment_hits : (address : ℕ) (segment : Segment) → holds address (segment_region segment) ≡ true → hits address segment ≡ true
segment_hits address segment held =
    let within = holds_bounds address _ _ held in
    hits-region address segment segment.address (length segment.bytes) refl refl (omega (arith, within.0)) (omega (arith, within.1))

entry_hits : (address : ℕ) (entry : MemoryEntry) → holds address (memory_region entry) ≡ true → hits address (zeros_of (memory_span entry)) ≡ true
unfolding zeros_of
entry_hits address entry held =
    let within = holds_bounds address _ _ held in
    let region = memory_region entry in
    hits-region address _ region.at region.length refl (sym (length-replicate region.length 0)) (omega (arith, within.0)) (omega (arith, within.1))

any-extra : (test : Segment → Bool) (entries : List MemoryEntry) → list_any test (map zeros_of (map memory_span entries)) ≡ list_any (λ entry. test (zeros_of (memory_span entry))) entries
any-extra test [] = refl
any-extra test (entry ∷ entries) = ap (λ rest. test (zeros_of (memory_span entry)) || rest) (any-extra test entries)

or_true : (a b c d : Bool) → (a ≡ true → c ≡ true) → (b ≡ true → d ≡ true) → (a || b) ≡ true → (c || d) ≡ true
or_true true b c d first second either = ap (λ x. x || d) (first refl)
or_true false b true d first second either = refl
or_true false b false d first second either = second either

parts_hit : (elf : Elf) (policy : Policy) (address : ℕ) → list_any (holds address) (accessible elf policy) ≡ true
    → list_any (hits address) (parts_of elf (extra_spans policy)) ≡ true
unfolding accessible parts_of extra_spans
parts_hit elf policy address held =
    list_any-append (hits address) elf.segments (map zeros_of (map memory_span policy.memory))
    ∙ ap (λ rest. list_any (hits address) elf.segments || rest) (any-extra (hits address) policy.memory)
    ∙ or_true _ _ _ _
    (λ some. list_any-weaker _ (hits address) elf.segments (segment_hits address) (sym (list_any-map (holds address) segment_region elf.segments) ∙ some))
    (λ some. list_any-weaker _ (λ entry. hits address (zeros_of (memory_span entry))) policy.memory (entry_hits address) (sym (list_any-map (holds address) memory_region policy.memory) ∙ some))
    (sym (list_any-append (holds address) (map segment_region elf.segments) (map memory_region policy.memory)) ∙ held)

is_some-option_map : {A B : Type 0} (f : A → B) (o : Option A) → is_some (option_map f o) ≡ is_some o
is_some-option_map f None = refl
is_some-option_map f (Some x) = refl

-- an address that is held is accessible
pub accessible_at : (elf : Elf) (policy : Policy) (address : ℕ) → list_any (holds address) (accessible elf policy) ≡ true
    → is_some (index_at (cells_of elf (extra_spans policy)) address) ≡ true
unfolding index_at cell_at cells_of in_order
accessible_at elf policy address held =
    let parts = parts_of elf (extra_spans policy) in
    is_some-option_map _ (find (λ cell. eqb cell.address address) (flat_map part_cells (fold put_part [] parts)))
    ∙ is_some-find-flat_map (λ cell. eqb cell.address address) part_cells (fold put_part [] parts)
    ∙ any-fold (hits address) (hits-empty address) [] parts
    ∙ rw (parts_hit elf policy address held) refl

sizes_of : (parts : List Segment) → sum_by (λ part. length (part_cells part)) parts ≡ total (map segment_span parts)
unfolding part_cells segment_span
sizes_of [] = refl
sizes_of (part ∷ parts) =
    sum_by-cons (λ part. length (part_cells part)) part parts
    ∙ rw (length-cells_from part.bytes part.address part.read part.write part.exec, sizes_of parts) (sym (sum_by-cons (λ (span : Span). span.length) (segment_span part) (map segment_span parts)))

-- an image has at most 2^24 cells
pub cells_small : (elf : Elf) (extra : List Span) → CanBuild elf extra → length (cells_of elf extra) ≤ 2 ^ 24
unfolding cells_of
cells_small elf extra can =
    let parts = in_order (parts_of elf extra) in
    let count = length-flat_map part_cells parts ∙ sizes_of parts in
    omega (arith, count, total-in_order elf extra can)
