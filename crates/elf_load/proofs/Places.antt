-- Where the segments of accepted program headers lie.
use Rattle.std.proofs.Common.{◌≡◌, ℕ, zero, suc, ◌+◌, ◌-◌, ◌^◌, ◌<◌, ◌≤◌, min, max, Bool, true, false, not, cond, eqb, ltb, leb, ◌&&◌, ◌||◌, List, [], ◌∷◌, ◌++◌, length, get_or, take, drop, map, replicate, All, None, refl, sym, ap, ◌∙◌, inl, inr, subst, arith}
use Rattle.std.specs.List.{AllPairs, filter, sum_by}
use Rattle.std.proofs.lemmas.Bool.{ltb-false, leb-true, eqb-true, not-false, and_parts, and_cases, or_cases, cond_both}
use Rattle.std.proofs.lemmas.List.{length-take, length-drop, length-append, length-replicate, map-append, append-nil}
use Rattle.std.proofs.lemmas.List.Elements.{All-map, All-filter, All-append, All-replicate, All-take, All-drop, filter_more, filter_passes}
use Rattle.std.proofs.lemmas.List.Kept.{AllPairs-filter}
use Rattle.std.proofs.lemmas.List.Sums.{sum_by-cons}
use Rattle.elf_load.specs.declared.program_header.ProgramHeader.{ProgramHeader}
use Rattle.elf_load.specs.declared.segment.Segment.{Segment}
use Rattle.elf_load.specs.Fields.{bytes_at}
use Rattle.elf_load.specs.Overlap.{share_address}
use Rattle.elf_load.specs.File.{is_load, is_within, first_misplaced, first_overlapping, loaded_size, loaded_end, has_small_memory}
use Rattle.elf_load.specs.Loading.{loads_bytes, loaded_bytes, segment_of, segments_of}
use Rattle.elf_load.specs.Layout.{Extent, AreApart, FitsMemory, segment_extent}
use Rattle.elf_load.proofs.Overlaps.{AllPairs-map, position-none, none_share}

-- ---- segments within the file and memory

-- a program header that is loaded lies within file and memory
abbrev IsPlaced : ℕ → ProgramHeader → Type 0
IsPlaced size header = is_load header ≡ true → is_within size header ≡ true

misplaced-false : (load within : Bool) → (load && not within) ≡ false → load ≡ true → within ≡ true
misplaced-false true within fails loads = not-false within fails
misplaced-false false within fails loads = absurd cc

all_placed : (size : ℕ) (headers : List ProgramHeader) → first_misplaced size headers ≡ None → All (IsPlaced size) headers
unfolding first_misplaced
all_placed size headers none k d inside =
    let fails = position-none (λ header. is_load header && not (is_within size header)) headers none k d inside in
    misplaced-false (is_load (get_or headers k d)) (is_within size (get_or headers k d)) fails

pub is_within-loaded : (size : ℕ) (headers : List ProgramHeader) (index : ℕ) (d : ProgramHeader) → first_misplaced size headers ≡ None → index < length headers
    → loads_bytes (get_or headers index d) ≡ true → is_within size (get_or headers index d) ≡ true
is_within-loaded size headers index d none inside loads =
    all_placed size headers none index d inside (and_parts (is_load (get_or headers index d)) _ loads).0

-- the bytes of a header that is within the file
file_size-within : (size : ℕ) (header : ProgramHeader) → is_within size header ≡ true
    → (header.file_size ≤ header.memory_size) × (header.file_size ≤ size - header.offset) × (header.address + header.memory_size ≤ 2 ^ 32)
file_size-within size header within =
    let first = and_parts (leb header.file_size header.memory_size) _ within in
    let second = and_parts (eqb header.file_size 0 || leb (header.offset + header.file_size) size) _ first.1 in
    let fits : header.file_size ≤ size - header.offset =
    elim (or_cases (eqb header.file_size 0) (leb (header.offset + header.file_size) size) second.0) [
      | inl none ↦ let zero-is = eqb-true header.file_size 0 none in omega arith
      | inr some ↦ let bound = leb-true (header.offset + header.file_size) size some in omega arith
    ] in
    (leb-true _ _ first.0, fits, leb-true _ _ second.1)

length-loaded_bytes : (bytes : List ℕ) (header : ProgramHeader) → is_within (length bytes) header ≡ true → length (loaded_bytes bytes header) ≡ header.memory_size
unfolding loaded_bytes
length-loaded_bytes bytes header within =
    let fits = file_size-within (length bytes) header within in
    let small : header.file_size ≤ header.memory_size = fits.0 in
    let inside : header.file_size ≤ length bytes - header.offset = fits.1 in
    let front : List ℕ = bytes_at header.file_size header.offset bytes in
    let zeros : List ℕ = replicate (header.memory_size - header.file_size) 0 in
    let whole : length (front ++ zeros) ≡ length front + length zeros = length-append front zeros in
    let front_length : length front ≡ min header.file_size (length (drop header.offset bytes)) = length-take header.file_size (drop header.offset bytes) in
    let rest : length (drop header.offset bytes) ≡ length bytes - header.offset = length-drop header.offset bytes in
    let zeros_length : length zeros ≡ header.memory_size - header.file_size = length-replicate (header.memory_size - header.file_size) 0 in
    let sizes : length front + length zeros ≡ header.memory_size = omega arith in
    whole ∙ sizes

-- the range that a program header loads
abbrev header_extent : ProgramHeader → Extent
header_extent header = record { address = header.address; size = header.memory_size }

segment_extent-segment_of : (bytes : List ℕ) (header : ProgramHeader) → is_within (length bytes) header ≡ true → segment_extent (segment_of bytes header) ≡ header_extent header
unfolding segment_of
segment_extent-segment_of bytes header within =
    ap (λ (size : ℕ). let extent : Extent = record { address = header.address; size = size } in extent) (length-loaded_bytes bytes header within)

-- the ranges of segments are those of their program headers
map-segment_extent : (bytes : List ℕ) (headers : List ProgramHeader) → All (λ header. is_within (length bytes) header ≡ true) headers
    → map segment_extent (map (segment_of bytes) headers) ≡ map header_extent headers
map-segment_extent bytes [] within = refl
map-segment_extent bytes (header ∷ headers) within =
    let first = segment_extent-segment_of bytes header (within zero header (omega arith)) in
    let later = map-segment_extent bytes headers (λ k d inside. within (suc k) d (omega arith)) in
    λ i. first i ∷ later i

-- ---- segments apart

-- two program headers share no address
abbrev AreSeparate : ProgramHeader → ProgramHeader → Type 0
AreSeparate left right = share_address (λ (header : ProgramHeader). header.address) loaded_end left right ≡ false

not_sharing : (left right : ProgramHeader) → AreSeparate left right → is_load left ≡ true → is_load right ≡ true → AreApart (header_extent left) (header_extent right)
not_sharing left right none first second =
    let no_address : ltb (max left.address right.address) (min (left.address + left.memory_size) (right.address + right.memory_size)) ≡ false =
    rw (first, second) at none in
    ltb-false _ _ no_address

-- ---- all segments together

sum_by-loaded_size : (headers : List ProgramHeader) → sum_by (λ (extent : Extent). extent.size) (map header_extent (filter loads_bytes headers)) ≡ sum_by loaded_size headers
sum_by-loaded_size [] = refl
sum_by-loaded_size (header ∷ headers) =
    let size : Extent → ℕ = λ extent. extent.size in
    let P : List ProgramHeader → Type 0 = λ kept. sum_by size (map header_extent kept) ≡ sum_by loaded_size (header ∷ headers) in
    let later : sum_by size (map header_extent (filter loads_bytes headers)) ≡ sum_by loaded_size headers = sum_by-loaded_size headers in
    let whole = sum_by-cons loaded_size header headers in
    cond_both (loads_bytes header) (header ∷ filter loads_bytes headers) (filter loads_bytes headers) P
    (λ loads.
    let cons = sum_by-cons size (header_extent header) (map header_extent (filter loads_bytes headers)) in
    let one : loaded_size header ≡ header.memory_size = rw (and_parts (is_load header) _ loads).0 refl in
    omega arith)
    (λ skips.
    let none : loaded_size header ≡ 0 =
    elim (and_cases (is_load header) (not (eqb header.memory_size 0)) skips) [
      | inl other ↦ rw other refl
      | inr empty ↦ cond_both (is_load header) header.memory_size 0 (λ (n : ℕ). n ≡ 0) (λ _. eqb-true _ _ (not-false _ empty)) (λ _. refl)
    ] in
    omega arith)

-- the segments of accepted program headers are apart, and within memory
pub FitsMemory-segments_of : (bytes : List ℕ) (headers : List ProgramHeader)
    → first_misplaced (length bytes) headers ≡ None → first_overlapping headers ≡ None → has_small_memory headers ≡ true
    → FitsMemory (map segment_extent (segments_of bytes headers))
unfolding segments_of
FitsMemory-segments_of bytes headers none no_overlap small =
    let kept = filter loads_bytes headers in
    let loads : All (λ header. loads_bytes header ≡ true) kept = filter_passes loads_bytes headers in
    let placed : All (IsPlaced (length bytes)) kept = All-filter loads_bytes (IsPlaced (length bytes)) headers (all_placed (length bytes) headers none) in
    let within : All (λ header. is_within (length bytes) header ≡ true) kept =
    λ k d inside. placed k d inside (and_parts (is_load (get_or kept k d)) _ (loads k d inside)).0 in
    let pairs = AllPairs-filter AreSeparate loads_bytes headers (none_share _ _ headers no_overlap) in
    let apart : AllPairs (λ left right. AreApart (header_extent left) (header_extent right)) kept =
    λ i j d before inside.
    not_sharing (get_or kept i d) (get_or kept j d) (pairs i j d before inside)
    (and_parts (is_load (get_or kept i d)) _ (loads i d (omega arith))).0 (and_parts (is_load (get_or kept j d)) _ (loads j d inside)).0 in
    let below : All (λ header. header.address + header.memory_size ≤ 2 ^ 32) kept =
    λ k d inside. (file_size-within (length bytes) (get_or kept k d) (within k d inside)).2 in
    let same = map-segment_extent bytes kept within in
    subst (λ (extents : List Extent). FitsMemory extents) (sym same)
    (record {
      apart = AllPairs-map AreApart header_extent kept apart;
      below = All-map (λ extent. extent.address + extent.size ≤ 2 ^ 32) header_extent kept below;
      small = rw (sum_by-loaded_size headers) (leb-true _ _ small);
    })

-- ---- one segment after another

pub segments_none : (bytes : List ℕ) → segments_of bytes [] ≡ []
unfolding segments_of
segments_none bytes = refl

segments_of-take : (bytes : List ℕ) (headers : List ProgramHeader) (index : ℕ) (d : ProgramHeader) → index < length headers
    → segments_of bytes (take (index + 1) headers)
    ≡ segments_of bytes (take index headers) ++ map (segment_of bytes) (cond (loads_bytes (get_or headers index d)) (get_or headers index d ∷ []) [])
unfolding segments_of
segments_of-take bytes headers index d inside =
    ap (map (segment_of bytes)) (filter_more loads_bytes headers index d inside) ∙ map-append (segment_of bytes) _ _

pub segments_more : (bytes : List ℕ) (headers : List ProgramHeader) (index : ℕ) (d : ProgramHeader) → index < length headers → loads_bytes (get_or headers index d) ≡ true
    → segments_of bytes (take (index + 1) headers) ≡ segments_of bytes (take index headers) ++ segment_of bytes (get_or headers index d) ∷ []
segments_more bytes headers index d inside loads =
    segments_of-take bytes headers index d inside
    ∙ ap (λ (test : Bool). segments_of bytes (take index headers) ++ map (segment_of bytes) (cond test (get_or headers index d ∷ []) [])) loads

pub segments_same : (bytes : List ℕ) (headers : List ProgramHeader) (index : ℕ) (d : ProgramHeader) → index < length headers → loads_bytes (get_or headers index d) ≡ false
    → segments_of bytes (take (index + 1) headers) ≡ segments_of bytes (take index headers)
segments_same bytes headers index d inside skips =
    segments_of-take bytes headers index d inside
    ∙ ap (λ (test : Bool). segments_of bytes (take index headers) ++ map (segment_of bytes) (cond test (get_or headers index d ∷ []) [])) skips
    ∙ append-nil (segments_of bytes (take index headers))

-- ---- bytes

abbrev pub IsByte : ℕ → Type 0
IsByte byte = byte < 256

loaded_bytes-bytes : (bytes : List ℕ) (header : ProgramHeader) → All IsByte bytes → All IsByte (loaded_bytes bytes header)
unfolding loaded_bytes
loaded_bytes-bytes bytes header fits =
    All-append IsByte (bytes_at header.file_size header.offset bytes) (replicate (header.memory_size - header.file_size) 0)
    (All-take IsByte header.file_size (drop header.offset bytes) (All-drop IsByte header.offset bytes fits))
    (All-replicate IsByte (header.memory_size - header.file_size) 0 (omega arith))

-- what is loaded are bytes
pub segments_of-bytes : (bytes : List ℕ) (headers : List ProgramHeader) → All IsByte bytes → All (λ (segment : Segment). All IsByte segment.bytes) (segments_of bytes headers)
unfolding segments_of segment_of
segments_of-bytes bytes headers fits =
    All-map (λ (segment : Segment). All IsByte segment.bytes) (segment_of bytes) (filter loads_bytes headers)
    (λ k d inside. loaded_bytes-bytes bytes (get_or (filter loads_bytes headers) k d) fits)
