-- Segments and memory entries that fit can be built into an image.
use Rattle.std.proofs.Common.{◌≡◌, zero, suc, ◌+◌, ◌^◌, ◌≤◌, min, max, true, false, leb, List, [], ◌∷◌, ◌++◌, get_or, map, All, Option, Some, None, refl, sym, ◌∙◌, subst, arith}
use Rattle.std.specs.List.{sum_by, AllPairs}
use Rattle.std.specs.Option.{is_none}
use Rattle.std.proofs.lemmas.Bool.{and_parts, leb-true, ltb-false}
use Rattle.std.proofs.lemmas.List.{map-append}
use Rattle.std.proofs.lemmas.List.Sums.{sum_by-cons}
use Rattle.elf_load.specs.declared.segment.Segment.{Segment}
use Rattle.elf_load.specs.declared.elf.Elf.{Elf}
use Rattle.elf_load.specs.Layout.{Extent, AreApart, FitsMemory, segment_extent, segment_extents}
use Rattle.elf_load.specs.Overlap.{share_address, first_overlap}
use Rattle.elf_load.proofs.Overlaps.{AllPairs-map, none_share}
use Rattle.rv_image.specs.Loading.{CanBuild, span_extent}
use Rattle.ct_document.specs.declared.memory_entry.MemoryEntry.{MemoryEntry}
use Rattle.ct_document.specs.declared.policy.Policy.{Policy}
use Rattle.ct_policy.specs.declared.region.Region.{Region}
use Rattle.ct_policy.specs.Policy.{segment_region, memory_region, memory_span, accessible, extra_spans}
use Rattle.ct_policy.specs.Regions.{start_of, end_of, end_in_memory, fit_memory}
use Rattle.ct_policy.specs.Limits.{HaveWordSizes}

-- the range of a region
abbrev extent_of : Region → Extent
extent_of region = record { address = start_of region; size = region.length }

apart : (left right : Region) → share_address start_of end_of left right ≡ false → AreApart (extent_of left) (extent_of right)
apart left right none =
    let bound = ltb-false (max (start_of left) (start_of right)) (min (end_of left) (end_of right)) none in
    omega (arith, bound)

all_apart : (regions : List Region) → first_overlap start_of end_of regions ≡ None → AllPairs AreApart (map extent_of regions)
all_apart regions none =
    let pairs = none_share start_of end_of regions none in
    AllPairs-map AreApart extent_of regions
    (λ i j d before inside. apart (get_or regions i d) (get_or regions j d) (pairs i j d before inside))

all_below : (regions : List Region) → end_in_memory regions ≡ true → All (λ extent. extent.address + extent.size ≤ 2 ^ 32) (map extent_of regions)
all_below [] all k d inside = absurd (omega arith)
all_below (region ∷ regions) all zero d inside = leb-true _ _ (and_parts (leb (end_of region) (2 ^ 32)) _ all).0
all_below (region ∷ regions) all (suc k) d inside = all_below regions (and_parts (leb (end_of region) (2 ^ 32)) _ all).1 k d (omega arith)

sizes : (regions : List Region) → sum_by (λ extent. extent.size) (map extent_of regions) ≡ sum_by (λ region. region.length) regions
sizes [] = refl
sizes (region ∷ regions) =
    sum_by-cons (λ (extent : Extent). extent.size) (extent_of region) (map extent_of regions)
    ∙ rw (sizes regions) (sym (sum_by-cons (λ (r : Region). r.length) region regions))

none_is : {A : Type 0} (o : Option A) → is_none o ≡ true → o ≡ None
none_is None e = refl
none_is (Some x) e = absurd cc

fits : (regions : List Region) → fit_memory regions ≡ true → FitsMemory (map extent_of regions)
unfolding fit_memory
fits regions fit =
    let first = and_parts (end_in_memory regions) _ fit in
    let second = and_parts (is_none (first_overlap start_of end_of regions)) _ first.1 in
    record {
      apart = all_apart regions (none_is _ second.0);
      below = all_below regions first.0;
      small = rw (sizes regions) (leb-true _ _ second.1);
    }

segment_extents_of : (segments : List Segment) → map extent_of (map segment_region segments) ≡ map segment_extent segments
segment_extents_of [] = refl
segment_extents_of (segment ∷ segments) =
    let start : segment.address + 0 ≡ segment.address = omega arith in
    rw (start, segment_extents_of segments) refl

entry_extents_of : (entries : List MemoryEntry) → map extent_of (map memory_region entries) ≡ map span_extent (map memory_span entries)
entry_extents_of [] = refl
entry_extents_of (entry ∷ entries) =
    let region = memory_region entry in
    let start : region.at + 0 ≡ region.at = omega arith in
    rw (start, entry_extents_of entries) refl

extents : (elf : Elf) (policy : Policy) → map extent_of (accessible elf policy) ≡ segment_extents elf ++ map span_extent (extra_spans policy)
unfolding accessible extra_spans
extents elf policy =
    map-append extent_of (map segment_region elf.segments) (map memory_region policy.memory)
    ∙ rw (segment_extents_of elf.segments, entry_extents_of policy.memory) refl

-- an image can be built of the segments and the memory entries
pub can_build : (elf : Elf) (policy : Policy) → fit_memory (accessible elf policy) ≡ true → CanBuild elf (extra_spans policy)
can_build elf policy fit = subst FitsMemory (extents elf policy) (fits (accessible elf policy) fit)

each_word : (segments : List Segment) → sum_by (λ extent. extent.size) (map segment_extent segments) ≤ 2 ^ 24 → HaveWordSizes segments
each_word [] small k d inside = absurd (omega arith)
each_word (segment ∷ segments) small zero d inside =
    let sum = sum_by-cons (λ (extent : Extent). extent.size) (segment_extent segment) (map segment_extent segments) in
    omega arith
each_word (segment ∷ segments) small (suc k) d inside =
    let sum = sum_by-cons (λ (extent : Extent). extent.size) (segment_extent segment) (map segment_extent segments) in
    each_word segments (omega arith) k d (omega arith)

-- the size of a segment that fits memory is a word
pub have_word_sizes : (elf : Elf) → FitsMemory (segment_extents elf) → HaveWordSizes elf.segments
have_word_sizes elf fit = each_word elf.segments fit.small
