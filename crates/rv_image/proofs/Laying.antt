-- Segments in order are laid out one after another.
use Rattle.std.proofs.Common.{◌≡◌, ℕ, zero, suc, ◌+◌, ◌^◌, ◌<◌, ◌≤◌, List, [], ◌∷◌, ◌++◌, length, get_or, take, map, All, refl, sym, ap, ◌∙◌, inl, inr, arith}
use Rattle.std.specs.List.{flat_map}
use Rattle.std.proofs.lemmas.Bool.{cases_lt}
use Rattle.std.proofs.lemmas.List.{map-append, length-append, length-map, append-nil, get_or_append_left, get_or_at, get_or-map, take-map, take_more, take_all}
use Rattle.std.proofs.lemmas.List.Concat.{flat_map-append}
use Rattle.std.proofs.lemmas.List.Sums.{sum_by-take-le}
use Rattle.elf_load.specs.declared.segment.Segment.{Segment}
use Rattle.rv_image.specs.declared.part.Part.{Part}
use Rattle.rv_image.specs.declared.span.Span.{Span}
use Rattle.rv_image.specs.Loading.{part_cells}
use Rattle.rv_image.specs.Part.{part_segment, segment_span}
use Rattle.rv_image.specs.View.{cells_in, LiesFrom, total, IsLaidOut}
use Rattle.rv_image.proofs.Spans.{total-cons}
use Rattle.rv_image.proofs.Putting.{cells_in-segments, length-part}

-- so many of the segments are laid out
pub record IsLaidSoFar (segments : List Segment) (i : ℕ) (spans : List Span) (starts bytes : List ℕ) : Type 0 where
  pub spans_are : spans ≡ map segment_span (take i segments)
  pub bytes_are : bytes ≡ flat_map (λ segment. segment.bytes) (take i segments)
  pub start_each : length starts ≡ i
  pub start_is : (k : ℕ) → k < i → get_or starts k 0 ≡ total (map segment_span (take k segments))
  pub fit : All (λ byte. byte < 256) bytes

total-segments : (segments : List Segment) → total (map segment_span segments) ≡ length (flat_map (λ segment. segment.bytes) segments)
unfolding segment_span
total-segments [] = refl
total-segments (segment ∷ segments) =
    let sum = total-cons (segment_span segment) (map segment_span segments) in
    let later = total-segments segments in
    omega (arith, length-append segment.bytes (flat_map (λ (s : Segment). s.bytes) segments))

-- the segments before a location and the one there are within all of them
pub total-segments_more : (segments : List Segment) (i : ℕ) (d : Segment) → i < length segments
    → total (map segment_span (take i segments)) + length (get_or segments i d).bytes ≤ total (map segment_span segments)
unfolding segment_span
total-segments_more [] i d inside = absurd (omega arith)
total-segments_more (segment ∷ segments) zero d inside =
    let sum = total-cons (segment_span segment) (map segment_span segments) in
    omega arith
total-segments_more (segment ∷ segments) (suc i) d inside =
    let sum = total-cons (segment_span segment) (map segment_span segments) in
    let front = total-cons (segment_span segment) (map segment_span (take i segments)) in
    let later = total-segments_more segments i d (omega arith) in
    omega arith

pub laid_none : (segments : List Segment) → IsLaidSoFar segments 0 [] [] []
laid_none segments = record { spans_are = refl; bytes_are = refl; start_each = refl; start_is = λ k inside. absurd (omega arith); fit = λ k d inside. absurd (omega arith) }

-- the bytes that are laid out
pub length-laid : (segments : List Segment) (i : ℕ) (spans : List Span) (starts bytes : List ℕ) → IsLaidSoFar segments i spans starts bytes → length bytes ≡ total (map segment_span (take i segments))
length-laid segments i spans starts bytes laid = rw laid.bytes_are (sym (total-segments (take i segments)))

pub laid_more : (segments : List Segment) (i : ℕ) (spans : List Span) (starts bytes : List ℕ) (next : Segment) → i < length segments → get_or segments i next ≡ next
    → All (λ byte. byte < 256) (bytes ++ next.bytes) → IsLaidSoFar segments i spans starts bytes → IsLaidSoFar segments (i + 1) (spans ++ segment_span next ∷ []) (starts ++ length bytes ∷ []) (bytes ++ next.bytes)
laid_more segments i spans starts bytes next inside read fit laid =
    let grown : take (i + 1) segments ≡ take i segments ++ next ∷ [] = take_more segments i next inside ∙ ap (λ (s : Segment). take i segments ++ s ∷ []) read in
    let count = length-laid segments i spans starts bytes laid in
    let each : length starts ≡ i = laid.start_each in
    record {
      spans_are = rw (grown, map-append segment_span (take i segments) (next ∷ []), laid.spans_are) refl;
      bytes_are = rw (grown, flat_map-append (λ (s : Segment). s.bytes) (take i segments) (next ∷ []), laid.bytes_are, append-nil next.bytes) refl;
      start_each = let more = length-append starts (length bytes ∷ []) in omega arith;
      start_is = λ k below.
          elim (cases_lt k i) [
            | inl before ↦ get_or_append_left starts (length bytes ∷ []) 0 k (omega arith) ∙ laid.start_is k before
            | inr last ↦
                let same : k ≡ i = omega arith in
                rw same (get_or_at starts (length bytes) [] 0 i laid.start_each ∙ count)
          ];
      fit = fit;
    }

-- all of the segments are laid out
pub laid_all : (segments : List Segment) (i : ℕ) (spans : List Span) (starts bytes : List ℕ) → length segments ≤ i → i ≤ length segments → IsLaidSoFar segments i spans starts bytes
    → LiesFrom 0 (map segment_span segments) → total (map segment_span segments) ≤ 2 ^ 24 → IsLaidOut spans starts bytes
laid_all segments i spans starts bytes past bound laid lies small =
    let whole = take_all i segments past in
    let spans_are : spans ≡ map segment_span segments = laid.spans_are ∙ ap (map segment_span) whole in
    let count : length bytes ≡ total (map segment_span segments) = length-laid segments i spans starts bytes laid ∙ ap (λ (s : List Segment). total (map segment_span s)) whole in
    let each : length starts ≡ i = laid.start_each in
    let long : length spans ≡ length segments = ap length spans_are ∙ length-map segments segment_span in
    record {
      ascending = rw spans_are lies;
      start_each = omega arith;
      start_is = λ k inside. laid.start_is k (omega arith) ∙ ap total (sym (take-map segment_span k segments) ∙ ap (take k) (sym spans_are));
      byte_each = ap total spans_are ∙ sym count;
      small = omega arith;
      bytes_fit = laid.fit;
    }

pub cells-laid : (segments : List Segment) (i : ℕ) (spans : List Span) (starts bytes : List ℕ) → length segments ≤ i → IsLaidSoFar segments i spans starts bytes
    → cells_in spans bytes ≡ flat_map part_cells segments
cells-laid segments i spans starts bytes past laid =
    let whole = take_all i segments past in
    rw (laid.spans_are, laid.bytes_are, whole) (cells_in-segments segments)

-- what is laid out so far is no more than all
pub length-laid_le : (segments : List Segment) (i : ℕ) (spans : List Span) (starts bytes : List ℕ) → IsLaidSoFar segments i spans starts bytes → length bytes ≤ total (map segment_span segments)
length-laid_le segments i spans starts bytes laid =
    let count = length-laid segments i spans starts bytes laid in
    let part = sum_by-take-le (λ (s : Span). s.length) (map segment_span segments) i in
    let same : total (take i (map segment_span segments)) ≡ total (map segment_span (take i segments)) = ap total (take-map segment_span i segments) in
    omega arith

-- one more part is laid out
pub laid_step : (parts : List Part) (i : ℕ) (d : Part) (spans more_spans : List Span) (starts more_starts bytes more_bytes : List ℕ) (size : ℕ) → i < length parts
    → IsLaidSoFar (map part_segment parts) i spans starts bytes
    → more_spans ≡ spans ++ segment_span (part_segment (get_or parts i d)) ∷ [] → more_starts ≡ starts ++ size ∷ [] → size ≡ length bytes → more_bytes ≡ bytes ++ (part_segment (get_or parts i d)).bytes
    → All (λ byte. byte < 256) more_bytes
    → IsLaidSoFar (map part_segment parts) (i + 1) more_spans more_starts more_bytes
laid_step parts i d spans more_spans starts more_starts bytes more_bytes size inside laid span start count byte fit =
    let next = part_segment (get_or parts i d) in
    rw (span, start, count, byte)
    (laid_more (map part_segment parts) i spans starts bytes next (omega (arith, length-map parts part_segment)) (get_or-map part_segment parts i d next inside) (rw byte at fit) laid)

-- each part is small
pub part-small : (parts : List Part) (i : ℕ) (d : Part) → i < length parts → total (map segment_span (map part_segment parts)) ≤ 2 ^ 24 → length (get_or parts i d).loaded.now + (get_or parts i d).zeros < 2 ^ 32
part-small parts i d inside small =
    let more = total-segments_more (map part_segment parts) i (part_segment d) (omega (arith, length-map parts part_segment)) in
    let next : get_or (map part_segment parts) i (part_segment d) ≡ part_segment (get_or parts i d) = get_or-map part_segment parts i d (part_segment d) inside in
    let size = ap (λ (s : Segment). length s.bytes) next in
    omega (arith, length-part (get_or parts i d))
