-- The spans of an image have its addresses, in the same order.
use Rattle.std.proofs.Common.{◌≡◌, ℕ, zero, suc, ◌+◌, ◌-◌, ◌<◌, ◌≤◌, ◌^◌, Bool, List, [], ◌∷◌, ◌++◌, length, map, get_or, replicate, flat_map, All, refl, sym, ◌∙◌, ap, subst, add-one, arith}
use Rattle.std.specs.List.{range_with_len}
use Rattle.std.proofs.lemmas.Grind.{flat_map-append}
use Rattle.std.proofs.lemmas.List.{map-append, length-replicate, flat_map_more}
use Rattle.std.proofs.lemmas.List.Elements.{All-map, All-tail, All-take, All-drop}
use Rattle.std.proofs.lemmas.List.Folds.{flat_map-map}
use Rattle.std.proofs.lemmas.List.FromFn.{length-range_with_len, get_or-range_with_len}
use Rattle.std.proofs.Math.Seq.{take-append_seam, drop-append_seam}
use Rattle.rv_image.specs.declared.span.Span.{Span}
use Rattle.rv_image.specs.Cell.{Cell, cells_from}
use Rattle.rv_image.specs.Image.{IsImage}
use Rattle.rv_image.specs.Loading.{zeros_of, part_cells}
use Rattle.rv_image.specs.Ranges.{rights_of, rights_in}
use Rattle.ct_listing.specs.List.{fetched_line, list_of, span_addresses, span_lines}

-- the addresses of cells
abbrev addresses : List Cell → List ℕ
addresses cells = map (λ cell. cell.address) cells

-- the addresses of cells of bytes one after another
addresses-cells_from : (bytes : List ℕ) (first : ℕ) (read write exec : Bool) → addresses (cells_from first read write exec bytes) ≡ range_with_len first (length bytes)
unfolding cells_from
addresses-cells_from [] first read write exec = refl
addresses-cells_from (byte ∷ bytes) first read write exec =
    let next : suc first ≡ first + 1 = omega arith in
    ap (λ (rest : List ℕ). first ∷ rest) (addresses-cells_from bytes (suc first) read write exec ∙ ap (λ at. range_with_len at (length bytes)) next)

-- the addresses of cells without bytes
addresses-rights_in : (spans : List Span) → addresses (rights_in spans) ≡ flat_map span_addresses spans
unfolding rights_in zeros_of part_cells
addresses-rights_in [] = refl
addresses-rights_in (span ∷ spans) =
    let zeros : List ℕ = replicate span.length 0 in
    let first : addresses (cells_from span.address span.read span.write span.exec zeros) ≡ span_addresses span =
    addresses-cells_from zeros span.address span.read span.write span.exec ∙ ap (range_with_len span.address) (length-replicate span.length 0) in
    map-append (λ (cell : Cell). cell.address) (cells_from span.address span.read span.write span.exec zeros) (rights_in spans)
    ∙ ap (λ run. run ++ addresses (rights_in spans)) first
    ∙ ap (λ later. span_addresses span ++ later) (addresses-rights_in spans)

addresses-rights_of : (image : List Cell) → addresses (rights_of image) ≡ addresses image
unfolding rights_of
addresses-rights_of [] = refl
addresses-rights_of (cell ∷ cells) = ap (λ (rest : List ℕ). cell.address ∷ rest) (addresses-rights_of cells)

-- one number more
range_more : (first n : ℕ) → range_with_len first (suc n) ≡ range_with_len first n ++ (first + n) ∷ []
range_more first zero = ap (λ at. at ∷ []) (omega arith)
range_more first (suc n) =
    let last : first + 1 + n ≡ first + suc n = omega arith in
    ap (λ (later : List ℕ). first ∷ later) (range_more (first + 1) n ∙ ap (λ at. range_with_len (first + 1) n ++ at ∷ []) last)

-- the line of the word at one more address
pub fetched_more : (image : List Cell) (first n : ℕ) (old : List ℕ)
    → (old ++ flat_map (fetched_line image) (range_with_len first n)) ++ fetched_line image (first + n) ≡ old ++ flat_map (fetched_line image) (range_with_len first (n + 1))
fetched_more image first n old =
    flat_map_more (fetched_line image) old (range_with_len first n) (first + n)
    ∙ ap (λ addresses. old ++ flat_map (fetched_line image) addresses) (rw add-one (sym (range_more first n)))

-- the addresses of the spans are those of the image
spans_cover : (image : List Cell) (spans : List Span) → rights_of image ≡ rights_in spans → addresses image ≡ flat_map span_addresses spans
spans_cover image spans cover = sym (addresses-rights_of image) ∙ ap addresses cover ∙ addresses-rights_in spans

-- the lines of all spans are the lines of all addresses
lines_of_spans : (image : List Cell) (spans : List Span) → flat_map (fetched_line image) (flat_map span_addresses spans) ≡ flat_map (span_lines image) spans
unfolding span_lines
lines_of_spans image [] = refl
lines_of_spans image (span ∷ spans) =
    flat_map-append (fetched_line image) (span_addresses span) (flat_map span_addresses spans)
    ∙ ap (λ later. flat_map (fetched_line image) (span_addresses span) ++ later) (lines_of_spans image spans)

-- the words of an image are those of its spans
pub list_by_spans : (image : List Cell) (spans : List Span) → rights_of image ≡ rights_in spans → flat_map (span_lines image) spans ≡ list_of image
unfolding list_of
list_by_spans image spans cover =
    sym (lines_of_spans image spans)
    ∙ ap (flat_map (fetched_line image)) (sym (spans_cover image spans cover))
    ∙ flat_map-map (fetched_line image) (λ (cell : Cell). cell.address) image

-- the last address of a span that isn't empty
last_address : (span : Span) → 0 < span.length → All (λ address. address < 2 ^ 32) (span_addresses span) → span.address + span.length ≤ 2 ^ 32
last_address span filled below =
    let last : get_or (span_addresses span) (span.length - 1) 0 ≡ span.address + (span.length - 1) = get_or-range_with_len span.address span.length (span.length - 1) 0 (omega arith) in
    let small = below (span.length - 1) 0 (omega (arith, length-range_with_len span.address span.length)) in
    omega (arith, last, small)

-- what holds of each element holds in either part
All-first : {X : Type 0} (P : X → Type 0) (xs ys : List X) → All P (xs ++ ys) → All P xs
All-first P xs ys all = subst (All P) (take-append_seam xs ys) (All-take P (length xs) (xs ++ ys) all)

All-rest : {X : Type 0} (P : X → Type 0) (xs ys : List X) → All P (xs ++ ys) → All P ys
All-rest P xs ys all = subst (All P) (drop-append_seam xs ys) (All-drop P (length xs) (xs ++ ys) all)

-- spans whose addresses have 32 bits
spans_end : (spans : List Span) → All (λ span. 0 < span.length) spans → All (λ address. address < 2 ^ 32) (flat_map span_addresses spans)
    → All (λ span. span.address + span.length ≤ 2 ^ 32) spans
spans_end [] filled below k d inside = absurd (omega arith)
spans_end (span ∷ spans) filled below zero d inside =
    last_address span (filled 0 span (omega arith)) (All-first (λ address. address < 2 ^ 32) (span_addresses span) (flat_map span_addresses spans) below)
spans_end (span ∷ spans) filled below (suc k) d inside =
    spans_end spans (All-tail (λ span. 0 < span.length) span spans filled) (All-rest (λ address. address < 2 ^ 32) (span_addresses span) (flat_map span_addresses spans) below) k d (omega arith)

-- the spans of an image end within memory
pub spans_within : (image : List Cell) (spans : List Span) → IsImage image → rights_of image ≡ rights_in spans → All (λ span. 0 < span.length) spans
    → All (λ span. span.address + span.length ≤ 2 ^ 32) spans
spans_within image spans is cover filled =
    spans_end spans filled (subst (All (λ address. address < 2 ^ 32)) (spans_cover image spans cover) (All-map (λ address. address < 2 ^ 32) (λ (cell : Cell). cell.address) image is.addresses))
