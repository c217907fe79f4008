-- The spans of an image have its addresses and rights.
use Rattle.std.proofs.Common.{◌≡◌, ℕ, suc, Bool, List, [], ◌∷◌, length, take, drop, map, replicate, refl, ap, arith}
use Rattle.std.proofs.lemmas.List.{map-append, length-take, length-drop}
use Rattle.rv_image.specs.declared.span.Span.{Span}
use Rattle.rv_image.specs.Cell.{Cell, cells_from}
use Rattle.rv_image.specs.Loading.{zeros_of, part_cells}
use Rattle.rv_image.specs.Ranges.{without_byte, rights_of, rights_in}
use Rattle.rv_image.specs.View.{cells_in, total}
use Rattle.rv_image.proofs.Spans.{total-cons}

rights-cells_from : (bytes : List ℕ) (first : ℕ) (read write exec : Bool) → map without_byte (cells_from first read write exec bytes) ≡ cells_from first read write exec (replicate (length bytes) 0)
unfolding cells_from
rights-cells_from [] first read write exec = refl
rights-cells_from (byte ∷ bytes) first read write exec =
    ap (λ (rest : List Cell). record { address = first; byte = 0; read = read; write = write; exec = exec } ∷ rest) (rights-cells_from bytes (suc first) read write exec)

pub rights_of-cells_in : (spans : List Span) (bytes : List ℕ) → total spans ≡ length bytes → rights_of (cells_in spans bytes) ≡ rights_in spans
unfolding cells_in rights_of rights_in zeros_of part_cells
rights_of-cells_in [] bytes all = refl
rights_of-cells_in (span ∷ spans) bytes all =
    let sum = total-cons span spans in
    let run = cells_from span.address span.read span.write span.exec (take span.length bytes) in
    let split = map-append without_byte run (cells_in spans (drop span.length bytes)) in
    let count : length (take span.length bytes) ≡ span.length = omega (arith, length-take span.length bytes) in
    let first = rights-cells_from (take span.length bytes) span.address span.read span.write span.exec in
    let later = rights_of-cells_in spans (drop span.length bytes) (omega (arith, length-drop span.length bytes)) in
    rw (split, first, count, later) refl
