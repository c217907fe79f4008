-- What spans say of an image.
use Rattle.std.specs.Prelude.{List, map}
use Rattle.std.specs.List.{flat_map}
use Rattle.rv_image.specs.declared.span.Span.{Span}
use Rattle.rv_image.specs.Cell.{Cell}
use Rattle.rv_image.specs.Loading.{zeros_of, part_cells}

-- an accessible address and its rights, whatever its byte
abbrev pub without_byte : Cell → Cell
without_byte cell = record cell { byte = 0 }

-- the accessible addresses with their rights
unfoldable pub rights_of : List Cell → List Cell
rights_of cells = map without_byte cells

-- the addresses of spans with their rights, one span after another
unfoldable pub rights_in : List Span → List Cell
rights_in spans = flat_map (λ span. part_cells (zeros_of span)) spans
