-- Where a run can start.
use Rattle.std.specs.Prelude.{ℕ, Bool, List, is_some}
use Rattle.elf_load.specs.declared.elf.Elf.{Elf}
use Rattle.rv_image.specs.declared.span.Span.{Span}
use Rattle.rv_image.specs.Image.{fetch_at}
use Rattle.rv_image.specs.Loading.{cells_of}

-- whether an instruction can be fetched at an address, in the image of a file and of extra spans
abbrev pub can_fetch : Elf → List Span → ℕ → Bool
can_fetch elf extra address = is_some (fetch_at (cells_of elf extra) address)
