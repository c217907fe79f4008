-- The words of an image, as a text of lines.
use Rattle.std.specs.Prelude.{ℕ, List, [], ◌++◌, Option, Some, None, codes}
use Rattle.std.specs.List.{flat_map, range_with_len}
use Rattle.rv_decode.specs.declared.instr.Instr.{Instr}
use Rattle.rv_decode.specs.Instructions.{instruction_of}
use Rattle.rv_decode.specs.Text.{address_text, hex_digits, text_value}
use Rattle.rv_image.specs.declared.span.Span.{Span}
use Rattle.rv_image.specs.Cell.{Cell}
use Rattle.rv_image.specs.Image.{fetch_at}
use Rattle.ct_rows.specs.Lines.{line}

-- the instruction that a word at pc stands for, or - where it stands for none
abbrev pub word_text : ℕ → ℕ → List ℕ
word_text pc word = text_at (instruction_of word) where
  text_at : Option Instr → List ℕ
  text_at None = codes "-"
  text_at (Some instr) = text_value instr pc

-- the word at pc: the address, the word's eight digits and its instruction
unfoldable pub word_line : ℕ → ℕ → List ℕ
word_line pc word = line (address_text pc ++ codes " " ++ hex_digits 8 word ++ codes " " ++ word_text pc word)

-- the line of the word at pc, and nothing where none can be fetched
unfoldable pub fetched_line : List Cell → ℕ → List ℕ
fetched_line image pc = line_of (fetch_at image pc) where
  line_of : Option ℕ → List ℕ
  line_of None = []
  line_of (Some word) = word_line pc word

-- each word that can be fetched, in ascending address
unfoldable pub list_of : List Cell → List ℕ
list_of image = flat_map (λ cell. fetched_line image cell.address) image

-- the addresses of a span, in ascending order
abbrev pub span_addresses : Span → List ℕ
span_addresses span = range_with_len span.address span.length

-- each word that can be fetched at an address of a span
unfoldable pub span_lines : List Cell → Span → List ℕ
span_lines image span = flat_map (fetched_line image) (span_addresses span)
