-- The first bad line of bytes, as a function that computes; a law says that it is the first bad one.
use Rattle.std.specs.Prelude.{ℕ, suc, ◌+◌, ◌*◌, ◌==◌, if◌then◌else◌, List, [], ◌∷◌, Option, Some, None, Result, Ok, Err, length, take, drop}
use Rattle.std.specs.Option.{option_map_or}
use Rattle.hex.specs.Hex.{decode_sized}
use Rattle.hex.specs.declared.error.FromHexError.{FromHexError}
use Rattle.ct_rows.specs.Lines.{line}
use Rattle.ct_pairs.specs.declared.input_byte.InputByte.{InputByte}
use Rattle.pair_replay.specs.PairText.{values_line, Wanted, lines_for}
use Rattle.pair_replay.specs.PairText.Wanted.{Heading, Values}

-- what follows a text, where the bytes begin with it
unfoldable pub after_text : List ℕ → List ℕ → Option (List ℕ)
after_text [] bytes = Some bytes
after_text (byte ∷ text) [] = None
after_text (byte ∷ text) (other ∷ bytes) = if byte == other then after_text text bytes else None

-- what follows a line of values, where the bytes begin with it and these are its values
abbrev pub after_values : List ℕ → List ℕ → Result (List ℕ) FromHexError → Option (List ℕ)
after_values name bytes (Ok values) = after_text (values_line name values) bytes
after_values name bytes (Err error) = None

-- what follows the line that is wanted, where the bytes begin with it; its values are what stands in the place of its digits
unfoldable pub after_line : Wanted → List ℕ → Option (List ℕ)
after_line (Heading text) bytes = after_text (line text) bytes
after_line (Values name count) bytes = after_values name bytes (decode_sized (take (2 * count) (drop (length name + 1) bytes)) count)

-- the number of the first bad line, where these are wanted and the first of them has this number
unfoldable pub bad_from : ℕ → List Wanted → List ℕ → Option ℕ
bad_from number [] [] = None
bad_from number [] (byte ∷ bytes) = Some number
bad_from number (wanted ∷ more) bytes = option_map_or (λ rest. bad_from (suc number) more rest) (after_line wanted bytes) (Some number)

-- the first bad line of the text of a pair for these inputs, counted from 1
unfoldable pub first_bad_line : List InputByte → List ℕ → Option ℕ
first_bad_line inputs bytes = bad_from 1 (lines_for inputs) bytes
