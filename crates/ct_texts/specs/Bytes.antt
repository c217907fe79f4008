-- How a list of bytes is spelled.
use Rattle.std.specs.Prelude.{ℕ, List, [], ◌∷◌, codes}
use Rattle.std.specs.List.{flat_map}
use Rattle.rv_decode.specs.Text.{hex_digits}

-- two lower-case hexadecimal digits a byte, or - where there is none
abbrev pub bytes_text : List ℕ → List ℕ
bytes_text [] = codes "-"
bytes_text (byte ∷ bytes) = flat_map (hex_digits 2) (byte ∷ bytes)
