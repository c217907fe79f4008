-- The registers by name.
use Rattle.std.specs.Prelude.{ℕ, Bool, ◌&&◌, ◌||◌, ◌==◌, List, [], ◌∷◌, codes, slice_index_or, Option, find}
use Rattle.std.specs.List.{range_with_len}
use Rattle.std.specs.Str.{bytes_eq}
use Rattle.rv_decode.specs.Text.{register_text}

-- the registers' names by their numbers
abbrev pub numbered_names : List (List ℕ)
numbered_names =
    codes "x0" ∷ codes "x1" ∷ codes "x2" ∷ codes "x3" ∷ codes "x4" ∷ codes "x5" ∷ codes "x6" ∷ codes "x7"
    ∷ codes "x8" ∷ codes "x9" ∷ codes "x10" ∷ codes "x11" ∷ codes "x12" ∷ codes "x13" ∷ codes "x14" ∷ codes "x15"
    ∷ codes "x16" ∷ codes "x17" ∷ codes "x18" ∷ codes "x19" ∷ codes "x20" ∷ codes "x21" ∷ codes "x22" ∷ codes "x23"
    ∷ codes "x24" ∷ codes "x25" ∷ codes "x26" ∷ codes "x27" ∷ codes "x28" ∷ codes "x29" ∷ codes "x30" ∷ codes "x31" ∷ []

-- a register's name by its number
abbrev pub numbered_name : ℕ → List ℕ
numbered_name register = slice_index_or numbered_names register []

-- a register has its numbered name and its name in the ABI, and s0 is the frame pointer too
abbrev pub has_name : List ℕ → ℕ → Bool
has_name name register =
    bytes_eq name (numbered_name register)
    || bytes_eq name (register_text register)
    || (register == 8 && bytes_eq name (codes "fp"))

-- the register of a name
unfoldable pub register_of : List ℕ → Option ℕ
register_of name = find (has_name name) (range_with_len 0 32)
