-- An accessible address.
use Rattle.std.specs.Prelude.{ℕ, suc, Bool, List, [], ◌∷◌}

-- an accessible address, the byte that is loaded there, and its rights
pub record Cell : Type 0 where
  pub address : ℕ
  pub byte : ℕ
  pub read : Bool
  pub write : Bool
  pub exec : Bool

-- bytes from an address on, all with the same rights
unfoldable pub cells_from : ℕ → Bool → Bool → Bool → List ℕ → List Cell
cells_from address read write exec [] = []
cells_from address read write exec (byte ∷ bytes) =
    record { address = address; byte = byte; read = read; write = write; exec = exec } ∷ cells_from (suc address) read write exec bytes
