-- The input bytes of a job.
use Rattle.std.specs.Prelude.{ℕ, nat_lt, ◌==◌, Bool, true, false, not, ◌&&◌, List, [], ◌∷◌, is_some, count_by}
use Rattle.std.specs.List.{list_any}
use Rattle.rv_image.specs.Cell.{Cell}
use Rattle.rv_image.specs.Image.{index_at}
use Rattle.ct_pairs.specs.declared.place.Place.{Place}
use Rattle.ct_pairs.specs.declared.place.Place.TheVariants.{Register, Memory}
use Rattle.ct_pairs.specs.declared.input_byte.InputByte.{InputByte}

-- how many input bytes are public
abbrev pub public_count : List InputByte → ℕ
public_count inputs = count_by (λ input. not input.secret) inputs

-- how many input bytes are secret
abbrev pub secret_count : List InputByte → ℕ
secret_count inputs = count_by (λ input. input.secret) inputs

-- whether the place is a byte of a register other than x0, or an accessible address
abbrev pub is_place : List Cell → Place → Bool
is_place image (Register reg byte) = nat_lt 0 reg && (nat_lt reg 32 && nat_lt byte 4)
is_place image (Memory address) = is_some (index_at image address)

-- whether two places are one
abbrev pub same_place : Place → Place → Bool
same_place (Register reg byte) (Register other_reg other_byte) = reg == other_reg && byte == other_byte
same_place (Register reg byte) (Memory address) = false
same_place (Memory address) (Register reg byte) = false
same_place (Memory address) (Memory other_address) = address == other_address

-- whether no place stands twice
abbrev pub places_differ : List InputByte → Bool
places_differ [] = true
places_differ (input ∷ inputs) =
    not (list_any (λ other. same_place input.place other.place) inputs) && places_differ inputs
