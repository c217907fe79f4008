-- What a policy says of the start, once its names and numbers are in order.
use Rattle.std.specs.Prelude.{ℕ, ◌+◌, ◌==◌, Bool, true, false, List, ◌++◌, length, map, Option, Some, None, find}
use Rattle.std.specs.List.{range_with_len, flat_map, filter_map}
use Rattle.std.specs.Option.{option_map_or}
use Rattle.elf_load.specs.declared.segment.Segment.{Segment}
use Rattle.elf_load.specs.declared.elf.Elf.{Elf}
use Rattle.rv_image.specs.declared.span.Span.{Span}
use Rattle.ct_pairs.specs.declared.place.Place.TheVariants.{Register as RegisterByte, Memory as MemoryByte}
use Rattle.ct_pairs.specs.declared.input_byte.InputByte.{InputByte}
use Rattle.ct_document.specs.declared.register.Register.{Register}
use Rattle.ct_document.specs.declared.register.Register.TheVariants.{Number as RegisterNumber, Unknown as UnknownRegister}
use Rattle.ct_document.specs.declared.setting.Setting.{Setting}
use Rattle.ct_document.specs.declared.memory_entry.MemoryEntry.{MemoryEntry}
use Rattle.ct_document.specs.declared.input.Input.{Input}
use Rattle.ct_document.specs.declared.input.Input.TheVariants.{Register as RegisterInput, Memory as MemoryInput}
use Rattle.ct_document.specs.declared.policy.Policy.{Policy}
use Rattle.ct_policy.specs.declared.region.Region.{Region}
use Rattle.ct_document.specs.Values.{is_secret}
use Rattle.ct_policy.specs.Numbers.{word_of, address_word}

-- the register has this number
abbrev pub is_register : ℕ → Register → Bool
is_register number (RegisterNumber own) = own == number
is_register number UnknownRegister = false

-- the number of a register; 0 for none
abbrev pub register_number : Register → ℕ
register_number (RegisterNumber number) = number
register_number UnknownRegister = 0

-- the value that the settings give to a register: 0 where none does
unfoldable pub set_value : List Setting → ℕ → ℕ
set_value settings number =
    option_map_or (λ setting. address_word setting.value) (find (λ setting. is_register number setting.register) settings) 0

-- the values of the registers x0 to x31
unfoldable pub register_values : List Setting → List ℕ
register_values settings = map (set_value settings) (range_with_len 0 32)

-- the register that an input names, where it is of a register
abbrev pub input_register : Input → Option Register
input_register (RegisterInput register bytes kind) = Some register
input_register (MemoryInput at offset length kind) = None

-- the registers that the policy names: those of `registers`, and then those of `input`
unfoldable pub named_registers : Policy → List Register
named_registers policy = map (λ setting. setting.register) policy.registers ++ filter_map input_register policy.inputs

-- the addresses of a segment
abbrev pub segment_region : Segment → Region
segment_region segment = record { at = segment.address; offset = 0; length = length segment.bytes }

-- the addresses of a memory entry
abbrev pub memory_region : MemoryEntry → Region
memory_region entry = record { at = address_word entry.at; offset = 0; length = word_of entry.length }

-- the addresses of an input, of which an input of a register has none
abbrev pub input_region : Input → Region
input_region (RegisterInput register bytes kind) = record { at = 0; offset = 0; length = 0 }
input_region (MemoryInput at offset length kind) =
    record { at = address_word at; offset = word_of offset; length = word_of length }

-- the accessible addresses: those of the segments, and those of the memory entries
unfoldable pub accessible : Elf → Policy → List Region
accessible elf policy = map segment_region elf.segments ++ map memory_region policy.memory

-- the addresses of the inputs
unfoldable pub input_regions : Policy → List Region
input_regions policy = map input_region policy.inputs

-- a memory entry holds zeros, which may be loaded and stored
abbrev pub memory_span : MemoryEntry → Span
memory_span entry = record {
  address = address_word entry.at;
  length = word_of entry.length;
  read = true;
  write = true;
  exec = false;
}

-- the memory beside the segments
unfoldable pub extra_spans : Policy → List Span
extra_spans policy = map memory_span policy.memory

-- the number of bytes of an input
abbrev pub input_size : Input → ℕ
input_size (RegisterInput register bytes kind) = word_of bytes
input_size (MemoryInput at offset length kind) = word_of length

-- the bytes of a register from byte 0 on
abbrev pub register_bytes : ℕ → ℕ → Bool → List InputByte
register_bytes reg bytes secret =
    map (λ byte. record { place = RegisterByte reg byte; secret = secret }) (range_with_len 0 bytes)

-- the bytes of memory from an address on, in ascending address
abbrev pub memory_bytes : ℕ → ℕ → Bool → List InputByte
memory_bytes start length secret =
    map (λ address. record { place = MemoryByte address; secret = secret }) (range_with_len start length)

-- the bytes of an input
unfoldable pub input_bytes : Input → List InputByte
input_bytes (RegisterInput register bytes kind) =
    register_bytes (register_number register) (word_of bytes) (is_secret kind)
input_bytes (MemoryInput at offset length kind) =
    memory_bytes (address_word at + word_of offset) (word_of length) (is_secret kind)

-- the bytes of all inputs, in the order of the file
abbrev pub all_input_bytes : Policy → List InputByte
all_input_bytes policy = flat_map input_bytes policy.inputs
