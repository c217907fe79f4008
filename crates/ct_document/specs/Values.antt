-- What the values of a policy's keys stand for, by their types.
use Rattle.std.specs.Prelude.{ℕ, Bool, true, false, if◌then◌else◌, List, codes, Option, Some, None, option_map, option_and_then}
use Rattle.std.specs.Option.{option_or, option_map_or}
use Rattle.std.specs.Str.{bytes_eq}
use Rattle.elf_load.specs.declared.elf.Elf.{Elf}
use Rattle.elf_load.specs.Symbols.{symbol_value}
use Rattle.toml.specs.Data.{Data, as_integer, as_str}
use Rattle.ct_document.specs.declared.address.Address.{Address}
use Rattle.ct_document.specs.declared.address.Address.TheVariants.{Number, Symbol, Unknown}
use Rattle.ct_document.specs.declared.register.Register.{Register}
use Rattle.ct_document.specs.declared.register.Register.TheVariants.{Number as RegisterNumber, Unknown as UnknownRegister}
use Rattle.ct_document.specs.declared.kind.Kind.{Kind}
use Rattle.ct_document.specs.declared.kind.Kind.TheVariants.{Public, Secret}
use Rattle.ct_document.specs.Registers.{register_of}

-- the address that a text names: the value of a symbol
abbrev pub named_address : Elf → List ℕ → Address
named_address elf name = option_map_or Symbol (symbol_value elf name) Unknown

-- an address value: a whole number, or a text
unfoldable pub address_value : Elf → Data → Option Address
address_value elf value =
    option_or (option_map Number (as_integer value)) (option_map (named_address elf) (as_str value))

-- the register that a text names
abbrev pub named_register : List ℕ → Register
named_register name = option_map_or RegisterNumber (register_of name) UnknownRegister

-- a register's name: a text
unfoldable pub register_value : Data → Option Register
register_value value = option_map named_register (as_str value)

-- the kind that a text names
abbrev pub named_kind : List ℕ → Option Kind
named_kind name =
    if bytes_eq name (codes "public") then Some Public else if bytes_eq name (codes "secret") then Some Secret else None

-- a kind: one of two texts
unfoldable pub kind_value : Data → Option Kind
kind_value value = option_and_then named_kind (as_str value)

-- whether an input is secret
abbrev pub is_secret : Kind → Bool
is_secret Public = false
is_secret Secret = true
