-- What each key of a policy says, table by table: None where a key is unknown, or missing and required, or has a value of another
-- type, or a kind is another text.
use Rattle.std.specs.Prelude.{ℕ, pos, if◌then◌else◌, List, [], ◌∷◌, codes, Option, None, option_and_then, option_map}
use Rattle.std.specs.Option.{option_or}
use Rattle.elf_load.specs.declared.elf.Elf.{Elf}
use Rattle.toml.specs.Data.{Data, as_integer, as_table}
use Rattle.ct_document.specs.declared.address.Address.{Address}
use Rattle.ct_document.specs.declared.address.Address.TheVariants.{Number, Symbol}
use Rattle.ct_document.specs.declared.setting.Setting.{Setting}
use Rattle.ct_document.specs.declared.memory_entry.MemoryEntry.{MemoryEntry}
use Rattle.ct_document.specs.declared.input.Input.{Input}
use Rattle.ct_document.specs.declared.input.Input.TheVariants.{Register, Memory}
use Rattle.ct_document.specs.declared.policy.Policy.{Policy}
use Rattle.ct_document.specs.Document.{has_only, required, optional, list_of, each_member}
use Rattle.ct_document.specs.Values.{address_value, named_register, register_value, kind_value}

infixl 10 ◌>>=◌
-- what the next one says of the value, where there is one
abbrev ◌>>=◌ : {A B : Type 0} → Option A → (A → Option B) → Option B
value >>= next = option_and_then next value

-- the member of `registers` of a name
abbrev pub setting_value : Elf → List ℕ → Data → Option Setting
setting_value elf name value =
    option_map (λ address. record { register = named_register name; value = address }) (address_value elf value)

-- `registers`: a table from names to address values
abbrev pub settings_value : Elf → Data → Option (List Setting)
settings_value elf value = as_table value >>= each_member (setting_value elf)

-- an entry of `memory`: `at` and `length`
unfoldable pub memory_value : Elf → Data → Option MemoryEntry
memory_value elf value =
    if has_only (codes "at" ∷ codes "length" ∷ []) value
    then
    required (address_value elf) (codes "at") value >>= (λ at.
    option_map (λ length. record { at = at; length = length }) (required as_integer (codes "length") value))
    else None

-- an entry of `input` of a register: `register`, `bytes`, absent 4, and `kind`
unfoldable pub register_input : Data → Option Input
register_input value =
    if has_only (codes "register" ∷ codes "bytes" ∷ codes "kind" ∷ []) value
    then
    required register_value (codes "register") value >>= (λ register.
    optional as_integer (pos 4) (codes "bytes") value >>= (λ bytes.
    option_map (λ kind. Register register bytes kind) (required kind_value (codes "kind") value)))
    else None

-- an entry of `input` of memory: `at`, `offset`, absent 0, `length` and `kind`
unfoldable pub memory_input : Elf → Data → Option Input
memory_input elf value =
    if has_only (codes "at" ∷ codes "offset" ∷ codes "length" ∷ codes "kind" ∷ []) value
    then
    required (address_value elf) (codes "at") value >>= (λ at.
    optional as_integer (pos 0) (codes "offset") value >>= (λ offset.
    required as_integer (codes "length") value >>= (λ length.
    option_map (λ kind. Memory at offset length kind) (required kind_value (codes "kind") value))))
    else None

-- an entry of `input`, of one of the two forms
unfoldable pub input_value : Elf → Data → Option Input
input_value elf value = option_or (register_input value) (memory_input elf value)

-- the keys of a policy
abbrev pub policy_keys : List (List ℕ)
policy_keys =
    codes "format" ∷ codes "entry" ∷ codes "stop" ∷ codes "bound" ∷ codes "registers" ∷ codes "memory" ∷ codes "input" ∷ []

-- `entry`; absent: the file's entry
abbrev pub entry_key : Elf → Data → Option Address
entry_key elf document = optional (address_value elf) (Symbol elf.entry) (codes "entry") document

-- `stop`; absent: one stop address, 0
abbrev pub stop_key : Elf → Data → Option (List Address)
stop_key elf document = optional (list_of (address_value elf)) (Number (pos 0) ∷ []) (codes "stop") document

-- `registers`; absent: none
abbrev pub registers_key : Elf → Data → Option (List Setting)
registers_key elf document = optional (settings_value elf) [] (codes "registers") document

-- `memory`; absent: none
abbrev pub memory_key : Elf → Data → Option (List MemoryEntry)
memory_key elf document = optional (list_of (memory_value elf)) [] (codes "memory") document

-- `input`; absent: none
abbrev pub input_key : Elf → Data → Option (List Input)
input_key elf document = optional (list_of (input_value elf)) [] (codes "input") document

-- the policy of a document; `format` is required, and an absent `bound` is 1,000
unfoldable pub policy_of : Elf → Data → Option Policy
policy_of elf document =
    if has_only policy_keys document
    then
    required as_integer (codes "format") document >>= (λ format.
    entry_key elf document >>= (λ entry.
    stop_key elf document >>= (λ stops.
    optional as_integer (pos 1000) (codes "bound") document >>= (λ bound.
    registers_key elf document >>= (λ registers.
    memory_key elf document >>= (λ memory.
    option_map (λ inputs. record {
      format = format;
      entry = entry;
      stops = stops;
      bound = bound;
      registers = registers;
      memory = memory;
      inputs = inputs;
    }) (input_key elf document)))))))
    else None
