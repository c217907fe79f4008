-- The TOML document of a policy, and how its parts are read.
use Rattle.std.specs.Prelude.{ℕ, Bool, true, false, ◌&&◌, if◌then◌else◌, List, [], ◌∷◌, Option, Some, None, option_map, option_and_then}
use Rattle.std.specs.List.{list_any}
use Rattle.std.specs.Option.{option_map_or}
use Rattle.std.specs.Str.{is_utf8, bytes_eq}
use Rattle.toml.specs.Data.{Data, table, Items, no_items, item, Members, no_members, member, get, as_array}
use Rattle.toml.specs.Parse.{parse_document}

-- the document that bytes write, where they are UTF-8 and TOML
unfoldable pub document_of : List ℕ → Option Data
document_of bytes = if is_utf8 bytes then option_map table (parse_document bytes) else None

-- whether a key is one of these
abbrev pub is_among : List (List ℕ) → List ℕ → Bool
is_among keys key = list_any (λ known. bytes_eq known key) keys

-- whether each key is one of these
abbrev pub are_among : List (List ℕ) → Members → Bool
are_among keys no_members = true
are_among keys (member key value members) = is_among keys key && are_among keys members

-- whether the value is a table with no other keys than these
abbrev pub has_only : List (List ℕ) → Data → Bool
has_only keys (table members) = are_among keys members
has_only keys _ = false

-- the value of a key that has to stand
abbrev pub required : {T : Type 0} → (Data → Option T) → List ℕ → Data → Option T
required read key document = option_and_then read (get key document)

-- the value of a key that may be absent, and then stands for this
abbrev pub optional : {T : Type 0} → (Data → Option T) → T → List ℕ → Data → Option T
optional read absent key document = option_map_or read (get key document) (Some absent)

-- the items of an array, where each can be read
abbrev pub each_item : {T : Type 0} → (Data → Option T) → Items → Option (List T)
each_item read no_items = Some []
each_item read (item value items) =
    option_and_then (λ first. option_map (λ others. first ∷ others) (each_item read items)) (read value)

-- a list, where each of its items can be read
abbrev pub list_of : {T : Type 0} → (Data → Option T) → Data → Option (List T)
list_of read value = option_and_then (each_item read) (as_array value)

-- the members of a table, where each can be read
abbrev pub each_member : {T : Type 0} → (List ℕ → Data → Option T) → Members → Option (List T)
each_member read no_members = Some []
each_member read (member key value members) =
    option_and_then (λ first. option_map (λ others. first ∷ others) (each_member read members)) (read key value)
