-- What a word of the command line stands for. A word is the list of its bytes.
use Rattle.std.specs.Prelude.{ℕ, ◌-◌, ◌^◌, ◌≤◌, Bool, ◌&&◌, ◌||◌, ◌==◌, nat_eq, nat_lt, nat_le, if◌then◌else◌, List, length, take, drop, codes, Option, None, Some, option_and_then}
use Rattle.std.specs.Char.{is_digit}
use Rattle.std.specs.List.{list_all, list_any, starts_with}
use Rattle.std.specs.Option.{option_map, option_or}
use Rattle.std.specs.Str.Parse.{digits_value}
use Rattle.ct_pairs.specs.declared.entry.Entry.{Entry}
use Rattle.ct_pairs.specs.declared.entry.Entry.TheVariants.{Number, Name}

-- the word is at least one digit of the radix, at most `most` of them, and nothing else
abbrev pub is_numeral : ℕ → ℕ → List ℕ → Bool
is_numeral radix most word =
    nat_lt 0 (length word) && nat_le (length word) most && list_all (λ c. is_digit c radix) word

-- the number that such a word writes in the radix
abbrev pub numeral_of : ℕ → ℕ → List ℕ → Option ℕ
numeral_of radix most word = if is_numeral radix most word then Some (digits_value radix word) else None

-- a number from `low` to `high`
abbrev pub within : ℕ → ℕ → ℕ → Option ℕ
within low high number = if nat_le low number && nat_le number high then Some number else None

-- the number is from `low` to `high`
abbrev pub IsWithin : ℕ → ℕ → ℕ → Type 0
IsWithin low high number = (low ≤ number) × (number ≤ high)

-- a number word: 1 to 10 decimal digits that write a number from `low` to `high`; leading zeros are allowed
abbrev pub number_of : ℕ → ℕ → List ℕ → Option ℕ
number_of low high word = option_and_then (within low high) (numeral_of 10 10 word)

-- a hexadecimal word: `0x`, then 1 to 8 hexadecimal digits of either case
abbrev pub hexadecimal_of : List ℕ → Option ℕ
hexadecimal_of word = if starts_with nat_eq word (codes "0x") then numeral_of 16 8 (drop 2 word) else None

-- an address word: a number word below 2^32, or a hexadecimal word
abbrev pub address_of : List ℕ → Option ℕ
address_of word = option_or (number_of 0 (2 ^ 32 - 1) word) (hexadecimal_of word)

-- a name word: it is not empty and does not begin with `-`
abbrev pub name_of : List ℕ → Option (List ℕ)
name_of word = if length word == 0 || starts_with nat_eq word (codes "-") then None else Some word

-- the name of an entry: a name word that does not begin with a decimal digit
abbrev pub entry_name_of : List ℕ → Option (List ℕ)
entry_name_of word = if list_any (λ c. is_digit c 10) (take 1 word) then None else name_of word

-- an entry word: an address word, or the name of an entry
abbrev pub entry_of : List ℕ → Option Entry
entry_of word = option_or (option_map (λ address. Number address) (address_of word)) (option_map (λ name. Name name) (entry_name_of word))
