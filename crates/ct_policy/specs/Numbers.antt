-- The numbers of a policy.
use Rattle.std.specs.Prelude.{ℕ, ℤ, pos, negsuc, ◌-◌, ◌^◌, nat_le, Bool, false, ◌&&◌, if◌then◌else◌}
use Rattle.ct_document.specs.declared.address.Address.{Address}
use Rattle.ct_document.specs.declared.address.Address.TheVariants.{Number, Symbol, Unknown}

-- a whole number from `low` to `high`
unfoldable pub is_within : ℕ → ℕ → ℤ → Bool
is_within low high (pos n) = nat_le low n && nat_le n high
is_within low high (negsuc n) = false

-- the number, where it has 32 bits, and else 0
unfoldable pub word_of : ℤ → ℕ
word_of (pos n) = if nat_le n (2 ^ 32 - 1) then n else 0
word_of (negsuc n) = 0

-- the address that an address value stands for; 0 where it is none
unfoldable pub address_word : Address → ℕ
address_word (Number number) = word_of number
address_word (Symbol value) = value
address_word Unknown = 0
