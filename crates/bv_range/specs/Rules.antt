-- What a rule promises: the range of a result from the ranges of the operands.
use Rattle.std.specs.Prelude.{◌≡◌, ℕ, ◌^◌, ◌<◌, ◌≤◌, ◌==◌, Bool, Option, IfSome, if◌then◌else◌}
use Rattle.bv_expr.specs.Nodes.{joined_bytes, byte_at}
use Rattle.ct_words.specs.Words.{test_value, flag}
use Rattle.ct_words.specs.declared.cond.Cond.{Cond}
use Rattle.bv_range.specs.Known.{HasBits, IsWithin, IsShaped, IsProper, Bitwise, IsOn}
use Rattle.bv_range.specs.Fixed.{Fixed, HoldsBits}
use Rattle.bv_range.specs.declared.range.Range.{Range}

-- r is the range of the numbers of w bits that have these bits and lie from least to most
pub record IsSettled (w zeros ones least most : ℕ) (r : Range) : Type 0 where
  pub right : (x : ℕ) → x < 2 ^ w → HasBits zeros ones x → least ≤ x → x ≤ most → IsWithin r x
  pub shape : IsShaped w r
  pub has_zeros : Bitwise IsOn zeros r.zeros
  pub has_ones : Bitwise IsOn ones r.ones

-- r is right for the values of `value` at two words in the ranges a and b, and has the bits that `fixed` says
pub record IsWordRule (value : ℕ → ℕ → ℕ) (fixed : Fixed → Fixed → Fixed) (a b r : Range) : Type 0 where
  pub right : (x y : ℕ) → x < 2 ^ 32 → y < 2 ^ 32 → IsWithin a x → IsWithin b y → IsWithin r (value x y)
  pub shape : IsShaped 32 r
  pub bits : (p q : Fixed) → IsProper 32 b → HoldsBits p a → HoldsBits q b → HoldsBits (fixed p q) r

-- r is right for the bits that `value` gives at two words in the ranges a and b
pub record IsTestRule (value : ℕ → ℕ → ℕ) (a b r : Range) : Type 0 where
  pub right : (x y : ℕ) → IsWithin a x → IsWithin b y → IsWithin r (value x y)
  pub shape : IsShaped 1 r

-- r is right for the opposite of a bit in the range a
pub record IsNotRule (a r : Range) : Type 0 where
  pub right : (x : ℕ) → x < 2 ^ 1 → IsWithin a x → IsWithin r (flag (x == 0))
  pub shape : IsShaped 1 r

-- r is right for whether two bits in the ranges a and b are both 1
pub record IsBothRule (a b r : Range) : Type 0 where
  pub right : (x y : ℕ) → x < 2 ^ 1 → y < 2 ^ 1 → IsWithin a x → IsWithin b y → IsWithin r (if x == 0 then 0 else y)
  pub shape : IsShaped 1 r

-- r is right for a choice between two numbers of w bits in the ranges a and b, by a bit in the range c
pub record IsPickRule (w : ℕ) (c a b r : Range) : Type 0 where
  pub right : (bit x y : ℕ) → x < 2 ^ w → y < 2 ^ w → IsWithin c bit → IsWithin a x → IsWithin b y → IsWithin r (if bit == 0 then y else x)
  pub shape : IsShaped w r

-- r is right for the word of four bytes in the ranges a to d, and has their bits
pub record IsJoinRule (a b c d r : Range) : Type 0 where
  pub right : (x y z u : ℕ) → x < 2 ^ 8 → y < 2 ^ 8 → z < 2 ^ 8 → u < 2 ^ 8 → IsWithin a x → IsWithin b y → IsWithin c z → IsWithin d u → IsWithin r (joined_bytes x y z u)
  pub shape : IsShaped 32 r
  pub bits : (p q s t : Fixed) → HoldsBits p a → HoldsBits q b → HoldsBits s c → HoldsBits t d
      → HoldsBits (record { zeros = joined_bytes p.zeros q.zeros s.zeros t.zeros; ones = joined_bytes p.ones q.ones s.ones t.ones }) r

-- r is right for byte k of a word in the range a, and has its bits
pub record IsByteRule (k : ℕ) (a r : Range) : Type 0 where
  pub right : (x : ℕ) → IsWithin a x → IsWithin r (byte_at x k)
  pub shape : IsShaped 8 r
  pub bits : (p : Fixed) → HoldsBits p a → HoldsBits (record { zeros = byte_at p.zeros k; ones = byte_at p.ones k }) r

-- what a condition is for all words in two ranges
abbrev pub IsOutcome : Cond → Range → Range → Bool → Type 0
IsOutcome cond a b known = (x y : ℕ) → IsWithin a x → IsWithin b y → test_value cond x y ≡ known

-- r is the range of a bit as a number of w bits, where it may be known
pub record IsKnownBit (w : ℕ) (known : Option Bool) (r : Range) : Type 0 where
  pub right : (bit : Bool) → IfSome known (λ b. bit ≡ b) → IsWithin r (flag bit)
  pub shape : IsShaped w r
