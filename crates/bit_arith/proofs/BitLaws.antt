-- What the gates of two and three bits come to.
use Rattle.std.proofs.Common.{◌≡◌, ℕ, ◌+◌, ◌*◌, ◌^◌, ◌<◌, Bool, true, false, refl, arith, ◌∙◌}
use Rattle.std.specs.Prelude.{not, ◌&&◌, ◌||◌, if◌then◌else◌}
use Rattle.std.proofs.lemmas.Nat.{and_block, or_block, xor_block}
use Rattle.ct_words.specs.Words.{flag}
use Rattle.bit_arith.specs.declared.bits.Bitwise.{Bitwise}
use Rattle.bit_arith.specs.declared.bits.Bitwise.TheVariants.{And, Or, Xor}
use Rattle.bit_arith.specs.Bits.{differ, bit_value, bitwise_value}

-- exclusive or, by three conjunctions
pub differ_of : (a b both na nb neither nboth nneither r : Bool)
    → both ≡ (a && b) → na ≡ not a → nb ≡ not b → neither ≡ (na && nb) → nboth ≡ not both → nneither ≡ not neither → r ≡ (nboth && nneither) → r ≡ differ a b
differ_of true true both na nb neither nboth nneither r e1 e2 e3 e4 e5 e6 e7 = cc
differ_of true false both na nb neither nboth nneither r e1 e2 e3 e4 e5 e6 e7 = cc
differ_of false true both na nb neither nboth nneither r e1 e2 e3 e4 e5 e6 e7 = cc
differ_of false false both na nb neither nboth nneither r e1 e2 e3 e4 e5 e6 e7 = cc

-- or, by one
pub or_of : (a b na nb neither r : Bool) → na ≡ not a → nb ≡ not b → neither ≡ (na && nb) → r ≡ not neither → r ≡ (a || b)
or_of true true na nb neither r e1 e2 e3 e4 = cc
or_of true false na nb neither r e1 e2 e3 e4 = cc
or_of false true na nb neither r e1 e2 e3 e4 = cc
or_of false false na nb neither r e1 e2 e3 e4 = cc

-- a choice, by two and an or
pub pick_of : (w y n p nw q r : Bool) → p ≡ (w && y) → nw ≡ not w → q ≡ (nw && n) → r ≡ (p || q) → r ≡ (if w then y else n)
pick_of true true n p nw q r e1 e2 e3 e4 = cc
pick_of true false n p nw q r e1 e2 e3 e4 = cc
pick_of false y true p nw q r e1 e2 e3 e4 = cc
pick_of false y false p nw q r e1 e2 e3 e4 = cc

-- the sum and the carry of three bits
pub full_add_of : (a b c half sum both through carry : Bool) → half ≡ differ a b → sum ≡ differ half c → both ≡ (a && b) → through ≡ (half && c) → carry ≡ (both || through)
    → flag sum + 2 * flag carry ≡ flag a + flag b + flag c
full_add_of true true true half sum both through carry e1 e2 e3 e4 e5 = cc
full_add_of true true false half sum both through carry e1 e2 e3 e4 e5 = cc
full_add_of true false true half sum both through carry e1 e2 e3 e4 e5 = cc
full_add_of true false false half sum both through carry e1 e2 e3 e4 e5 = cc
full_add_of false true true half sum both through carry e1 e2 e3 e4 e5 = cc
full_add_of false true false half sum both through carry e1 e2 e3 e4 e5 = cc
full_add_of false false true half sum both through carry e1 e2 e3 e4 e5 = cc
full_add_of false false false half sum both through carry e1 e2 e3 e4 e5 = cc

flags : (f : Bitwise) (p q : Bool) → bitwise_value f (flag p) (flag q) ≡ flag (bit_value f p q)
flags And true true = refl
flags And true false = refl
flags And false true = refl
flags And false false = refl
flags Or true true = refl
flags Or true false = refl
flags Or false true = refl
flags Or false false = refl
flags Xor true true = refl
flags Xor true false = refl
flags Xor false true = refl
flags Xor false false = refl

turn : (a b : ℕ) → a + b ≡ b + a
turn a b = omega arith

block : (f : Bitwise) (i x y p q : ℕ) → x < 2 ^ i → y < 2 ^ i → bitwise_value f (p * 2 ^ i + x) (q * 2 ^ i + y) ≡ bitwise_value f p q * 2 ^ i + bitwise_value f x y
block And i x y p q hx hy = and_block i p q x y hx hy
block Or i x y p q hx hy = or_block i p q x y hx hy
block Xor i x y p q hx hy = xor_block i p q x y hx hy

-- one more bit
pub bitwise_more : (f : Bitwise) (x y i : ℕ) (p q : Bool) → x < 2 ^ i → y < 2 ^ i
    → bitwise_value f (x + flag p * 2 ^ i) (y + flag q * 2 ^ i) ≡ bitwise_value f x y + flag (bit_value f p q) * 2 ^ i
bitwise_more f x y i p q hx hy =
    rw (turn x (flag p * 2 ^ i)) (rw (turn y (flag q * 2 ^ i)) (block f i x y (flag p) (flag q) hx hy
    ∙ (rw (flags f p q) (turn (flag (bit_value f p q) * 2 ^ i) (bitwise_value f x y)))))

pub pick_more : (b y n : Bool) (x z p : ℕ) → (if b then (x + flag y * p) else (z + flag n * p)) ≡ (if b then x else z) + flag (if b then y else n) * p
pick_more true y n x z p = refl
pick_more false y n x z p = refl
