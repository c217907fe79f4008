-- Rules of bits, choices, and words and their bytes.
use Rattle.std.proofs.Common.{◌≡◌, ℕ, ◌+◌, ◌-◌, ◌*◌, ◌/◌, ◌%◌, ◌^◌, ◌<◌, ◌≤◌, arith, refl, min, max, Bool, true, false, cond}
use Rattle.std.specs.Prelude.{bit_and, nat_eq, ◌≢◌}
use Rattle.std.specs.Int.{bit_at}
use Rattle.std.proofs.lemmas.Bool.Decides.{nat_tests}
use Rattle.std.proofs.lemmas.Nat.{pow_pos, mod_below}
use Rattle.std.proofs.lemmas.Nat.Bits.{bit_at_and, bit_at-lt}
use Rattle.ct_words.specs.Words.{flag}
use Rattle.bv_expr.specs.Nodes.{joined_bytes, byte_at}
use Rattle.bv_range.specs.Known.{Bitwise, IsOn, IsOff, HasBits, IsWithin, IsShaped, IsProper}
use Rattle.bv_range.specs.Fixed.{Fixed, HoldsBits}
use Rattle.bv_range.specs.Rules.{IsSettled, IsNotRule, IsBothRule, IsPickRule, IsJoinRule, IsByteRule}
use Rattle.bv_range.specs.declared.range.Range.{Range}
use Rattle.bv_range.proofs.BitLaws.{moved_down, low_part, put_together, ones_le}
use Rattle.bv_range.proofs.Settles.{div_le}
use Rattle.bv_range.proofs.Rules.{no_bits, through}

not_value : (x : ℕ) → x < 2 → flag (nat_eq x 0) ≡ 1 - x
not_value x lt = grind (arith, nat_tests)

both_value : (x y : ℕ) → x < 2 → y < 2 → cond (nat_eq x 0) 0 y ≡ min x y
both_value x y hx hy = grind (arith, nat_tests)

pub not_rule : (a r : Range) (l m : ℕ) → l ≡ 1 - a.most → m ≡ 1 - a.least → IsSettled 1 0 0 l m r → IsNotRule a r
not_rule a r l m el em done = record {
  right = λ x lx p. (let e = not_value x lx in rw e (done.right (1 - x) (omega arith) (no_bits _) (omega (arith, p.most)) (omega (arith, p.least))));
  shape = done.shape;
}

pub both_rule : (a b r : Range) (l m : ℕ) → l ≡ min a.least b.least → m ≡ min a.most b.most → IsSettled 1 0 0 l m r → IsBothRule a b r
both_rule a b r l m el em done = record {
  right = λ x y lx ly p q. (let e = both_value x y lx ly in rw e (done.right (min x y) (omega arith) (no_bits _) (omega (arith, p.least, q.least)) (omega (arith, p.most, q.most))));
  shape = done.shape;
}

pick_no : (c x y : ℕ) → c ≡ 0 → cond (nat_eq c 0) y x ≡ y
pick_no c x y e = grind (arith, nat_tests)

pick_yes : (c x y : ℕ) → c ≢ 0 → cond (nat_eq c 0) y x ≡ x
pick_yes c x y e = grind (arith, nat_tests)

pub pick_yes_rule : (w : ℕ) (c a b : Range) → c.least ≢ 0 → IsShaped w a → IsPickRule w c a b a
pick_yes_rule w c a b h shape = record { right = λ bit x y lx ly k p q. rw (pick_yes bit x y (λ e. h (omega (arith, k.least)))) p; shape = shape }

pub pick_no_rule : (w : ℕ) (c a b : Range) → c.most ≡ 0 → IsShaped w b → IsPickRule w c a b b
pick_no_rule w c a b h shape = record { right = λ bit x y lx ly k p q. rw (pick_no bit x y (omega (arith, k.most, h))) q; shape = shape }

chosen : (P : ℕ → Type 0) (t : Bool) (x y : ℕ) → P x → P y → P (cond t y x)
chosen P true x y p q = q
chosen P false x y p q = p

shared_off : (z w o x : ℕ) → (z ≡ 1 → x ≡ 0) → o ≡ min z w → o ≡ 1 → z < 2 → w < 2 → x ≡ 0
shared_off z w o x p e h hz hw = grind arith

-- what one of two numbers has, where both have it
left_bits : (R : ℕ → ℕ → Type 0) (z w x : ℕ) → ((s t u : ℕ) → s < 2 → t < 2 → u ≡ min s t → (v : ℕ) → R s v → R u v) → Bitwise R z x → Bitwise R (bit_and z w) x
left_bits R z w x keeps h k = keeps (bit_at z k) (bit_at w k) (bit_at (bit_and z w) k) (bit_at-lt z k) (bit_at-lt w k) (bit_at_and z w k) (bit_at x k) (h k)

right_bits : (R : ℕ → ℕ → Type 0) (z w x : ℕ) → ((s t u : ℕ) → s < 2 → t < 2 → u ≡ min s t → (v : ℕ) → R t v → R u v) → Bitwise R w x → Bitwise R (bit_and z w) x
right_bits R z w x keeps h k = keeps (bit_at z k) (bit_at w k) (bit_at (bit_and z w) k) (bit_at-lt z k) (bit_at-lt w k) (bit_at_and z w k) (bit_at x k) (h k)

first_of : (s t u : ℕ) → s < 2 → t < 2 → u ≡ min s t → u ≡ 1 → s ≡ 1
first_of s t u hs ht e h = omega arith

second_of : (s t u : ℕ) → s < 2 → t < 2 → u ≡ min s t → u ≡ 1 → t ≡ 1
second_of s t u hs ht e h = omega arith

left_has : (za oa zb ob x : ℕ) → HasBits za oa x → HasBits (bit_and za zb) (bit_and oa ob) x
left_has za oa zb ob x h = record {
  off = left_bits IsOff za zb x (λ s t u hs ht e v p g. p (first_of s t u hs ht e g)) h.off;
  on = left_bits IsOn oa ob x (λ s t u hs ht e v p g. p (first_of s t u hs ht e g)) h.on;
}

right_has : (za oa zb ob x : ℕ) → HasBits zb ob x → HasBits (bit_and za zb) (bit_and oa ob) x
right_has za oa zb ob x h = record {
  off = right_bits IsOff za zb x (λ s t u hs ht e v p g. p (second_of s t u hs ht e g)) h.off;
  on = right_bits IsOn oa ob x (λ s t u hs ht e v p g. p (second_of s t u hs ht e g)) h.on;
}

pub pick_rule : (w : ℕ) (c a b r : Range) (l m : ℕ) → l ≡ min a.least b.least → m ≡ max a.most b.most → IsSettled w (bit_and a.zeros b.zeros) (bit_and a.ones b.ones) l m r → IsPickRule w c a b r
pick_rule w c a b r l m el em done = record {
  right = λ bit x y lx ly k p q. chosen (IsWithin r) (nat_eq bit 0) x y
      (done.right x lx (left_has _ _ _ _ _ p.bits) (omega (arith, p.least)) (omega (arith, p.most)))
      (done.right y ly (right_has _ _ _ _ _ q.bits) (omega (arith, q.least)) (omega (arith, q.most)));
  shape = done.shape;
}

-- a word is its low byte and the rest
split : (a b c d : ℕ) → joined_bytes a b c d ≡ ((d * 2 ^ 8 + c) * 2 ^ 8 + b) * 2 ^ 8 + a
split a b c d = omega arith

joined_bitwise : (R : ℕ → ℕ → Type 0) (a b c d x y z u : ℕ) → a < 2 ^ 8 → b < 2 ^ 8 → c < 2 ^ 8 → x < 2 ^ 8 → y < 2 ^ 8 → z < 2 ^ 8 → Bitwise R a x → Bitwise R b y → Bitwise R c z → Bitwise R d u
    → Bitwise R (joined_bytes a b c d) (joined_bytes x y z u)
joined_bitwise R a b c d x y z u ha hb hc hx hy hz p q s t = rw (split a b c d) (rw (split x y z u)
    (put_together R _ _ a x 8 ha hx (put_together R _ _ b y 8 hb hy (put_together R d u c z 8 hc hz t s) q) p))

zeros_lt : (r : Range) → IsProper 8 r → r.zeros < 2 ^ 8
zeros_lt r h = h.shape.width

ones_lt : (r : Range) → IsProper 8 r → r.ones < 2 ^ 8
ones_lt r h = omega (arith, h.shape.low, h.shape.high, h.filled)

held_lt : (a b : ℕ) → Bitwise IsOn a b → b < 2 ^ 8 → a < 2 ^ 8
held_lt a b h lt = omega (arith, ones_le a b h)

pub join_rule : (a b c d r : Range) (z o l m : ℕ) → IsProper 8 a → IsProper 8 b → IsProper 8 c → IsProper 8 d
    → z ≡ joined_bytes a.zeros b.zeros c.zeros d.zeros → o ≡ joined_bytes a.ones b.ones c.ones d.ones → l ≡ joined_bytes a.least b.least c.least d.least → m ≡ joined_bytes a.most b.most c.most d.most
    → IsSettled 32 z o l m r → IsJoinRule a b c d r
join_rule a b c d r z o l m ha hb hc hd ez eo el em done = record {
  right = λ x y s t lx ly ls lt p q u v. done.right _ (omega arith)
      (record {
        off = rw ez (joined_bitwise IsOff _ _ _ _ _ _ _ _ (zeros_lt a ha) (zeros_lt b hb) (zeros_lt c hc) lx ly ls p.bits.off q.bits.off u.bits.off v.bits.off);
        on = rw eo (joined_bitwise IsOn _ _ _ _ _ _ _ _ (ones_lt a ha) (ones_lt b hb) (ones_lt c hc) lx ly ls p.bits.on q.bits.on u.bits.on v.bits.on);
      })
      (omega (arith, p.least, q.least, u.least, v.least)) (omega (arith, p.most, q.most, u.most, v.most));
  shape = done.shape;
  bits = λ p q s t hp hq hs ht. record {
    zeros = through _ z _ (rw ez (joined_bitwise IsOn _ _ _ _ _ _ _ _ (held_lt _ _ hp.zeros (zeros_lt a ha)) (held_lt _ _ hq.zeros (zeros_lt b hb)) (held_lt _ _ hs.zeros (zeros_lt c hc))
        (zeros_lt a ha) (zeros_lt b hb) (zeros_lt c hc) hp.zeros hq.zeros hs.zeros ht.zeros)) done.has_zeros;
    ones = through _ o _ (rw eo (joined_bitwise IsOn _ _ _ _ _ _ _ _ (held_lt _ _ hp.ones (ones_lt a ha)) (held_lt _ _ hq.ones (ones_lt b hb)) (held_lt _ _ hs.ones (ones_lt c hc))
        (ones_lt a ha) (ones_lt b hb) (ones_lt c hc) hp.ones hq.ones hs.ones ht.ones)) done.has_ones;
  };
}

byte_bitwise : (R : ℕ → ℕ → Type 0) (a x k : ℕ) → R 0 0 → Bitwise R a x → Bitwise R (byte_at a k) (byte_at x k)
byte_bitwise R a x k none h = low_part R _ _ 8 none (moved_down R a x (8 * k) h)

none_on : IsOn 0 0
none_on h = h

none_off : IsOff 0 0
none_off h = refl

byte_held : (a r : Range) (k z o l m : ℕ) → z ≡ byte_at a.zeros k → o ≡ byte_at a.ones k → IsSettled 8 z o l m r → (p : Fixed) → HoldsBits p a → HoldsBits (record { zeros = byte_at p.zeros k; ones = byte_at p.ones k }) r
byte_held a r k z o l m ez eo done p h = record {
  zeros = through _ z _ (rw ez (byte_bitwise IsOn _ _ k none_on h.zeros)) done.has_zeros;
  ones = through _ o _ (rw eo (byte_bitwise IsOn _ _ k none_on h.ones)) done.has_ones;
}

byte_bits : (a : Range) (k z o x : ℕ) → z ≡ byte_at a.zeros k → o ≡ byte_at a.ones k → IsWithin a x → HasBits z o (byte_at x k)
byte_bits a k z o x ez eo p = record { off = rw ez (byte_bitwise IsOff _ _ k none_off p.bits.off); on = rw eo (byte_bitwise IsOn _ _ k none_on p.bits.on) }

ordered : (l x m : ℕ) → l ≤ x → x ≤ m → l / 2 ^ 8 ≡ m / 2 ^ 8 → (l % 2 ^ 8 ≤ x % 2 ^ 8) × (x % 2 ^ 8 ≤ m % 2 ^ 8)
ordered l x m h g e = (omega arith, omega arith)

pub byte_rule : (a r : Range) (k z o l m : ℕ) → z ≡ byte_at a.zeros k → o ≡ byte_at a.ones k → l ≡ byte_at a.least k → m ≡ byte_at a.most k → a.least / 2 ^ (8 * k) / 2 ^ 8 ≡ a.most / 2 ^ (8 * k) / 2 ^ 8
    → IsSettled 8 z o l m r → IsByteRule k a r
byte_rule a r k z o l m ez eo el em same done = record {
  right = λ x p. (let within = ordered _ (x / 2 ^ (8 * k)) _ (div_le a.least x (2 ^ (8 * k)) (pow_pos (8 * k)) p.least) (div_le x a.most (2 ^ (8 * k)) (pow_pos (8 * k)) p.most) same in
      done.right (byte_at x k) (mod_below (x / 2 ^ (8 * k)) (2 ^ 8) (omega arith)) (byte_bits a k z o x ez eo p) (rw el within.0) (rw em within.1));
  shape = done.shape;
  bits = byte_held a r k z o l m ez eo done;
}

pub byte_any_rule : (a r : Range) (k z o : ℕ) → z ≡ byte_at a.zeros k → o ≡ byte_at a.ones k → IsSettled 8 z o 0 (2 ^ 8 - 1) r → IsByteRule k a r
byte_any_rule a r k z o ez eo done = record {
  right = λ x p. (let lt = mod_below (x / 2 ^ (8 * k)) (2 ^ 8) (omega arith) in done.right (byte_at x k) lt (byte_bits a k z o x ez eo p) (omega arith) (omega (arith, lt)));
  shape = done.shape;
  bits = byte_held a r k z o 0 (2 ^ 8 - 1) ez eo done;
}
