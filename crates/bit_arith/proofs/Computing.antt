-- What the circuits compute, as the table of operations says it.
use Rattle.std.proofs.Common.{◌≡◌, ℕ, ◌+◌, ◌-◌, ◌*◌, ◌/◌, ◌%◌, ◌^◌, ◌<◌, Bool, true, false, cond, List, length, take, drop, get_or, arith, ap, refl, ◌∙◌, sym, subst, inl, inr}
use Rattle.std.specs.Prelude.{Result, Ok, Err, IfOk, nat_eq, nat_lt, int_lt, int_div, int_rem}
use Rattle.std.proofs.lemmas.Bool.{cases_lt, cases_eq}
use Rattle.std.proofs.lemmas.Nat.{mul-lt}
use Rattle.std.proofs.Math.Nat.{div-le_self, mod-le}
use Rattle.std.specs.Int.{w32, cast_unsigned}
use Rattle.ct_words.specs.declared.alu_op.AluOp.TheVariants as ops
use Rattle.ct_words.specs.Words.{alu_value, flag, signed}
use Rattle.gate_form.specs.declared.wire.Wire.{Wire}
use Rattle.gate_form.specs.declared.wire.Gate.{Gate}
use Rattle.gate_form.specs.Net.{bit}
use Rattle.gate_form.specs.Run.{IsRun, Grows}
use Rattle.bit_arith.specs.declared.bits.Bitwise.TheVariants as bitwises
use Rattle.bit_arith.specs.Bits.{differ, bitwise_value}
use Rattle.bit_arith.specs.Division.{IsDivided}
use Rattle.bit_arith.specs.Filled.{moved_down_by}
use Rattle.bit_arith.specs.Number.{word, IsWord}
use Rattle.bit_arith.specs.Operations.{Computes}
use Rattle.bit_arith.specs.Signs.{magnitude, is_negative, with_sign}
use Rattle.bit_arith.proofs.WordLaws.{word-low}
use Rattle.bit_arith.proofs.Growing.{IsWord-as, IsWord-low, IsWord-high, bit-false, bit-true}
use Rattle.bit_arith.proofs.Negatives.{sign_of, word_lt_32}
use Rattle.bit_arith.proofs.Ordering.{eq_true, eq_false, lt_true, lt_false}
use Rattle.bit_arith.proofs.Quotients.{quotient_is, remainder_is}
use Rattle.bit_arith.proofs.SignLaws.{signed-with_sign, product_of_signs, high_of_signs, quotient_of_signs, remainder_of_signs, word_of_sign, shift_of_sign}

-- the same wires under another number of them
IsWord-wide : (gates : List Gate) (out : List Wire) (m n : ℕ) (f : (ℕ → Bool) → ℕ) → m ≡ n → IsWord gates out m f → IsWord gates out n f
IsWord-wide gates out m n f e was = record { width_is = was.width_is ∙ e; inside = was.inside; value_is = was.value_is }

pub sum-computes : (gates : List Gate) (a b out : List Wire) (off : Wire) → off.gate ≡ 0 → off.negated ≡ true → length a ≡ 32 → IsWord gates out (length a + 1) (λ v. word v a + word v b + flag (bit v off)) → Computes gates ops.Add a b (take 32 out)
unfolding alu_value
sum-computes gates a b out off at neg wide was = IsWord-as gates (take 32 out) 32 _ _ (IsWord-low gates out (length a + 1) 32 _ (omega arith) was)
    (λ v run. let zero_bit : flag (bit v off) ≡ 0 = ap flag (bit-false v off run.first at neg) in ap (λ (n : ℕ). n % 2 ^ 32) (omega (arith, zero_bit)))

pub difference-computes : (gates : List Gate) (a b out : List Wire) → length a ≡ 32 → length b ≡ 32 → IsWord gates out (length a + 1) (λ v. word v a + 2 ^ length a - word v b) → Computes gates ops.Sub a b (take 32 out)
unfolding alu_value
difference-computes gates a b out wide other was = IsWord-as gates (take 32 out) 32 _ _ (IsWord-low gates out (length a + 1) 32 _ (omega arith) was)
    (λ v run. ap (λ (k : ℕ). (word v a + 2 ^ k - word v b) % 2 ^ 32) wide ∙ ap (λ (n : ℕ). n % 2 ^ 32) (omega (arith, word_lt_32 v b other)))

pub below-computes : (gates : List Gate) (a b out : List Wire) (w : Wire) → IsWord gates out 32 (λ v. flag (bit v w)) → ((v : ℕ → Bool) → IsRun v gates → bit v w ≡ nat_lt (word v a) (word v b)) → Computes gates ops.Sltu a b out
unfolding alu_value
below-computes gates a b out w was below = IsWord-as gates out 32 _ _ was (λ v run. ap flag (below v run))

pub below_signed-computes : (gates : List Gate) (a b out : List Wire) (w : Wire) → IsWord gates out 32 (λ v. flag (bit v w)) → ((v : ℕ → Bool) → IsRun v gates → bit v w ≡ int_lt (signed (word v a)) (signed (word v b))) → Computes gates ops.Slt a b out
unfolding alu_value
below_signed-computes gates a b out w was below = IsWord-as gates out 32 _ _ was (λ v run. ap flag (below v run))

pub and-computes : (gates : List Gate) (a b out : List Wire) → length a ≡ 32 → IsWord gates out (length a) (λ v. bitwise_value bitwises.And (word v a) (word v b)) → Computes gates ops.And a b out
unfolding alu_value
and-computes gates a b out wide was = IsWord-wide gates out (length a) 32 _ wide was

pub or-computes : (gates : List Gate) (a b out : List Wire) → length a ≡ 32 → IsWord gates out (length a) (λ v. bitwise_value bitwises.Or (word v a) (word v b)) → Computes gates ops.Or a b out
unfolding alu_value
or-computes gates a b out wide was = IsWord-wide gates out (length a) 32 _ wide was

pub xor-computes : (gates : List Gate) (a b out : List Wire) → length a ≡ 32 → IsWord gates out (length a) (λ v. bitwise_value bitwises.Xor (word v a) (word v b)) → Computes gates ops.Xor a b out
unfolding alu_value
xor-computes gates a b out wide was = IsWord-wide gates out (length a) 32 _ wide was

pub if_ok : {X E : Type 0} {P Q : X → Type 0} (r : Result X E) → IfOk r P → ((x : X) → P x → Q x) → IfOk r Q
if_ok (Ok x) h f = f x h
if_ok (Err e) h f = h

-- the low five bits of a word
amount_is : (v : ℕ → Bool) (b amount : List Wire) → length b ≡ 32 → amount ≡ take 5 b → word v amount ≡ word v b % 32
amount_is v b amount wide is = ap (word v) is ∙ word-low v b 5 (omega arith)

pub shift_left-computes : (gates : List Gate) (a b amount out : List Wire) → length a ≡ 32 → length b ≡ 32 → amount ≡ take 5 b → IsWord gates out (length a) (λ v. (word v a * 2 ^ word v amount) % 2 ^ length a) → Computes gates ops.Sll a b out
unfolding alu_value
shift_left-computes gates a b amount out wide other is was = IsWord-as gates out 32 _ _ (IsWord-wide gates out (length a) 32 _ wide was)
    (λ v run. ap (λ (n : ℕ). (word v a * 2 ^ word v amount) % 2 ^ n) wide ∙ ap (λ (k : ℕ). (word v a * 2 ^ k) % 2 ^ 32) (amount_is v b amount other is))

pub shift_right-computes : (gates : List Gate) (a b amount out : List Wire) (off : Wire) → off.gate ≡ 0 → off.negated ≡ true → length a ≡ 32 → length b ≡ 32 → amount ≡ take 5 b
    → IsWord gates out (length a) (λ v. moved_down_by (bit v off) (length a) (word v a) (word v amount)) → Computes gates ops.Srl a b out
unfolding alu_value
shift_right-computes gates a b amount out off at neg wide other is was = IsWord-as gates out 32 _ _ (IsWord-wide gates out (length a) 32 _ wide was)
    (λ v run. ap (λ (x : Bool). moved_down_by x (length a) (word v a) (word v amount)) (bit-false v off run.first at neg) ∙ ap (λ (k : ℕ). word v a / 2 ^ k) (amount_is v b amount other is))

pub shift_right_signed-computes : (gates : List Gate) (a b amount out : List Wire) (d : Wire) → length a ≡ 32 → length b ≡ 32 → amount ≡ take 5 b
    → IsWord gates out (length a) (λ v. moved_down_by (bit v (get_or a 31 d)) (length a) (word v a) (word v amount)) → Computes gates ops.Sra a b out
unfolding alu_value
shift_right_signed-computes gates a b amount out d wide other is was = IsWord-as gates out 32 _ _ (IsWord-wide gates out (length a) 32 _ wide was)
    (λ v run. ap (λ (n : ℕ). moved_down_by (bit v (get_or a 31 d)) n (word v a) (word v amount)) wide
    ∙ ap (λ (x : Bool). moved_down_by x 32 (word v a) (word v amount)) (sign_of v a d wide)
    ∙ ap (λ (k : ℕ). moved_down_by (is_negative (word v a)) 32 (word v a) k) (amount_is v b amount other is)
    ∙ sym (shift_of_sign (word v a) (word v b % 32) (word_lt_32 v a wide)))

pub low_product-computes : (gates : List Gate) (a b out : List Wire) → length a ≡ 32 → IsWord gates out (length a + length b) (λ v. word v a * word v b) → Computes gates ops.Mul a b (take 32 out)
unfolding alu_value
low_product-computes gates a b out wide was = IsWord-low gates out (length a + length b) 32 _ (omega arith) was

pub high_product-computes : (gates : List Gate) (a b out high : List Wire) → length a ≡ 32 → length b ≡ 32 → high ≡ drop 32 out → IsWord gates out (length a + length b) (λ v. word v a * word v b) → Computes gates ops.Mulhu a b high
unfolding alu_value
high_product-computes gates a b out high wide other is was =
    let P : List Wire → Type 0 = λ ws. Computes gates ops.Mulhu a b ws in
    subst P (sym is) (IsWord-wide gates (drop 32 out) (length a + length b - 32) 32 _ (omega arith) (IsWord-high gates out (length a + length b) 32 _ (omega arith) was))

-- the high word of a product or of its negative
pub IsWord-high_where : (mid new : List Gate) (a b whole given turned high : List Wire) (negative : Wire) (k : ℕ) → Grows mid new k → length a ≡ 32 → length b ≡ 32 → IsWord mid whole (length a + length b) (λ v. word v a * word v b) → given ≡ whole
    → IsWord new turned (length given) (λ v. cond (bit v negative) ((2 ^ length given - word v given) % 2 ^ length given) (word v given)) → high ≡ drop 32 turned
    → IsWord new high 32 (λ v. cond (bit v negative) ((2 ^ 64 - word v a * word v b) % 2 ^ 64) (word v a * word v b) / 2 ^ 32)
IsWord-high_where mid new a b whole given turned high negative k grows wide other product same was is =
    let long : length given ≡ 64 = omega (arith, ap length same, product.width_is) in
    let half : IsWord new (drop 32 turned) (length given - 32) (λ v. cond (bit v negative) ((2 ^ length given - word v given) % 2 ^ length given) (word v given) / 2 ^ 32) = IsWord-high new turned (length given) 32 _ (omega arith) was in
    let P : List Wire → Type 0 = λ ws. IsWord new ws 32 (λ v. cond (bit v negative) ((2 ^ 64 - word v a * word v b) % 2 ^ 64) (word v a * word v b) / 2 ^ 32) in
    subst P (sym is) (IsWord-as new (drop 32 turned) 32 _ _ (IsWord-wide new (drop 32 turned) (length given - 32) 32 _ (omega arith) half)
    (λ v run.
    let value : word v given ≡ word v a * word v b = ap (word v) same ∙ product.value_is v (grows.runs v run) in
    ap (λ (n : ℕ). cond (bit v negative) ((2 ^ n - word v given) % 2 ^ n) (word v given) / 2 ^ 32) long
    ∙ ap (λ (x : ℕ). cond (bit v negative) ((2 ^ 64 - x) % 2 ^ 64) x / 2 ^ 32) value))

magnitude_lt : (a : ℕ) → a < 2 ^ 32 → magnitude a < 2 ^ 32
magnitude_lt a small = elim (cases_lt a (2 ^ 31)) [ inl h ↦ rw (lt_true a (2 ^ 31) h) small | inr h ↦ rw (lt_false a (2 ^ 31) h) (omega arith) ]

double : (x y : ℕ) → x < 2 ^ 32 → y < 2 ^ 32 → x * y < 2 ^ 64
double x y hx hy = mul-lt x y (2 ^ 32) (2 ^ 32) hx hy

mulh_is : (x y : ℕ) → x < 2 ^ 32 → y < 2 ^ 32 → cond (differ (is_negative x) (is_negative y)) ((2 ^ 64 - magnitude x * magnitude y) % 2 ^ 64) (magnitude x * magnitude y) / 2 ^ 32 ≡ alu_value ops.Mulh x y
unfolding alu_value
mulh_is x y hx hy =
    sym (rw (signed-with_sign x hx) (rw (signed-with_sign y hy) (rw (product_of_signs (is_negative x) (is_negative y) (magnitude x) (magnitude y))
    (high_of_signs (differ (is_negative x) (is_negative y)) (magnitude x * magnitude y) (double (magnitude x) (magnitude y) (magnitude_lt x hx) (magnitude_lt y hy))))))

differ_false : (b : Bool) → differ b false ≡ b
differ_false true = refl
differ_false false = refl

mulhsu_is : (x y : ℕ) → x < 2 ^ 32 → y < 2 ^ 32 → cond (is_negative x) ((2 ^ 64 - magnitude x * y) % 2 ^ 64) (magnitude x * y) / 2 ^ 32 ≡ alu_value ops.Mulhsu x y
unfolding alu_value
mulhsu_is x y hx hy =
    sym (rw (signed-with_sign x hx) (rw (product_of_signs (is_negative x) false (magnitude x) y) (rw (differ_false (is_negative x))
    (high_of_signs (is_negative x) (magnitude x * y) (double (magnitude x) y (magnitude_lt x hx) hy)))))

pub high_product_signed-computes : (old mid two new : List Gate) (a b left right l r out : List Wire) (w d e : Wire) (i j k : ℕ) → length a ≡ 32 → length b ≡ 32 → Grows old mid i → Grows mid two j → Grows two new k
    → IsWord old left 32 (λ v. magnitude (word v a)) → IsWord mid right 32 (λ v. magnitude (word v b)) → l ≡ left → r ≡ right
    → ((v : ℕ → Bool) → IsRun v two → bit v w ≡ differ (bit v (get_or a 31 d)) (bit v (get_or b 31 e)))
    → IsWord new out 32 (λ v. cond (bit v w) ((2 ^ 64 - word v l * word v r) % 2 ^ 64) (word v l * word v r) / 2 ^ 32)
    → Computes new ops.Mulh a b out
high_product_signed-computes old mid two new a b left right l r out w d e i j k wide other g1 g2 g3 la ra el er sign was =
    IsWord-as new out 32 _ _ was (λ v run.
    let r2 = g3.runs v run in
    let r1 = g2.runs v r2 in
    let x : word v l ≡ magnitude (word v a) = ap (word v) el ∙ la.value_is v (g1.runs v r1) in
    let y : word v r ≡ magnitude (word v b) = ap (word v) er ∙ ra.value_is v r1 in
    rw x (rw y (rw (sign v r2) (rw (sign_of v a d wide) (rw (sign_of v b e other) (mulh_is (word v a) (word v b) (word_lt_32 v a wide) (word_lt_32 v b other)))))))

pub high_product_mixed-computes : (old new : List Gate) (a b left l out : List Wire) (d : Wire) (k : ℕ) → length a ≡ 32 → length b ≡ 32 → Grows old new k
    → IsWord old left 32 (λ v. magnitude (word v a)) → l ≡ left
    → IsWord new out 32 (λ v. cond (bit v (get_or a 31 d)) ((2 ^ 64 - word v l * word v b) % 2 ^ 64) (word v l * word v b) / 2 ^ 32)
    → Computes new ops.Mulhsu a b out
high_product_mixed-computes old new a b left l out d k wide other grows la el was =
    IsWord-as new out 32 _ _ was (λ v run.
    let x : word v l ≡ magnitude (word v a) = ap (word v) el ∙ la.value_is v (grows.runs v run) in
    rw x (rw (sign_of v a d wide) (mulhsu_is (word v a) (word v b) (word_lt_32 v a wide) (word_lt_32 v b other))))

-- a division by zero apart
where_zero_is : (v : ℕ → Bool) (b x y f g : ℕ) → (b ≡ 0 → x ≡ f) → (0 < b → y ≡ g) → cond (nat_eq b 0) x y ≡ cond (nat_eq b 0) f g
where_zero_is v b x y f g zero some = elim (cases_eq b 0) [
  | inl e ↦ rw (eq_true b 0 e) (zero e)
  | inr ne ↦ rw (eq_false b 0 ne) (some (omega arith))
]

pub IsWord-where_zero : (old mid new : List Gate) (b nothing seen zero other out : List Wire) (w : Wire) (j k : ℕ) → Grows old mid j → Grows mid new k → IsWord old nothing (length b) (λ _. 0) → seen ≡ nothing
    → ((v : ℕ → Bool) → IsRun v mid → bit v w ≡ nat_eq (word v b) (word v seen))
    → IsWord new out (length zero) (λ v. cond (bit v w) (word v zero) (word v other))
    → IsWord new out (length zero) (λ v. cond (nat_eq (word v b) 0) (word v zero) (word v other))
IsWord-where_zero old mid new b nothing seen zero other out w j k before grows none same is was = IsWord-as new out (length zero) _ _ was (λ v run.
    let r = grows.runs v run in
    let z : word v seen ≡ 0 = ap (word v) same ∙ none.value_is v (before.runs v r) in
    ap (λ (x : Bool). cond x (word v zero) (word v other)) (is v r ∙ ap (nat_eq (word v b)) z))

magnitude_some : (b : ℕ) → b < 2 ^ 32 → 0 < b → 0 < magnitude b
magnitude_some b small some = elim (cases_lt b (2 ^ 31)) [ inl h ↦ rw (lt_true b (2 ^ 31) h) some | inr h ↦ rw (lt_false b (2 ^ 31) h) (omega arith) ]

-- division of the magnitudes
pub IsDivided-magnitudes : (old mid new : List Gate) (a b left right l r q rest : List Wire) (j k : ℕ) → length b ≡ 32 → Grows old mid j → Grows mid new k
    → IsWord old left 32 (λ v. magnitude (word v a)) → IsWord mid right 32 (λ v. magnitude (word v b)) → l ≡ left → r ≡ right
    → ((v : ℕ → Bool) → IsRun v new → 0 < word v r → IsDivided (word v l) (word v r) (word v q) (word v rest))
    → (v : ℕ → Bool) → IsRun v new → 0 < word v b → IsDivided (magnitude (word v a)) (magnitude (word v b)) (word v q) (word v rest)
IsDivided-magnitudes old mid new a b left right l r q rest j k other g1 g2 la ra el er divided v run some =
    let r1 = g2.runs v run in
    let x : word v l ≡ magnitude (word v a) = ap (word v) el ∙ la.value_is v (g1.runs v r1) in
    let y : word v r ≡ magnitude (word v b) = ap (word v) er ∙ ra.value_is v r1 in
    let P : ℕ → ℕ → Type 0 = λ m n. IsDivided m n (word v q) (word v rest) in
    let Q : ℕ → Type 0 = λ n. 0 < n in
    let positive : 0 < word v r = subst Q (sym y) (magnitude_some (word v b) (word_lt_32 v b other) some) in
    subst (λ (m : ℕ). P m (magnitude (word v b))) x (subst (λ (n : ℕ). P (word v l) n) y (divided v run positive))

-- what is left of a division of two words stays when more gates come
pub quotient-computes : (mid new : List Gate) (a b ones zero q other out : List Wire) (on : Wire) (k : ℕ) → on.gate ≡ 0 → on.negated ≡ false → Grows mid new k
    → ((v : ℕ → Bool) → IsRun v mid → 0 < word v b → IsDivided (word v a) (word v b) (word v q) (word v other)) → zero ≡ ones → IsWord mid ones 32 (λ v. flag (bit v on) * (2 ^ 32 - 1))
    → (given : List Wire) → given ≡ q → IsWord new out (length zero) (λ v. cond (nat_eq (word v b) 0) (word v zero) (word v given)) → Computes new ops.Divu a b out
unfolding alu_value
quotient-computes mid new a b ones zero q other out on k at neg grows divided e1 all given e2 was =
    IsWord-as new out 32 _ _ (IsWord-wide new out (length zero) 32 _ (ap length e1 ∙ all.width_is) was) (λ v run.
    let r = grows.runs v run in
    where_zero_is v (word v b) _ _ _ _
    (λ _. ap (word v) e1 ∙ all.value_is v r ∙ (let e : bit v on ≡ true = bit-true v on r.first at neg in rw e refl))
    (λ some. ap (word v) e2 ∙ sym (quotient_is _ _ _ _ (divided v r some))))

pub remainder-computes : (mid new : List Gate) (a b q rest given out : List Wire) (k : ℕ) → length a ≡ 32 → Grows mid new k
    → ((v : ℕ → Bool) → IsRun v mid → 0 < word v b → IsDivided (word v a) (word v b) (word v q) (word v rest)) → given ≡ rest
    → IsWord new out (length a) (λ v. cond (nat_eq (word v b) 0) (word v a) (word v given)) → Computes new ops.Remu a b out
unfolding alu_value
remainder-computes mid new a b q rest given out k wide grows divided e was =
    IsWord-as new out 32 _ _ (IsWord-wide new out (length a) 32 _ wide was) (λ v run.
    where_zero_is v (word v b) _ _ _ _ (λ _. refl) (λ some. ap (word v) e ∙ sym (remainder_is _ _ _ _ (divided v (grows.runs v run) some))))

-- a negative as a word
negated_is : (s : Bool) (m q : ℕ) → m ≡ q → m < 2 ^ 32 → cond s ((2 ^ 32 - q) % 2 ^ 32) q ≡ cast_unsigned w32 (with_sign s m)
negated_is s m q e small = rw (← e) (sym (word_of_sign s m small))

div_is : (x y q r : ℕ) → x < 2 ^ 32 → y < 2 ^ 32 → 0 < y → IsDivided (magnitude x) (magnitude y) q r
    → cond (differ (is_negative x) (is_negative y)) ((2 ^ 32 - q) % 2 ^ 32) q ≡ cast_unsigned w32 (int_div (signed x) (signed y))
div_is x y q r hx hy some h =
    negated_is (differ (is_negative x) (is_negative y)) (magnitude x / magnitude y) q (quotient_is _ _ _ _ h) (omega (arith, div-le_self (magnitude x) (magnitude y), magnitude_lt x hx))
    ∙ sym (rw (signed-with_sign x hx) (rw (signed-with_sign y hy) (ap (cast_unsigned w32) (quotient_of_signs (is_negative x) (is_negative y) (magnitude x) (magnitude y) (magnitude_some y hy some)))))

rem_is : (x y q r : ℕ) → x < 2 ^ 32 → y < 2 ^ 32 → 0 < y → IsDivided (magnitude x) (magnitude y) q r
    → cond (is_negative x) ((2 ^ 32 - r) % 2 ^ 32) r ≡ cast_unsigned w32 (int_rem (signed x) (signed y))
rem_is x y q r hx hy some h =
    negated_is (is_negative x) (magnitude x % magnitude y) r (remainder_is _ _ _ _ h) (omega (arith, mod-le (magnitude x) (magnitude y), magnitude_lt x hx))
    ∙ sym (rw (signed-with_sign x hx) (rw (signed-with_sign y hy) (ap (cast_unsigned w32) (remainder_of_signs (is_negative x) (is_negative y) (magnitude x) (magnitude y) (magnitude_some y hy some)))))

pub quotient_signed-computes : (one two three new : List Gate) (a b q rest q1 negated given ones zero out : List Wire) (w d e on : Wire) (i j k : ℕ) → length a ≡ 32 → length b ≡ 32 → on.gate ≡ 0 → on.negated ≡ false
    → Grows one two i → Grows two three j → Grows three new k → length q ≡ 32
    → ((v : ℕ → Bool) → IsRun v one → 0 < word v b → IsDivided (magnitude (word v a)) (magnitude (word v b)) (word v q) (word v rest))
    → ((v : ℕ → Bool) → IsRun v two → bit v w ≡ differ (bit v (get_or a 31 d)) (bit v (get_or b 31 e))) → q1 ≡ q
    → IsWord three negated (length q1) (λ v. cond (bit v w) ((2 ^ length q1 - word v q1) % 2 ^ length q1) (word v q1)) → given ≡ negated
    → IsWord three ones 32 (λ v. flag (bit v on) * (2 ^ 32 - 1)) → zero ≡ ones
    → IsWord new out (length zero) (λ v. cond (nat_eq (word v b) 0) (word v zero) (word v given)) → Computes new ops.Div a b out
unfolding alu_value
quotient_signed-computes one two three new a b q rest q1 negated given ones zero out w d e on i j k wide other at neg g1 g2 g3 long divided sign e1 turned e2 all e3 was =
    IsWord-as new out 32 _ _ (IsWord-wide new out (length zero) 32 _ (ap length e3 ∙ all.width_is) was) (λ v run.
    let r3 = g3.runs v run in
    let r2 = g2.runs v r3 in
    let r1 = g1.runs v r2 in
    let n : length q1 ≡ 32 = ap length e1 ∙ long in
    let s : bit v w ≡ differ (is_negative (word v a)) (is_negative (word v b)) = sign v r2 ∙ (rw (sign_of v a d wide) (rw (sign_of v b e other) refl)) in
    let value : word v given ≡ cond (differ (is_negative (word v a)) (is_negative (word v b))) ((2 ^ 32 - word v q) % 2 ^ 32) (word v q) =
    ap (word v) e2 ∙ turned.value_is v r3 ∙ ap (λ (m : ℕ). cond (bit v w) ((2 ^ m - word v q1) % 2 ^ m) (word v q1)) n
    ∙ ap (λ (x : Bool). cond x ((2 ^ 32 - word v q1) % 2 ^ 32) (word v q1)) s ∙ ap (λ (x : ℕ). cond (differ (is_negative (word v a)) (is_negative (word v b))) ((2 ^ 32 - x) % 2 ^ 32) x) (ap (word v) e1) in
    where_zero_is v (word v b) _ _ _ _
    (λ _. ap (word v) e3 ∙ all.value_is v r3 ∙ (let on_is : bit v on ≡ true = bit-true v on r3.first at neg in rw on_is refl))
    (λ some. value ∙ div_is (word v a) (word v b) (word v q) (word v rest) (word_lt_32 v a wide) (word_lt_32 v b other) some (divided v r1 some)))

pub remainder_signed-computes : (one two new : List Gate) (a b q rest r1 negated given out : List Wire) (d : Wire) (i k : ℕ) → length a ≡ 32 → length b ≡ 32
    → Grows one two i → Grows two new k → length rest ≡ 32
    → ((v : ℕ → Bool) → IsRun v one → 0 < word v b → IsDivided (magnitude (word v a)) (magnitude (word v b)) (word v q) (word v rest)) → r1 ≡ rest
    → IsWord two negated (length r1) (λ v. cond (bit v (get_or a 31 d)) ((2 ^ length r1 - word v r1) % 2 ^ length r1) (word v r1)) → given ≡ negated
    → IsWord new out (length a) (λ v. cond (nat_eq (word v b) 0) (word v a) (word v given)) → Computes new ops.Rem a b out
unfolding alu_value
remainder_signed-computes one two new a b q rest r1 negated given out d i k wide other g1 g2 long divided e1 turned e2 was =
    IsWord-as new out 32 _ _ (IsWord-wide new out (length a) 32 _ wide was) (λ v run.
    let run2 = g2.runs v run in
    let n : length r1 ≡ 32 = ap length e1 ∙ long in
    let value : word v given ≡ cond (is_negative (word v a)) ((2 ^ 32 - word v rest) % 2 ^ 32) (word v rest) =
    ap (word v) e2 ∙ turned.value_is v run2 ∙ ap (λ (m : ℕ). cond (bit v (get_or a 31 d)) ((2 ^ m - word v r1) % 2 ^ m) (word v r1)) n
    ∙ ap (λ (x : Bool). cond x ((2 ^ 32 - word v r1) % 2 ^ 32) (word v r1)) (sign_of v a d wide) ∙ ap (λ (x : ℕ). cond (is_negative (word v a)) ((2 ^ 32 - x) % 2 ^ 32) x) (ap (word v) e1) in
    where_zero_is v (word v b) _ _ _ _ (λ _. refl)
    (λ some. value ∙ rem_is (word v a) (word v b) (word v q) (word v rest) (word_lt_32 v a wide) (word_lt_32 v b other) some (divided v (g1.runs v run2) some)))
