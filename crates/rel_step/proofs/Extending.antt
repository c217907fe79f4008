-- What loads make of bytes: a word, and its extension.
use Rattle.std.proofs.Common.{◌≡◌, ℕ, suc, ◌+◌, ◌-◌, ◌*◌, ◌/◌, ◌%◌, ◌<◌, ◌≤◌, ◌^◌, if◌then◌else◌, Bool, true, false, refl, sym, ◌∙◌, ap, subst, inl, inr, arith}
use Rattle.std.specs.Prelude.{pos, negsuc}
use Rattle.std.specs.Int.{w32, cast_unsigned, int_shr}
use Rattle.std.proofs.lemmas.Bool.{cases_lt, lt-ltb, le-ltb}
use Rattle.ct_words.specs.Words.{alu_value, extend_value, signed, sign_extended, IsAccessSize}
use Rattle.ct_words.specs.declared.alu_op.AluOp.TheVariants as ops
use Rattle.rv_machine.specs.State.{State}
use Rattle.rv_machine.specs.Step.{wrapped, byte_value}
use Rattle.rv_machine.proofs.Memory.{loaded_one, loaded_two, loaded_four}
use Rattle.bv_expr.specs.Nodes.{joined_bytes}
use Rattle.rel_step.specs.declared.here.Here.{Here}
use Rattle.rel_step.specs.Accesses.{byte_of, word_of}

-- two's complement by its sign

signed_small : (a : ℕ) → a < 2 ^ 31 → signed a ≡ pos a
signed_small a small = rw (lt-ltb a (2 ^ 31) small) refl

signed_large : (a : ℕ) → 2 ^ 31 ≤ a → signed a ≡ negsuc (2 ^ 32 - suc a)
signed_large a large = rw (le-ltb a (2 ^ 31) large) refl

extended_small : (k w : ℕ) → w < 2 ^ (k - 1) → sign_extended k w ≡ w
extended_small k w h = ap (λ b. if b then w else w + (2 ^ 32 - 2 ^ k)) (lt-ltb w (2 ^ (k - 1)) h)

extended_large : (k w : ℕ) → 2 ^ (k - 1) ≤ w → sign_extended k w ≡ w + (2 ^ 32 - 2 ^ k)
extended_large k w h = ap (λ b. if b then w else w + (2 ^ 32 - 2 ^ k)) (le-ltb w (2 ^ (k - 1)) h)

byte_up : (w : ℕ) → w < 2 ^ 8 → alu_value ops.Sll w 24 ≡ w * 2 ^ 24
unfolding alu_value
byte_up w h = omega arith

half_up : (w : ℕ) → w < 2 ^ 16 → alu_value ops.Sll w 16 ≡ w * 2 ^ 16
unfolding alu_value
half_up w h = omega arith

byte_down : (w : ℕ) → w < 2 ^ 8 → alu_value ops.Sra (w * 2 ^ 24) 24 ≡ sign_extended 8 w
unfolding alu_value
byte_down w h = elim (cases_lt w (2 ^ 7)) [
  | inl less ↦ ap (λ z. cast_unsigned w32 (int_shr z 24)) (signed_small (w * 2 ^ 24) (omega arith)) ∙ (let e : w * 2 ^ 24 / 2 ^ 24 ≡ w = omega arith in e) ∙ sym (extended_small 8 w less)
  | inr more ↦ ap (λ z. cast_unsigned w32 (int_shr z 24)) (signed_large (w * 2 ^ 24) (omega arith))
      ∙ (let e : 2 ^ 32 - suc ((2 ^ 32 - suc (w * 2 ^ 24)) / 2 ^ 24) ≡ w + (2 ^ 32 - 2 ^ 8) = omega arith in e) ∙ sym (extended_large 8 w more)
]

half_down : (w : ℕ) → w < 2 ^ 16 → alu_value ops.Sra (w * 2 ^ 16) 16 ≡ sign_extended 16 w
unfolding alu_value
half_down w h = elim (cases_lt w (2 ^ 15)) [
  | inl less ↦ ap (λ z. cast_unsigned w32 (int_shr z 16)) (signed_small (w * 2 ^ 16) (omega arith)) ∙ (let e : w * 2 ^ 16 / 2 ^ 16 ≡ w = omega arith in e) ∙ sym (extended_small 16 w less)
  | inr more ↦ ap (λ z. cast_unsigned w32 (int_shr z 16)) (signed_large (w * 2 ^ 16) (omega arith))
      ∙ (let e : 2 ^ 32 - suc ((2 ^ 32 - suc (w * 2 ^ 16)) / 2 ^ 16) ≡ w + (2 ^ 32 - 2 ^ 16) = omega arith in e) ∙ sym (extended_large 16 w more)
]

low_byte : (w : ℕ) → w < 2 ^ 8 → w % 2 ^ 8 ≡ w
low_byte w h = omega arith

low_half : (w : ℕ) → w < 2 ^ 16 → w % 2 ^ 16 ≡ w
low_half w h = omega arith

extend_byte : (w : ℕ) → w < 2 ^ 8 → alu_value ops.Sra (alu_value ops.Sll w 24) 24 ≡ extend_value w 1 true
unfolding extend_value
extend_byte w h = ap (λ x. alu_value ops.Sra x 24) (byte_up w h) ∙ byte_down w h ∙ ap (sign_extended 8) (sym (low_byte w h))

extend_half : (w : ℕ) → w < 2 ^ 16 → alu_value ops.Sra (alu_value ops.Sll w 16) 16 ≡ extend_value w 2 true
unfolding extend_value
extend_half w h = ap (λ x. alu_value ops.Sra x 16) (half_up w h) ∙ half_down w h ∙ ap (sign_extended 16) (sym (low_half w h))

-- a byte or a half word is extended by two shifts
pub extend_signed : (bytes above w : ℕ) → IsAccessSize bytes → (bytes ≡ 4 → ⊥) → above ≡ 32 - 8 * bytes → w < 2 ^ (8 * bytes) → alu_value ops.Sra (alu_value ops.Sll w above) above ≡ extend_value w bytes true
extend_signed bytes above w (inl e) n a h =
    let up : above ≡ 24 = omega (arith, e, a) in
    let P : ℕ → Type 0 = λ b. w < 2 ^ (8 * b) in
    rw up (rw e (extend_byte w (subst P e h)))
extend_signed bytes above w (inr (inl e)) n a h =
    let up : above ≡ 16 = omega (arith, e, a) in
    let P : ℕ → Type 0 = λ b. w < 2 ^ (8 * b) in
    rw up (rw e (extend_half w (subst P e h)))
extend_signed bytes above w (inr (inr e)) n a h = absurd (n e)

-- zeros are above it already
pub extend_unsigned : (bytes w : ℕ) → IsAccessSize bytes → w < 2 ^ (8 * bytes) → w ≡ extend_value w bytes false
unfolding extend_value
extend_unsigned bytes w (inl e) h = let P : ℕ → Type 0 = λ b. w < 2 ^ (8 * b) in rw e (sym (low_byte w (subst P e h)))
extend_unsigned bytes w (inr (inl e)) h = let P : ℕ → Type 0 = λ b. w < 2 ^ (8 * b) in rw e (sym (low_half w (subst P e h)))
extend_unsigned bytes w (inr (inr e)) h =
    let P : ℕ → Type 0 = λ b. w < 2 ^ (8 * b) in
    let small : w < 2 ^ 32 = subst P e h in
    let low : w ≡ w % 2 ^ 32 = omega arith in
    rw e low

word_signed : (w : ℕ) → w < 2 ^ 32 → w ≡ sign_extended 32 (w % 2 ^ 32)
word_signed w h =
    let low : w % 2 ^ 32 ≡ w = omega arith in
    let P : ℕ → Type 0 = λ x. w ≡ sign_extended 32 x in
    subst P (sym low) (elim (cases_lt w (2 ^ 31)) [
      | inl less ↦ sym (extended_small 32 w less)
      | inr more ↦ (let e : w ≡ w + (2 ^ 32 - 2 ^ 32) = omega arith in e) ∙ sym (extended_large 32 w more)
    ])

-- a whole word stays
pub extend_word : (bytes w : ℕ) (way : Bool) → bytes ≡ 4 → w < 2 ^ (8 * bytes) → w ≡ extend_value w bytes way
unfolding extend_value
extend_word bytes w true e h = let P : ℕ → Type 0 = λ b. w < 2 ^ (8 * b) in rw e (word_signed w (subst P e h))
extend_word bytes w false e h =
    let P : ℕ → Type 0 = λ b. w < 2 ^ (8 * b) in
    let small : w < 2 ^ 32 = subst P e h in
    let low : w ≡ w % 2 ^ 32 = omega arith in
    rw e low

-- four bytes joined are the number that is loaded, and have no bits above it

joined_one : (here : Here) (s : State) (a x0 x1 x2 x3 : ℕ) → a < 2 ^ 32 → x0 < 2 ^ 8 → x0 ≡ byte_value here.memory.image s (wrapped (a + 0)) → x1 ≡ 0 → x2 ≡ 0 → x3 ≡ 0
    → (joined_bytes x0 x1 x2 x3 ≡ word_of here 1 s a) × (joined_bytes x0 x1 x2 x3 < 2 ^ 8)
joined_one here s a x0 x1 x2 x3 small l0 e0 e1 e2 e3 =
    let at : wrapped (a + 0) ≡ a = omega arith in
    let b0 : x0 ≡ byte_value here.memory.image s a = e0 ∙ ap (byte_value here.memory.image s) at in
    (omega (arith, loaded_one here.memory.image s a), omega arith)

joined_two : (here : Here) (s : State) (a x0 x1 x2 x3 : ℕ) → a < 2 ^ 32 → x0 < 2 ^ 8 → x1 < 2 ^ 8 → x0 ≡ byte_value here.memory.image s (wrapped (a + 0)) → x1 ≡ byte_value here.memory.image s (wrapped (a + 1)) → x2 ≡ 0 → x3 ≡ 0
    → (joined_bytes x0 x1 x2 x3 ≡ word_of here 2 s a) × (joined_bytes x0 x1 x2 x3 < 2 ^ 16)
joined_two here s a x0 x1 x2 x3 small l0 l1 e0 e1 e2 e3 =
    let at : wrapped (a + 0) ≡ a = omega arith in
    let b0 : x0 ≡ byte_value here.memory.image s a = e0 ∙ ap (byte_value here.memory.image s) at in
    (omega (arith, loaded_two here.memory.image s a), omega arith)

joined_four : (here : Here) (s : State) (a x0 x1 x2 x3 : ℕ) → a < 2 ^ 32 → x0 < 2 ^ 8 → x1 < 2 ^ 8 → x2 < 2 ^ 8 → x3 < 2 ^ 8
    → x0 ≡ byte_value here.memory.image s (wrapped (a + 0)) → x1 ≡ byte_value here.memory.image s (wrapped (a + 1)) → x2 ≡ byte_value here.memory.image s (wrapped (a + 2)) → x3 ≡ byte_value here.memory.image s (wrapped (a + 3))
    → (joined_bytes x0 x1 x2 x3 ≡ word_of here 4 s a) × (joined_bytes x0 x1 x2 x3 < 2 ^ 32)
joined_four here s a x0 x1 x2 x3 small l0 l1 l2 l3 e0 e1 e2 e3 =
    let at : wrapped (a + 0) ≡ a = omega arith in
    let last : wrapped (a + 3) ≡ wrapped (wrapped (a + 2) + 1) = omega arith in
    let b0 : x0 ≡ byte_value here.memory.image s a = e0 ∙ ap (byte_value here.memory.image s) at in
    let b3 : x3 ≡ byte_value here.memory.image s (wrapped (wrapped (a + 2) + 1)) = e3 ∙ ap (byte_value here.memory.image s) last in
    (omega (arith, loaded_four here.memory.image s a, loaded_two here.memory.image s a, loaded_two here.memory.image s (wrapped (a + 2))), omega arith)

pub joined_is : (here : Here) (s : State) (bytes a x0 x1 x2 x3 : ℕ) → IsAccessSize bytes → a < 2 ^ 32 → x0 < 2 ^ 8 → x1 < 2 ^ 8 → x2 < 2 ^ 8 → x3 < 2 ^ 8
    → x0 ≡ byte_of here bytes 0 s a → x1 ≡ byte_of here bytes 1 s a → x2 ≡ byte_of here bytes 2 s a → x3 ≡ byte_of here bytes 3 s a
    → (joined_bytes x0 x1 x2 x3 ≡ word_of here bytes s a) × (joined_bytes x0 x1 x2 x3 < 2 ^ (8 * bytes))
joined_is here s bytes a x0 x1 x2 x3 (inl e) small l0 l1 l2 l3 e0 e1 e2 e3 =
    let P : ℕ → Type 0 = λ n. (joined_bytes x0 x1 x2 x3 ≡ word_of here n s a) × (joined_bytes x0 x1 x2 x3 < 2 ^ (8 * n)) in
    let at : (k : ℕ) → byte_of here bytes k s a ≡ byte_of here 1 k s a = λ k. ap (λ n. byte_of here n k s a) e in
    subst P (sym e) (joined_one here s a x0 x1 x2 x3 small l0 (e0 ∙ at 0) (e1 ∙ at 1) (e2 ∙ at 2) (e3 ∙ at 3))
joined_is here s bytes a x0 x1 x2 x3 (inr (inl e)) small l0 l1 l2 l3 e0 e1 e2 e3 =
    let P : ℕ → Type 0 = λ n. (joined_bytes x0 x1 x2 x3 ≡ word_of here n s a) × (joined_bytes x0 x1 x2 x3 < 2 ^ (8 * n)) in
    let at : (k : ℕ) → byte_of here bytes k s a ≡ byte_of here 2 k s a = λ k. ap (λ n. byte_of here n k s a) e in
    subst P (sym e) (joined_two here s a x0 x1 x2 x3 small l0 l1 (e0 ∙ at 0) (e1 ∙ at 1) (e2 ∙ at 2) (e3 ∙ at 3))
joined_is here s bytes a x0 x1 x2 x3 (inr (inr e)) small l0 l1 l2 l3 e0 e1 e2 e3 =
    let P : ℕ → Type 0 = λ n. (joined_bytes x0 x1 x2 x3 ≡ word_of here n s a) × (joined_bytes x0 x1 x2 x3 < 2 ^ (8 * n)) in
    let at : (k : ℕ) → byte_of here bytes k s a ≡ byte_of here 4 k s a = λ k. ap (λ n. byte_of here n k s a) e in
    subst P (sym e) (joined_four here s a x0 x1 x2 x3 small l0 l1 l2 l3 (e0 ∙ at 0) (e1 ∙ at 1) (e2 ∙ at 2) (e3 ∙ at 3))
