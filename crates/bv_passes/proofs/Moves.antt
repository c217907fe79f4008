-- Two shifts the same way, on plain numbers.
use Rattle.std.proofs.Common.{◌≡◌, ℕ, ◌+◌, ◌-◌, ◌*◌, ◌/◌, ◌%◌, ◌^◌, ◌<◌, ◌≤◌, Bool, true, false, List, Some, ap, refl, sym, ◌∙◌, subst, inl, inr, arith, nat_lt}
use Rattle.std.specs.Prelude.{slice_get, ◌⊎◌, ◌&&◌, ◌||◌, if◌then◌else◌}
use Rattle.std.specs.Option.{option_map_or}
use Rattle.std.proofs.Math.Nat.{mod-eq_of_lt, div-eq_of_lt, div-div-eq-div-mul, mul-mod_left, mul_assoc}
use Rattle.std.proofs.lemmas.Nat.{pow-add, mul-mod_first, pow_pos}
use Rattle.std.proofs.lemmas.Bool.{ltb-true, ltb-false}
use Rattle.ct_words.specs.Words.{alu_value}
use Rattle.ct_words.specs.declared.alu_op.AluOp.{AluOp}
use Rattle.ct_words.specs.declared.alu_op.AluOp.TheVariants.{Sll, Srl}
use Rattle.bv_expr.specs.declared.q_node.QNode.{QNode}
use Rattle.bv_expr.specs.declared.q_node.QNode.TheVariants.{Alu}
use Rattle.bv_expr.specs.Nodes.{IsValuation, AreBytes, HasWidth}
use Rattle.bv_passes.specs.declared.rewrite.Operand.TheVariants.{Node, Word}
use Rattle.bv_passes.specs.declared.rewrite.Rewrite.TheVariants.{Number, Operation}
use Rattle.bv_passes.specs.Rewriting.{IsRight, IsOther}
use Rattle.bv_passes.specs.Shifting.{is_left, is_right, is_same_way, one_shift}
use Rattle.bv_passes.proofs.Units.{none_true}

-- shifting by c + d bits is shifting by c and then by d, and nothing is left of 32 bits
record AreJoined (op inner : AluOp) (c d : ℕ) : Type 0 where
  pub few : c + d < 32 → (x : ℕ) → alu_value op x (c + d) ≡ alu_value op (alu_value inner x c) d
  pub many : 32 ≤ c + d → (x : ℕ) → x < 2 ^ 32 → 0 ≡ alu_value op (alu_value inner x c) d

no_bits_up : (x k : ℕ) → 32 ≤ k → (x * 2 ^ k) % 2 ^ 32 ≡ 0
no_bits_up x k le =
    let far : k ≡ (k - 32) + 32 = omega arith in
    let power : 2 ^ k ≡ 2 ^ (k - 32) * 2 ^ 32 = ap (λ n. 2 ^ n) far ∙ pow-add 2 (k - 32) 32 in
    rw power (rw (← mul_assoc x (2 ^ (k - 32)) (2 ^ 32)) (mul-mod_left (x * 2 ^ (k - 32)) (2 ^ 32)))

no_bits_down : (x k : ℕ) → x < 2 ^ 32 → 32 ≤ k → x / 2 ^ k ≡ 0
no_bits_down x k lt le =
    let far : k ≡ 32 + (k - 32) = omega arith in
    let power : 2 ^ k ≡ 2 ^ 32 * 2 ^ (k - 32) = ap (λ n. 2 ^ n) far ∙ pow-add 2 32 (k - 32) in
    rw power (rw (← div-div-eq-div-mul x (2 ^ 32) (2 ^ (k - 32))) (rw (div-eq_of_lt lt) (div-eq_of_lt (pow_pos (k - 32)))))

joined_up : (c d : ℕ) → c < 32 → d < 32 → AreJoined Sll Sll c d
unfolding alu_value
joined_up c d lc ld =
    let ec : c % 32 ≡ c = mod-eq_of_lt lc in
    let ed : d % 32 ≡ d = mod-eq_of_lt ld in
    let all : (x : ℕ) → (x * 2 ^ (c + d)) % 2 ^ 32 ≡ (((x * 2 ^ (c % 32)) % 2 ^ 32) * 2 ^ (d % 32)) % 2 ^ 32
    = λ x. rw ec (rw ed (sym (mul-mod_first (x * 2 ^ c) (2 ^ d) (2 ^ 32) ∙ ap (λ n. n % 2 ^ 32) (mul_assoc x (2 ^ c) (2 ^ d) ∙ ap (λ n. x * n) (sym (pow-add 2 c d)))))) in
    record {
      few = λ lt x. let e : (c + d) % 32 ≡ c + d = mod-eq_of_lt lt in rw e (all x);
      many = λ le x lt. sym (no_bits_up x (c + d) le) ∙ all x;
    }

joined_down : (c d : ℕ) → c < 32 → d < 32 → AreJoined Srl Srl c d
unfolding alu_value
joined_down c d lc ld =
    let ec : c % 32 ≡ c = mod-eq_of_lt lc in
    let ed : d % 32 ≡ d = mod-eq_of_lt ld in
    let all : (x : ℕ) → x / 2 ^ (c + d) ≡ x / 2 ^ (c % 32) / 2 ^ (d % 32)
    = λ x. rw ec (rw ed (sym (div-div-eq-div-mul x (2 ^ c) (2 ^ d) ∙ ap (λ n. x / n) (sym (pow-add 2 c d))))) in
    record {
      few = λ lt x. let e : (c + d) % 32 ≡ c + d = mod-eq_of_lt lt in rw e (all x);
      many = λ le x lt. sym (no_bits_down x (c + d) lt le) ∙ all x;
    }

left_is : (op : AluOp) → is_left op ≡ true → op ≡ Sll
left_is Sll h = refl
left_is _ h = none_true h

right_is : (op : AluOp) → is_right op ≡ true → op ≡ Srl
right_is Srl h = refl
right_is _ h = none_true h

both_ways : (p q r s : Bool) → ((p && q) || (r && s)) ≡ true → ((p ≡ true) × (q ≡ true)) ⊎ ((r ≡ true) × (s ≡ true))
both_ways true true r s h = inl (refl, refl)
both_ways p q true true h = inr (refl, refl)
both_ways _ _ _ _ h = none_true h

same_way : (op inner : AluOp) (c d : ℕ) → is_same_way op inner ≡ true → c < 32 → d < 32 → AreJoined op inner c d
same_way op inner c d h lc ld =
    let P : AluOp → AluOp → Type 0 = λ p q. AreJoined p q c d in
    let L : AluOp → Type 0 = λ q. AreJoined Sll q c d in
    let R : AluOp → Type 0 = λ q. AreJoined Srl q c d in
    let Q : AluOp → Type 0 = λ p. AreJoined p inner c d in
    elim (both_ways (is_left op) (is_left inner) (is_right op) (is_right inner) h) [
      | inl e ↦ subst Q (sym (left_is op e.0)) (subst L (sym (left_is inner e.1)) (joined_up c d lc ld))
      | inr e ↦ subst Q (sym (right_is op e.0)) (subst R (sym (right_is inner e.1)) (joined_down c d lc ld))
    ]

one_or_none : (nodes : List QNode) (op inner : AluOp) (at x c d : ℕ) (few : Bool) → nat_lt (c + d) 32 ≡ few → AreJoined op inner c d → c < 32 → d < 32 → HasWidth nodes x 32
    → ((env v : ℕ → ℕ) → AreBytes env → IsValuation env v nodes → v x < 2 ^ 32)
    → ((env v : ℕ → ℕ) → IsValuation env v nodes → v at ≡ alu_value inner (v x) c)
    → IsRight nodes 32 (λ v. alu_value op (v at) d) (if few then Operation op (Node x) (Word (c + d)) else Number 0)
one_or_none nodes op inner at x c d true h joined lc ld wide fits is = record {
  parts = (refl, wide, omega arith);
  values = λ env v bytes run. rw (is env v run) (joined.few (ltb-true (c + d) 32 h) (v x));
}
one_or_none nodes op inner at x c d false h joined lc ld wide fits is = record {
  parts = omega arith;
  values = λ env v bytes run. rw (is env v run) (joined.many (ltb-false (c + d) 32 h) (v x) (fits env v bytes run));
}

-- one shift has the value of two the same way
pub one_shift_right : (nodes : List QNode) (op inner : AluOp) (at x b c d : ℕ) → is_same_way op inner ≡ true → c < 32 → d < 32 → slice_get nodes at ≡ Some (Alu inner x b) → HasWidth nodes x 32
    → ((env v : ℕ → ℕ) → AreBytes env → IsValuation env v nodes → v x < 2 ^ 32)
    → ((env v : ℕ → ℕ) → IsValuation env v nodes → v b ≡ c)
    → IsRight nodes 32 (λ v. alu_value op (v at) d) (one_shift op x c d)
one_shift_right nodes op inner at x b c d same lc ld node wide fits amount =
    one_or_none nodes op inner at x c d (nat_lt (c + d) 32) refl (same_way op inner c d same lc ld) lc ld wide fits
    (λ env v run. run.at at (Alu inner x b) node ∙ ap (alu_value inner (v x)) (amount env v run))

-- the word that an operation has on its left
left_side : QNode → ℕ
left_side (Alu op a b) = a
left_side _ = 0

apart : (nodes : List QNode) (op p : AluOp) (at x b m i : ℕ) {P : Type 0} → x < at → slice_get nodes i ≡ Some (Alu op at b) → slice_get nodes i ≡ Some (Alu p x m) → P
unfolding left_side
apart nodes op p at x b m i lt h g =
    let same : at ≡ x = ap (λ o. option_map_or left_side o 0) (sym h ∙ g) in absurd (omega (arith, lt, same))

other_or_none : (nodes : List QNode) (op : AluOp) (at x c d i b : ℕ) (few : Bool) → x < at → slice_get nodes i ≡ Some (Alu op at b)
    → IsOther nodes i (if few then Operation op (Node x) (Word (c + d)) else Number 0)
other_or_none nodes op at x c d i b true lt h = λ p m g. apart nodes op p at x b m i lt h g
other_or_none nodes op at x c d i b false lt h = tt

-- one shift is another node than the shift of a shift
pub one_shift_other : (nodes : List QNode) (op : AluOp) (at x c d i b : ℕ) → x < at → slice_get nodes i ≡ Some (Alu op at b) → IsOther nodes i (one_shift op x c d)
one_shift_other nodes op at x c d i b lt h = other_or_none nodes op at x c d i b (nat_lt (c + d) 32) lt h
