-- Ranges of nodes, from those of their operands.
use Rattle.std.proofs.Common.{◌≡◌, ℕ, ◌-◌, ◌%◌, ◌^◌, ◌<◌, List, Some, arith, refl, sym, ◌∙◌, subst}
use Rattle.std.specs.Prelude.{slice_get, slice_index}
use Rattle.std.proofs.Math.Nat.{mod-eq_of_lt}
use Rattle.ct_words.specs.Words.{alu_value, test_value, flag}
use Rattle.ct_words.specs.declared.alu_op.AluOp.{AluOp}
use Rattle.ct_words.specs.declared.cond.Cond.{Cond}
use Rattle.bv_expr.specs.Nodes.{AreWidths, HasWidth}
use Rattle.bv_expr.specs.Typing.{IsTyped, HaveOneWidth}
use Rattle.bv_expr.specs.Valuations.{values_of}
use Rattle.bv_expr.specs.declared.q_node.QNode.{QNode}
use Rattle.bv_expr.specs.declared.q_node.QNode.TheVariants.{Constant, Input, Alu, Test, Not, Both, Pick, Join, Byte}
use Rattle.bv_expr.proofs.Valuing.{values_exist, widths_exist}
use Rattle.bv_expr.proofs.Fits.{value_fits}
use Rattle.bv_range.specs.Known.{HasBits, IsShaped, IsProper}
use Rattle.bv_range.specs.Fixed.{alu_fixed}
use Rattle.bv_range.specs.Rules.{IsSettled, IsWordRule, IsTestRule, IsNotRule, IsBothRule, IsPickRule, IsJoinRule, IsByteRule}
use Rattle.bv_range.specs.Remembered.{IsRangeOf}
use Rattle.bv_range.specs.declared.range.Range.{Range}
use Rattle.bv_range.proofs.Rules.{no_bits, none_held}
use Rattle.bv_range.proofs.SumLaws.{low_known}

-- a right range of a node is one of its width, and some number lies in it
pub proper : (nodes : List QNode) (i w : ℕ) (r : Range) → IsTyped nodes → HasWidth nodes i w → IsRangeOf nodes i r → IsProper w r
proper nodes i w r typed has is =
    let widths = widths_exist nodes typed in
    let S : ℕ → Type 0 = λ k. IsShaped k r in
    let none : ℕ → ℕ = λ k. 0 in
    let within = is.right none (slice_index (values_of none nodes)) (λ k. omega arith) (values_exist none nodes typed) in
    record { shape = subst S (has.is _ widths) (is.shape _ widths); filled = omega (arith, within.least, within.most) }

pub constant_node : (nodes : List QNode) (i w x : ℕ) (r : Range) → slice_get nodes i ≡ Some (Constant w x) → x < 2 ^ w → IsSettled w (2 ^ w - 1 - x) x x x r → IsRangeOf nodes i r
constant_node nodes i w x r at lt done =
    let low : x % 2 ^ w ≡ x = mod-eq_of_lt lt in
    let B : ℕ → Type 0 = λ k. HasBits (2 ^ w - 1 - k) k x in
    record {
      right = λ env v bytes run. rw (run.at i (Constant w x) at) (done.right x lt (subst B low (low_known w x x refl)) (omega arith) (omega arith));
      shape = λ ws p. rw (p.at i (Constant w x) at) done.shape;
      bits = λ f p. rw (p.at i (Constant w x) at) (record { zeros = done.has_zeros; ones = done.has_ones });
    }

pub input_node : (nodes : List QNode) (i k : ℕ) (r : Range) → slice_get nodes i ≡ Some (Input k) → IsSettled 8 0 0 0 (2 ^ 8 - 1) r → IsRangeOf nodes i r
input_node nodes i k r at done = record {
  right = λ env v bytes run. (let lt = bytes k in rw (run.at i (Input k) at) (done.right (env k) lt (no_bits _) (omega arith) (omega (arith, lt))));
  shape = λ ws p. rw (p.at i (Input k) at) done.shape;
  bits = λ f p. rw (p.at i (Input k) at) (none_held r);
}

pub alu_node : (nodes : List QNode) (i a b : ℕ) (op : AluOp) (ra rb r : Range) → IsTyped nodes → slice_get nodes i ≡ Some (Alu op a b) → HasWidth nodes a 32 → HasWidth nodes b 32
    → IsRangeOf nodes a ra → IsRangeOf nodes b rb → IsWordRule (alu_value op) (alu_fixed op) ra rb r → IsRangeOf nodes i r
alu_node nodes i a b op ra rb r typed at wa wb ha hb rule = record {
  right = λ env v bytes run. rw (run.at i (Alu op a b) at)
      (rule.right (v a) (v b) (value_fits env v nodes bytes typed run a 32 wa) (value_fits env v nodes bytes typed run b 32 wb) (ha.right env v bytes run) (hb.right env v bytes run));
  shape = λ ws p. rw (p.at i (Alu op a b) at) rule.shape;
  bits = λ f p. rw (p.at i (Alu op a b) at) (rule.bits (f a) (f b) (proper nodes b 32 rb typed wb hb) (ha.bits f p) (hb.bits f p));
}

pub test_node : (nodes : List QNode) (i a b : ℕ) (c : Cond) (ra rb r : Range) → slice_get nodes i ≡ Some (Test c a b)
    → IsRangeOf nodes a ra → IsRangeOf nodes b rb → IsTestRule (λ x y. flag (test_value c x y)) ra rb r → IsRangeOf nodes i r
test_node nodes i a b c ra rb r at ha hb rule = record {
  right = λ env v bytes run. rw (run.at i (Test c a b) at) (rule.right (v a) (v b) (ha.right env v bytes run) (hb.right env v bytes run));
  shape = λ ws p. rw (p.at i (Test c a b) at) rule.shape;
  bits = λ f p. rw (p.at i (Test c a b) at) (none_held r);
}

pub not_node : (nodes : List QNode) (i a : ℕ) (ra r : Range) → IsTyped nodes → slice_get nodes i ≡ Some (Not a) → HasWidth nodes a 1 → IsRangeOf nodes a ra → IsNotRule ra r → IsRangeOf nodes i r
not_node nodes i a ra r typed at wa ha rule = record {
  right = λ env v bytes run. rw (run.at i (Not a) at) (rule.right (v a) (value_fits env v nodes bytes typed run a 1 wa) (ha.right env v bytes run));
  shape = λ ws p. rw (p.at i (Not a) at) rule.shape;
  bits = λ f p. rw (p.at i (Not a) at) (none_held r);
}

pub both_node : (nodes : List QNode) (i a b : ℕ) (ra rb r : Range) → IsTyped nodes → slice_get nodes i ≡ Some (Both a b) → HasWidth nodes a 1 → HasWidth nodes b 1
    → IsRangeOf nodes a ra → IsRangeOf nodes b rb → IsBothRule ra rb r → IsRangeOf nodes i r
both_node nodes i a b ra rb r typed at wa wb ha hb rule = record {
  right = λ env v bytes run. rw (run.at i (Both a b) at)
      (rule.right (v a) (v b) (value_fits env v nodes bytes typed run a 1 wa) (value_fits env v nodes bytes typed run b 1 wb) (ha.right env v bytes run) (hb.right env v bytes run));
  shape = λ ws p. rw (p.at i (Both a b) at) rule.shape;
  bits = λ f p. rw (p.at i (Both a b) at) (none_held r);
}

-- both sides of a choice have its width
pub sides : (nodes : List QNode) (i w c a b : ℕ) → HasWidth nodes i w → slice_get nodes i ≡ Some (Pick c a b) → HaveOneWidth nodes a b → HasWidth nodes a w × HasWidth nodes b w
sides nodes i w c a b has at one =
    let left : (ws : ℕ → ℕ) → AreWidths ws nodes → ws a ≡ w = λ ws p. sym (p.at i (Pick c a b) at) ∙ has.is ws p in
    (record { inside = one.left; is = left }, record { inside = one.right; is = λ ws p. sym (one.same ws p) ∙ left ws p })

pub pick_node : (nodes : List QNode) (i w c a b : ℕ) (rc ra rb r : Range) → IsTyped nodes → slice_get nodes i ≡ Some (Pick c a b) → HasWidth nodes i w → HaveOneWidth nodes a b
    → IsRangeOf nodes c rc → IsRangeOf nodes a ra → IsRangeOf nodes b rb → IsPickRule w rc ra rb r → IsRangeOf nodes i r
pick_node nodes i w c a b rc ra rb r typed at has one hc ha hb rule =
    let both = sides nodes i w c a b has at one in
    record {
      right = λ env v bytes run. rw (run.at i (Pick c a b) at)
          (rule.right (v c) (v a) (v b) (value_fits env v nodes bytes typed run a w both.0) (value_fits env v nodes bytes typed run b w both.1) (hc.right env v bytes run) (ha.right env v bytes run) (hb.right env v bytes run));
      shape = λ ws p. rw (has.is ws p) rule.shape;
      bits = λ f p. rw (p.at i (Pick c a b) at) (none_held r);
    }

pub join_node : (nodes : List QNode) (i a b c d : ℕ) (ra rb rc rd r : Range) → IsTyped nodes → slice_get nodes i ≡ Some (Join a b c d) → HasWidth nodes a 8 × HasWidth nodes b 8 × HasWidth nodes c 8 × HasWidth nodes d 8
    → IsRangeOf nodes a ra → IsRangeOf nodes b rb → IsRangeOf nodes c rc → IsRangeOf nodes d rd → IsJoinRule ra rb rc rd r → IsRangeOf nodes i r
join_node nodes i a b c d ra rb rc rd r typed at w ha hb hc hd rule = record {
  right = λ env v bytes run.
      let small : (j : ℕ) → HasWidth nodes j 8 → v j < 2 ^ 8 = λ j h. value_fits env v nodes bytes typed run j 8 h in
      rw (run.at i (Join a b c d) at) (rule.right (v a) (v b) (v c) (v d) (small a w.0) (small b w.1) (small c w.2) (small d w.3)
      (ha.right env v bytes run) (hb.right env v bytes run) (hc.right env v bytes run) (hd.right env v bytes run));
  shape = λ ws p. rw (p.at i (Join a b c d) at) rule.shape;
  bits = λ f p. rw (p.at i (Join a b c d) at) (rule.bits (f a) (f b) (f c) (f d) (ha.bits f p) (hb.bits f p) (hc.bits f p) (hd.bits f p));
}

pub byte_node : (nodes : List QNode) (i a k : ℕ) (ra r : Range) → slice_get nodes i ≡ Some (Byte a k) → IsRangeOf nodes a ra → IsByteRule k ra r → IsRangeOf nodes i r
byte_node nodes i a k ra r at ha rule = record {
  right = λ env v bytes run. rw (run.at i (Byte a k) at) (rule.right (v a) (ha.right env v bytes run));
  shape = λ ws p. rw (p.at i (Byte a k) at) rule.shape;
  bits = λ f p. rw (p.at i (Byte a k) at) (rule.bits (f a) (ha.bits f p));
}
