-- The words of bits taken together, of words joined, and of bytes.
use Rattle.std.proofs.Common.{◌≡◌, ℕ, ◌*◌, ◌%◌, ◌^◌, Bool, true, false, cond, List, [], ◌∷◌, ◌++◌, length, take, drop, get_or, Option, Some, refl, sym, ap, ◌∙◌, subst, arith}
use Rattle.std.specs.Prelude.{◌&&◌, nat_eq}
use Rattle.std.proofs.lemmas.List.{length-append, length-drop}
use Rattle.ct_words.specs.Words.{flag}
use Rattle.gate_form.specs.declared.wire.Wire.{Wire}
use Rattle.gate_form.specs.declared.wire.Gate.{Gate}
use Rattle.gate_form.specs.Net.{bit, AreIn}
use Rattle.bit_arith.specs.Number.{word}
use Rattle.bit_arith.proofs.WordLaws.{word-append, word-low, word-high, AreIn-append, AreIn-take, AreIn-drop}
use Rattle.bv_expr.specs.Nodes.{joined_bytes}
use Rattle.std.proofs.lemmas.Option.{same_Some}
use Rattle.bv_expr.specs.declared.q_node.QNode.{QNode}
use Rattle.bv_expr.specs.declared.q_node.QNode.TheVariants.{Both, Join, Byte}
use Rattle.bv_expr.specs.Nodes.{node_value}
use Rattle.bit_blast.specs.NodeWords.{IsOperandWord, IsReady, value_in}

pub one_bit : (g : ℕ → Bool) (w : Wire) → word g (w ∷ []) ≡ flag (bit g w)
one_bit g w = omega arith

pub first_bit : (g : ℕ → Bool) (ws : List Wire) (d : Wire) → length ws ≡ 1 → word g ws ≡ flag (bit g (get_or ws 0 d))
first_bit g [] d h = absurd (omega arith)
first_bit g (w ∷ []) d h = one_bit g w
first_bit g (w ∷ x ∷ ws) d h = absurd (omega arith)

both_flags : (p q : Bool) → flag (p && q) ≡ cond (nat_eq (flag p) 0) 0 (flag q)
both_flags true q = refl
both_flags false q = refl

record OperandFacts (gates : List Gate) (w : List Wire) (width : ℕ) : Type 0 where
  width_is : length w ≡ width
  inside : AreIn gates w

facts : (gates : List Gate) (words : ℕ → Option (List Wire)) (a width : ℕ) (w : List Wire) → IsOperandWord gates words a width → words a ≡ Some w → OperandFacts gates w width
facts gates words a width w is found =
    let same : is.wires ≡ w = same_Some _ _ (sym is.found ∙ found) in
    let P : List Wire → Type 0 = λ ws. OperandFacts gates ws width in
    subst P same (record { width_is = is.width_is; inside = is.inside })

value_found : (g : ℕ → Bool) (words : ℕ → Option (List Wire)) (v : ℕ → ℕ) (a : ℕ) (w : List Wire) → words a ≡ Some w → value_in g words v a ≡ word g w
value_found g words v a w found = rw found refl

both_of : (g : ℕ → Bool) (words : ℕ → Option (List Wire)) (v : ℕ → ℕ) (a b : ℕ) (wa wb out : List Wire) (w d e : Wire) → words a ≡ Some wa → words b ≡ Some wb → length wa ≡ 1 → length wb ≡ 1
    → bit g w ≡ (bit g (get_or wa 0 d) && bit g (get_or wb 0 e)) → out ≡ w ∷ [] → word g out ≡ cond (nat_eq (value_in g words v a) 0) 0 (value_in g words v b)
both_of g words v a b wa wb out w d e fa fb la lb is made =
    ap (word g) made ∙ one_bit g w ∙ ap flag is ∙ both_flags (bit g (get_or wa 0 d)) (bit g (get_or wb 0 e))
    ∙ ap (λ (x : ℕ). cond (nat_eq x 0) 0 (flag (bit g (get_or wb 0 e)))) (sym (first_bit g wa d la) ∙ sym (value_found g words v a wa fa))
    ∙ ap (λ (x : ℕ). cond (nat_eq (value_in g words v a) 0) 0 x) (sym (first_bit g wb e lb) ∙ sym (value_found g words v b wb fb))

pub both_value : (gates : List Gate) (env : ℕ → ℕ) (g : ℕ → Bool) (words : ℕ → Option (List Wire)) (v : ℕ → ℕ) (node : QNode) (a b : ℕ) (wa wb out : List Wire) (w d e : Wire) → node ≡ Both a b → IsReady gates words node → words a ≡ Some wa → words b ≡ Some wb
    → bit g w ≡ (bit g (get_or wa 0 d) && bit g (get_or wb 0 e)) → out ≡ w ∷ [] → word g out ≡ node_value env (value_in g words v) node
both_value gates env g words v node a b wa wb out w d e named ready fa fb is made =
    let P : QNode → Type 0 = λ n. IsReady gates words n in
    let both : IsReady gates words (Both a b) = subst P named ready in
    both_of g words v a b wa wb out w d e fa fb (facts gates words a 1 wa both.0 fa).width_is (facts gates words b 1 wb both.1 fb).width_is is made
    ∙ ap (λ n. node_value env (value_in g words v) n) (sym named)

joined_word : (g : ℕ → Bool) (w0 w1 w2 w3 : List Wire) → length w0 ≡ 8 → length w1 ≡ 8 → length w2 ≡ 8 → word g (w0 ++ w1 ++ w2 ++ w3) ≡ joined_bytes (word g w0) (word g w1) (word g w2) (word g w3)
joined_word g w0 w1 w2 w3 l0 l1 l2 =
    let long2 : length (w0 ++ w1) ≡ 16 = omega (arith, length-append w0 w1) in
    let long3 : length (w0 ++ w1 ++ w2) ≡ 24 = omega (arith, length-append (w0 ++ w1) w2) in
    word-append g (w0 ++ w1 ++ w2) w3 ∙ (rw long3 (rw (word-append g (w0 ++ w1) w2) (rw long2 (rw (word-append g w0 w1) (rw l0 (omega arith))))))

pub joined_value : (gates : List Gate) (env : ℕ → ℕ) (g : ℕ → Bool) (words : ℕ → Option (List Wire)) (v : ℕ → ℕ) (node : QNode) (b0 b1 b2 b3 : ℕ) (w0 w1 w2 w3 out : List Wire) → node ≡ Join b0 b1 b2 b3 → IsReady gates words node
    → words b0 ≡ Some w0 → words b1 ≡ Some w1 → words b2 ≡ Some w2 → words b3 ≡ Some w3 → out ≡ w0 ++ w1 ++ w2 ++ w3 → word g out ≡ node_value env (value_in g words v) node
joined_value gates env g words v node b0 b1 b2 b3 w0 w1 w2 w3 out named ready f0 f1 f2 f3 made =
    let P : QNode → Type 0 = λ n. IsReady gates words n in
    let bytes : IsReady gates words (Join b0 b1 b2 b3) = subst P named ready in
    ap (word g) made
    ∙ joined_word g w0 w1 w2 w3 (facts gates words b0 8 w0 bytes.0 f0).width_is (facts gates words b1 8 w1 bytes.1 f1).width_is (facts gates words b2 8 w2 bytes.2 f2).width_is
    ∙ (rw named (rw f0 (rw f1 (rw f2 (rw f3 refl)))))

pub joined_inside : (gates : List Gate) (words : ℕ → Option (List Wire)) (node : QNode) (b0 b1 b2 b3 : ℕ) (w0 w1 w2 w3 out : List Wire) → node ≡ Join b0 b1 b2 b3 → IsReady gates words node
    → words b0 ≡ Some w0 → words b1 ≡ Some w1 → words b2 ≡ Some w2 → words b3 ≡ Some w3 → out ≡ w0 ++ w1 ++ w2 ++ w3 → AreIn gates out
joined_inside gates words node b0 b1 b2 b3 w0 w1 w2 w3 out named ready f0 f1 f2 f3 made =
    let P : QNode → Type 0 = λ n. IsReady gates words n in
    let bytes : IsReady gates words (Join b0 b1 b2 b3) = subst P named ready in
    let Q : List Wire → Type 0 = λ ws. AreIn gates ws in
    subst Q (sym made) (AreIn-append gates (w0 ++ w1 ++ w2) w3
    (AreIn-append gates (w0 ++ w1) w2 (AreIn-append gates w0 w1 (facts gates words b0 8 w0 bytes.0 f0).inside (facts gates words b1 8 w1 bytes.1 f1).inside) (facts gates words b2 8 w2 bytes.2 f2).inside)
    (facts gates words b3 8 w3 bytes.3 f3).inside)

pub byte_value : (gates : List Gate) (env : ℕ → ℕ) (g : ℕ → Bool) (words : ℕ → Option (List Wire)) (v : ℕ → ℕ) (node : QNode) (a k : ℕ) (w out : List Wire) → node ≡ Byte a k → IsReady gates words node → words a ≡ Some w
    → out ≡ take 8 (drop (8 * k) w) → word g out ≡ node_value env (value_in g words v) node
byte_value gates env g words v node a k w out named ready found made =
    let P : QNode → Type 0 = λ n. IsReady gates words n in
    let of : IsReady gates words (Byte a k) = subst P named ready in
    let long : length w ≡ 32 = (facts gates words a 32 w of.0 found).width_is in
    ap (word g) made ∙ word-low g (drop (8 * k) w) 8 (omega (arith, length-drop (8 * k) w, of.1)) ∙ ap (λ (x : ℕ). x % 2 ^ 8) (word-high g w (8 * k) (omega (arith, of.1))) ∙ (rw named (rw found refl))

pub byte_inside : (gates : List Gate) (words : ℕ → Option (List Wire)) (node : QNode) (a k : ℕ) (w out : List Wire) → node ≡ Byte a k → IsReady gates words node → words a ≡ Some w → out ≡ take 8 (drop (8 * k) w) → AreIn gates out
byte_inside gates words node a k w out named ready found made =
    let P : QNode → Type 0 = λ n. IsReady gates words n in
    let of : IsReady gates words (Byte a k) = subst P named ready in
    let Q : List Wire → Type 0 = λ ws. AreIn gates ws in
    subst Q (sym made) (AreIn-take gates (drop (8 * k) w) 8 (AreIn-drop gates w (8 * k) (facts gates words a 32 w of.0 found).inside))
