-- Each value is below 2 to the power of its width.
use Rattle.std.proofs.Common.{◌≡◌, ℕ, zero, suc, ◌^◌, ◌<◌, Bool, true, false, cond, List, length, get_or, refl, sym, subst, arith}
use Rattle.std.specs.Prelude.{nat_eq}
use Rattle.std.proofs.lemmas.Option.{slice_get-get_or}
use Rattle.ct_words.specs.Words.{flag}
use Rattle.ct_words.proofs.Bounds.{alu_value_lt}
use Rattle.bv_expr.specs.declared.q_node.QNode.{QNode}
use Rattle.bv_expr.specs.declared.q_node.QNode.TheVariants.{Constant, Input, Alu, Test, Not, Both, Pick, Join, Byte}
use Rattle.bv_expr.specs.Nodes.{IsValuation, AreWidths, AreBytes, HasWidth, node_value, node_width}
use Rattle.bv_expr.specs.Typing.{IsTyped, IsTypedAt}
use Rattle.bv_expr.proofs.Widths.{front_widths}
use Rattle.bv_expr.proofs.Valuing.{widths_exist}

flag_lt : (b : Bool) → flag b < 2 ^ 1
flag_lt true = omega arith
flag_lt false = omega arith

pub chosen_lt : (b : Bool) (x y m : ℕ) → x < m → y < m → cond b x y < m
chosen_lt true x y m h g = h
chosen_lt false x y m h g = g

at_width : (x a b : ℕ) → a ≡ b → x < 2 ^ a → x < 2 ^ b
at_width x a b e h = let P : ℕ → Type 0 = λ w. x < 2 ^ w in subst P e h

pub node_fits : (env v ws : ℕ → ℕ) (i : ℕ) (n : QNode) → ((k : ℕ) → n ≡ Input k → env k < 2 ^ 8) → IsTypedAt ws i n → ((j : ℕ) → j < i → v j < 2 ^ ws j) → node_value env v n < 2 ^ node_width ws n
node_fits env v ws i (Constant w x) bytes t h = t.1
node_fits env v ws i (Input k) bytes t h = bytes k refl
node_fits env v ws i (Alu op a b) bytes t h = alu_value_lt op (v a) (v b) (at_width (v a) (ws a) 32 t.0.1 (h a t.0.0)) (at_width (v b) (ws b) 32 t.1.1 (h b t.1.0))
node_fits env v ws i (Test c a b) bytes t h = flag_lt _
node_fits env v ws i (Not a) bytes t h = flag_lt _
node_fits env v ws i (Both a b) bytes t h = chosen_lt (nat_eq (v a) 0) 0 (v b) (2 ^ 1) (omega arith) (at_width (v b) (ws b) 1 t.1.1 (h b t.1.0))
node_fits env v ws i (Pick p x y) bytes t h = chosen_lt (nat_eq (v p) 0) (v y) (v x) (2 ^ ws x) (at_width (v y) (ws y) (ws x) (sym t.1.1) (h y t.2.0)) (h x t.1.0)
node_fits env v ws i (Join a b c d) bytes t h =
    let pa = at_width (v a) (ws a) 8 t.0.1 (h a t.0.0) in
    let pb = at_width (v b) (ws b) 8 t.1.1 (h b t.1.0) in
    let pc = at_width (v c) (ws c) 8 t.2.1 (h c t.2.0) in
    let pd = at_width (v d) (ws d) 8 t.3.1 (h d t.3.0) in
    omega arith
node_fits env v ws i (Byte a k) bytes t h = omega arith

fits_until : (env v ws : ℕ → ℕ) (nodes : List QNode) → AreBytes env → IsTyped nodes → IsValuation env v nodes → AreWidths ws nodes → (k i : ℕ) → i < k → i < length nodes → v i < 2 ^ ws i
fits_until env v ws nodes bytes typed run widths zero i lt here = absurd (omega arith)
fits_until env v ws nodes bytes typed run widths (suc k) i lt here =
    let n = get_or nodes i (Input 0) in
    let at = slice_get-get_or nodes i (Input 0) here in
    let fits = node_fits env v ws i n (λ k _. bytes k) (typed.at i n at ws (front_widths ws nodes i widths)) (λ j l. fits_until env v ws nodes bytes typed run widths k j (omega arith) (omega arith)) in
    rw (run.at i n at) (rw (widths.at i n at) fits)

pub value_fits : (env v : ℕ → ℕ) (nodes : List QNode) → AreBytes env → IsTyped nodes → IsValuation env v nodes → (i w : ℕ) → HasWidth nodes i w → v i < 2 ^ w
value_fits env v nodes bytes typed run i w has =
    at_width (v i) _ w (has.is _ (widths_exist nodes typed)) (fits_until env v _ nodes bytes typed run (widths_exist nodes typed) (suc i) i (omega arith) has.inside)
