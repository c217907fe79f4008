-- The fixed bits of all nodes.
use Rattle.std.proofs.Common.{◌≡◌, ℕ, ◌<◌, List, refl}
use Rattle.bv_expr.specs.declared.q_node.QNode.{QNode}
use Rattle.bv_expr.specs.declared.q_node.QNode.TheVariants.{Constant, Input, Alu, Test, Not, Both, Pick, Join, Byte}
use Rattle.bv_expr.specs.Typing.{IsTyped, HasEarlier}
use Rattle.bv_expr.proofs.Valuing.{gathered_at}
use Rattle.bv_range.specs.Fixed.{Fixed, none_fixed, node_fixed, AreFixed, fixed_of}

same : (v w : ℕ → Fixed) (i : ℕ) (n : QNode) → HasEarlier i n → ((k : ℕ) → k < i → v k ≡ w k) → node_fixed v n ≡ node_fixed w n
same v w i (Constant k x) e h = refl
same v w i (Input k) e h = refl
same v w i (Alu op a b) e h = rw (h a e.0) (rw (h b e.1) refl)
same v w i (Test c a b) e h = refl
same v w i (Not a) e h = refl
same v w i (Both a b) e h = refl
same v w i (Pick p x y) e h = refl
same v w i (Join a b c d) e h = rw (h a e.0) (rw (h b e.1) (rw (h c e.2) (rw (h d e.3) refl)))
same v w i (Byte a k) e h = rw (h a e) refl

-- the nodes have fixed bits
pub fixed_exist : (nodes : List QNode) → IsTyped nodes → AreFixed (fixed_of nodes) nodes
fixed_exist nodes typed = record { at = gathered_at none_fixed node_fixed (record { same = same }) nodes typed.earlier }
