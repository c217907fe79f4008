-- A node's value and width depend on those of its operands alone.
use Rattle.std.proofs.Common.{◌≡◌, ℕ, ◌<◌, refl}
use Rattle.bv_expr.specs.declared.q_node.QNode.{QNode}
use Rattle.bv_expr.specs.declared.q_node.QNode.TheVariants.{Constant, Input, Alu, Test, Not, Both, Pick, Join, Byte}
use Rattle.bv_expr.specs.Nodes.{node_value, node_width}
use Rattle.bv_expr.specs.Typing.{HasEarlier, IsTypedAt}

pub node_value-same : (env v w : ℕ → ℕ) (i : ℕ) (n : QNode) → HasEarlier i n → ((k : ℕ) → k < i → v k ≡ w k) → node_value env v n ≡ node_value env w n
node_value-same env v w i (Constant k x) e h = refl
node_value-same env v w i (Input k) e h = refl
node_value-same env v w i (Alu op a b) e h = rw (h a e.0) (rw (h b e.1) refl)
node_value-same env v w i (Test c a b) e h = rw (h a e.0) (rw (h b e.1) refl)
node_value-same env v w i (Not a) e h = rw (h a e) refl
node_value-same env v w i (Both a b) e h = rw (h a e.0) (rw (h b e.1) refl)
node_value-same env v w i (Pick p x y) e h = rw (h p e.0) (rw (h x e.1) (rw (h y e.2) refl))
node_value-same env v w i (Join a b c d) e h = rw (h a e.0) (rw (h b e.1) (rw (h c e.2) (rw (h d e.3) refl)))
node_value-same env v w i (Byte a k) e h = rw (h a e) refl

pub node_width-same : (v w : ℕ → ℕ) (i : ℕ) (n : QNode) → HasEarlier i n → ((k : ℕ) → k < i → v k ≡ w k) → node_width v n ≡ node_width w n
node_width-same v w i (Constant k x) e h = refl
node_width-same v w i (Input k) e h = refl
node_width-same v w i (Alu op a b) e h = refl
node_width-same v w i (Test c a b) e h = refl
node_width-same v w i (Not a) e h = refl
node_width-same v w i (Both a b) e h = refl
node_width-same v w i (Pick p x y) e h = h x e.1
node_width-same v w i (Join a b c d) e h = refl
node_width-same v w i (Byte a k) e h = refl

-- the operands of a node with the right ones are before it
pub typed_earlier : (ws : ℕ → ℕ) (i : ℕ) (n : QNode) → IsTypedAt ws i n → HasEarlier i n
typed_earlier ws i (Constant k x) t = tt
typed_earlier ws i (Input k) t = tt
typed_earlier ws i (Alu op a b) t = (t.0.0, t.1.0)
typed_earlier ws i (Test c a b) t = (t.0.0, t.1.0)
typed_earlier ws i (Not a) t = t.0
typed_earlier ws i (Both a b) t = (t.0.0, t.1.0)
typed_earlier ws i (Pick p x y) t = (t.0.0, t.1.0, t.2.0)
typed_earlier ws i (Join a b c d) t = (t.0.0, t.1.0, t.2.0, t.3.0)
typed_earlier ws i (Byte a k) t = t.0.0
