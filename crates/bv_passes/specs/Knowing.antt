-- When the pass `KnownBits` answers a constant.
use Rattle.std.specs.Prelude.{◌≡◌, ℕ, ◌+◌, ◌-◌, ◌^◌, ◌<◌, ◌≤◌, List, length, Some, slice_get, slice_index, Contains}
use Rattle.bv_expr.specs.Walk.{operands_of_node}
use Rattle.bv_expr.specs.Nodes.{HasWidth}
use Rattle.bv_expr.specs.declared.q_node.QNode.{QNode}
use Rattle.bv_expr.specs.declared.q_node.QNode.TheVariants.{Constant}
use Rattle.bv_range.specs.Fixed.{Fixed, fixed_of}

-- the list has the operands of each of its nodes
abbrev pub IsClosed : List QNode → List ℕ → Type 0
IsClosed nodes list = (i : ℕ) (n : QNode) → Contains list i → slice_get nodes i ≡ Some n → (a : ℕ) → Contains (operands_of_node n) a → Contains list a

-- node i and the nodes on which it depends are at most m, each counted once
pub record HasFewNodes (nodes : List QNode) (m i : ℕ) : Type 0 where
  pub list : List ℕ
  pub few : length list ≤ m
  pub itself : Contains list i
  pub closed : IsClosed nodes list

-- each of w bits is fixed
abbrev pub AreAllFixed : ℕ → Fixed → Type 0
AreAllFixed w bits = bits.zeros + bits.ones ≡ 2 ^ w - 1

-- where the operations of node i alone fix its bits, and it depends on few nodes, the answer is the constant of these bits
abbrev pub IsFixedAnswer : List QNode → List QNode → ℕ → ℕ → ℕ → Type 0
IsFixedAnswer old new m i answer = (w : ℕ) → HasWidth old i w → HasFewNodes old m i → AreAllFixed w (fixed_of old i) → slice_get new answer ≡ Some (Constant w (fixed_of old i).ones)

-- node i and the nodes on which it depends, as far as they are seen: the first of them were looked at
pub record IsLooking (nodes : List QNode) (i : ℕ) (seen : List ℕ) (looked : ℕ) : Type 0 where
  pub within : looked ≤ length seen
  pub inside : (k : ℕ) → Contains seen k → k < length nodes
  pub itself : Contains seen i
  pub finished : (k : ℕ) → k < looked → (n : QNode) → slice_get nodes (slice_index seen k) ≡ Some n → (a : ℕ) → Contains (operands_of_node n) a → Contains seen a
  pub needed : (list : List ℕ) → IsClosed nodes list → Contains list i → (k : ℕ) → Contains seen k → Contains list k
