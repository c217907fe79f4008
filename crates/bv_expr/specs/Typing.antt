-- Which operands each kind of node asks for.
use Rattle.std.specs.Prelude.{◌≡◌, ◌⊎◌, ℕ, ◌^◌, ◌<◌, List, length, take, Some, slice_get, slice_index}
use Rattle.bv_expr.specs.Nodes.{AreWidths, HasWidth}
use Rattle.bv_expr.specs.declared.q_node.QNode.{QNode}
use Rattle.bv_expr.specs.declared.q_node.QNode.TheVariants.{Constant, Input, Alu, Test, Not, Both, Pick, Join, Byte}

-- the widths that there are
abbrev pub IsWidth : ℕ → Type 0
IsWidth w = (w ≡ 1) ⊎ (w ≡ 8) ⊎ (w ≡ 32)

-- node a is before node i and has the width w
abbrev pub IsOperand : (ℕ → ℕ) → ℕ → ℕ → ℕ → Type 0
IsOperand ws i a w = (a < i) × (ws a ≡ w)

-- the operands of node i are before it and have the widths, by ws, that its kind asks for
abbrev pub IsTypedAt : (ℕ → ℕ) → ℕ → QNode → Type 0
IsTypedAt ws i (Constant width value) = IsWidth width × (value < 2 ^ width)
IsTypedAt ws i (Input variable) = Unit {0}
IsTypedAt ws i (Alu op a b) = IsOperand ws i a 32 × IsOperand ws i b 32
IsTypedAt ws i (Test cond a b) = IsOperand ws i a 32 × IsOperand ws i b 32
IsTypedAt ws i (Not a) = IsOperand ws i a 1
IsTypedAt ws i (Both a b) = IsOperand ws i a 1 × IsOperand ws i b 1
IsTypedAt ws i (Pick when true_side false_side) = IsOperand ws i when 1 × IsOperand ws i true_side (ws false_side) × IsOperand ws i false_side (ws false_side)
IsTypedAt ws i (Join b0 b1 b2 b3) = IsOperand ws i b0 8 × IsOperand ws i b1 8 × IsOperand ws i b2 8 × IsOperand ws i b3 8
IsTypedAt ws i (Byte word k) = IsOperand ws i word 32 × (k < 4)

-- the operands of node i are before it
abbrev pub HasEarlier : ℕ → QNode → Type 0
HasEarlier i (Constant width value) = Unit {0}
HasEarlier i (Input variable) = Unit {0}
HasEarlier i (Alu op a b) = (a < i) × (b < i)
HasEarlier i (Test cond a b) = (a < i) × (b < i)
HasEarlier i (Not a) = a < i
HasEarlier i (Both a b) = (a < i) × (b < i)
HasEarlier i (Pick when true_side false_side) = (when < i) × (true_side < i) × (false_side < i)
HasEarlier i (Join b0 b1 b2 b3) = (b0 < i) × (b1 < i) × (b2 < i) × (b3 < i)
HasEarlier i (Byte word k) = word < i

-- each node has the operands that its kind asks for
pub record IsTyped (nodes : List QNode) : Type 0 where
  pub earlier : (i : ℕ) (n : QNode) → slice_get nodes i ≡ Some n → HasEarlier i n
  pub at : (i : ℕ) (n : QNode) → slice_get nodes i ≡ Some n → (ws : ℕ → ℕ) → AreWidths ws (take i nodes) → IsTypedAt ws i n

-- nodes a and b are in the list and have one width
pub record HaveOneWidth (nodes : List QNode) (a b : ℕ) : Type 0 where
  pub left : a < length nodes
  pub right : b < length nodes
  pub same : (ws : ℕ → ℕ) → AreWidths ws nodes → ws a ≡ ws b

-- the operands of n are among the nodes and have the widths that its kind asks for
abbrev pub HasOperands : List QNode → QNode → Type 0
HasOperands nodes (Constant width value) = IsWidth width × (value < 2 ^ width)
HasOperands nodes (Input variable) = Unit {0}
HasOperands nodes (Alu op a b) = HasWidth nodes a 32 × HasWidth nodes b 32
HasOperands nodes (Test cond a b) = HasWidth nodes a 32 × HasWidth nodes b 32
HasOperands nodes (Not a) = HasWidth nodes a 1
HasOperands nodes (Both a b) = HasWidth nodes a 1 × HasWidth nodes b 1
HasOperands nodes (Pick when true_side false_side) = HasWidth nodes when 1 × HaveOneWidth nodes true_side false_side
HasOperands nodes (Join b0 b1 b2 b3) = HasWidth nodes b0 8 × HasWidth nodes b1 8 × HasWidth nodes b2 8 × HasWidth nodes b3 8
HasOperands nodes (Byte word k) = HasWidth nodes word 32 × (k < 4)

-- no two nodes are equal
abbrev pub AreDifferent : List QNode → Type 0
AreDifferent nodes = (i j : ℕ) (n : QNode) → slice_get nodes i ≡ Some n → slice_get nodes j ≡ Some n → i ≡ j

-- a value is there for each operand, and those that are joined are bytes
abbrev pub CanEvaluate : List ℕ → QNode → Type 0
CanEvaluate values (Join b0 b1 b2 b3) = HasEarlier (length values) (Join b0 b1 b2 b3) × (slice_index values b0 < 2 ^ 8) × (slice_index values b1 < 2 ^ 8) × (slice_index values b2 < 2 ^ 8) × (slice_index values b3 < 2 ^ 8)
CanEvaluate values (Byte word k) = (word < length values) × (k < 4)
CanEvaluate values n = HasEarlier (length values) n
