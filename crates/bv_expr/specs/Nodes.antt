-- What a list of nodes means: the value and the width of each node, from those of its operands.
use Rattle.std.specs.Prelude.{◌≡◌, ℕ, ◌+◌, ◌*◌, ◌/◌, ◌%◌, ◌^◌, ◌<◌, List, length, Some, slice_get, if◌then◌else◌, ◌==◌}
use Rattle.ct_words.specs.Words.{flag, alu_value, test_value}
use Rattle.bv_expr.specs.declared.q_node.QNode.{QNode}
use Rattle.bv_expr.specs.declared.q_node.QNode.TheVariants.{Constant, Input, Alu, Test, Not, Both, Pick, Join, Byte}

-- four bytes as a word, the least byte first
abbrev pub joined_bytes : ℕ → ℕ → ℕ → ℕ → ℕ
joined_bytes b0 b1 b2 b3 = b0 + 2 ^ 8 * b1 + 2 ^ 16 * b2 + 2 ^ 24 * b3

-- byte k of a word
abbrev pub byte_at : ℕ → ℕ → ℕ
byte_at word k = word / 2 ^ (8 * k) % 2 ^ 8

-- the value of a node, where env has the input bytes and v the values of the operands
abbrev pub node_value : (ℕ → ℕ) → (ℕ → ℕ) → QNode → ℕ
node_value env v (Constant width value) = value
node_value env v (Input variable) = env variable
node_value env v (Alu op a b) = alu_value op (v a) (v b)
node_value env v (Test cond a b) = flag (test_value cond (v a) (v b))
node_value env v (Not a) = flag (v a == 0)
node_value env v (Both a b) = if v a == 0 then 0 else v b
node_value env v (Pick when true_side false_side) = if v when == 0 then v false_side else v true_side
node_value env v (Join b0 b1 b2 b3) = joined_bytes (v b0) (v b1) (v b2) (v b3)
node_value env v (Byte word k) = byte_at (v word) k

-- v gives each node its value, where env has the input bytes
pub record IsValuation (env v : ℕ → ℕ) (nodes : List QNode) : Type 0 where
  pub at : (i : ℕ) (n : QNode) → slice_get nodes i ≡ Some n → v i ≡ node_value env v n

-- each input is a byte
abbrev pub AreBytes : (ℕ → ℕ) → Type 0
AreBytes env = (k : ℕ) → env k < 2 ^ 8

-- the width of a node, from the widths of its operands
abbrev pub node_width : (ℕ → ℕ) → QNode → ℕ
node_width ws (Constant width value) = width
node_width ws (Input variable) = 8
node_width ws (Alu op a b) = 32
node_width ws (Test cond a b) = 1
node_width ws (Not a) = 1
node_width ws (Both a b) = 1
node_width ws (Pick when true_side false_side) = ws true_side
node_width ws (Join b0 b1 b2 b3) = 32
node_width ws (Byte word k) = 8

-- ws gives each node its width
pub record AreWidths (ws : ℕ → ℕ) (nodes : List QNode) : Type 0 where
  pub at : (i : ℕ) (n : QNode) → slice_get nodes i ≡ Some n → ws i ≡ node_width ws n

-- node i is in the list and has the width w
pub record HasWidth (nodes : List QNode) (i w : ℕ) : Type 0 where
  pub inside : i < length nodes
  pub is : (ws : ℕ → ℕ) → AreWidths ws nodes → ws i ≡ w
