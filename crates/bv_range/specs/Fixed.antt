-- The bits of an expression that its operations alone fix.
use Rattle.std.specs.Prelude.{◌≡◌, ℕ, ◌+◌, ◌-◌, ◌*◌, ◌/◌, ◌%◌, ◌^◌, ◌==◌, List, Some, slice_get, slice_index_or, bit_and, bit_or, if◌then◌else◌}
use Rattle.ct_words.specs.declared.alu_op.AluOp.{AluOp}
use Rattle.ct_words.specs.declared.alu_op.AluOp.TheVariants.{Sll, Srl, Xor, Or, And}
use Rattle.bv_expr.specs.Nodes.{joined_bytes, byte_at}
use Rattle.bv_expr.specs.Valuations.{gathered}
use Rattle.bv_expr.specs.declared.q_node.QNode.{QNode}
use Rattle.bv_expr.specs.declared.q_node.QNode.TheVariants.{Constant, Alu, Join, Byte}
use Rattle.bv_range.specs.Known.{Bitwise, IsOn}
use Rattle.bv_range.specs.declared.range.Range.{Range}

-- the bits that are 0, and those that are 1
pub record Fixed : Type 0 where
  pub zeros : ℕ
  pub ones : ℕ

-- no bit is fixed
abbrev pub none_fixed : Fixed
none_fixed = record { zeros = 0; ones = 0 }

-- the bits of a word shifted up by k, with zeros from the right
abbrev pub fixed_up : Fixed → ℕ → Fixed
fixed_up p k = record { zeros = p.zeros % 2 ^ (32 - k) * 2 ^ k + (2 ^ k - 1); ones = p.ones % 2 ^ (32 - k) * 2 ^ k }

-- the bits of a word shifted down by k, with zeros from the left
abbrev pub fixed_down : Fixed → ℕ → Fixed
fixed_down p k = record { zeros = (2 ^ k - 1) * 2 ^ (32 - k) + p.zeros / 2 ^ k; ones = p.ones / 2 ^ k }

-- the shift of p where all bits of the amount are fixed, and else nothing
abbrev pub fixed_shift : (Fixed → ℕ → Fixed) → Fixed → Fixed → Fixed
fixed_shift shift p amount = if amount.zeros + amount.ones == 2 ^ 32 - 1 then shift p (amount.ones % 32) else none_fixed

-- the bits of an operation on two words, from those of the words
abbrev pub alu_fixed : AluOp → Fixed → Fixed → Fixed
alu_fixed And p q = record { zeros = bit_or p.zeros q.zeros; ones = bit_and p.ones q.ones }
alu_fixed Or p q = record { zeros = bit_and p.zeros q.zeros; ones = bit_or p.ones q.ones }
alu_fixed Xor p q = record { zeros = bit_or (bit_and p.zeros q.zeros) (bit_and p.ones q.ones); ones = bit_or (bit_and p.zeros q.ones) (bit_and p.ones q.zeros) }
alu_fixed Sll p q = fixed_shift fixed_up p q
alu_fixed Srl p q = fixed_shift fixed_down p q
alu_fixed _ p q = none_fixed

-- the bits of a node, from those of its operands
abbrev pub node_fixed : (ℕ → Fixed) → QNode → Fixed
node_fixed f (Constant w x) = record { zeros = 2 ^ w - 1 - x; ones = x }
node_fixed f (Alu op a b) = alu_fixed op (f a) (f b)
node_fixed f (Join b0 b1 b2 b3) = record { zeros = joined_bytes (f b0).zeros (f b1).zeros (f b2).zeros (f b3).zeros; ones = joined_bytes (f b0).ones (f b1).ones (f b2).ones (f b3).ones }
node_fixed f (Byte word k) = record { zeros = byte_at (f word).zeros k; ones = byte_at (f word).ones k }
node_fixed f _ = none_fixed

-- f gives each node its fixed bits
pub record AreFixed (f : ℕ → Fixed) (nodes : List QNode) : Type 0 where
  pub at : (i : ℕ) (n : QNode) → slice_get nodes i ≡ Some n → f i ≡ node_fixed f n

-- the fixed bits of all nodes, each from those before it
abbrev pub fixed_of : List QNode → ℕ → Fixed
fixed_of nodes i = slice_index_or (gathered none_fixed node_fixed nodes) i none_fixed

-- the range has these bits
pub record HoldsBits (p : Fixed) (r : Range) : Type 0 where
  pub zeros : Bitwise IsOn p.zeros r.zeros
  pub ones : Bitwise IsOn p.ones r.ones
