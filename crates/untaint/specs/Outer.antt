-- The outermost operation of an expression, where that can be undone.
use Rattle.std.specs.Prelude.{ℕ, List, Option, Some, None, slice_get}
use Rattle.std.specs.Option.{option_map_or}
use Rattle.ct_words.specs.Words.{alu_value}
use Rattle.ct_words.specs.declared.alu_op.AluOp.{AluOp}
use Rattle.ct_words.specs.declared.alu_op.AluOp.TheVariants as ops
use Rattle.bv_expr.specs.Folding.{constant_in}
use Rattle.bv_expr.specs.declared.q_node.QNode.{QNode}
use Rattle.bv_expr.specs.declared.q_node.QNode.TheVariants as nodes
use Rattle.untaint.specs.declared.outermost.Outermost.{Outermost}
use Rattle.untaint.specs.declared.outermost.Outermost.TheVariants.{Not, Sum, Xor, Difference, Other}

-- a + c and c + b, where the operands a and b may have these numbers as values
abbrev pub sum_outermost : Option ℕ → Option ℕ → ℕ → ℕ → Outermost
sum_outermost None (Some c) a b = Sum c a
sum_outermost (Some c) None a b = Sum c b
sum_outermost _ _ a b = Other

-- a xor c and c xor b
abbrev pub xor_outermost : Option ℕ → Option ℕ → ℕ → ℕ → Outermost
xor_outermost None (Some c) a b = Xor c a
xor_outermost (Some c) None a b = Xor c b
xor_outermost _ _ a b = Other

-- a - c, which is a + (0 - c), and c - b
abbrev pub difference_outermost : Option ℕ → Option ℕ → ℕ → ℕ → Outermost
difference_outermost None (Some c) a b = Sum (alu_value ops.Sub 0 c) a
difference_outermost (Some c) None a b = Difference c b
difference_outermost _ _ a b = Other

-- an operation on two words
abbrev pub operation_outermost : List QNode → AluOp → ℕ → ℕ → Outermost
operation_outermost among ops.Add a b = sum_outermost (constant_in among a) (constant_in among b) a b
operation_outermost among ops.Xor a b = xor_outermost (constant_in among a) (constant_in among b) a b
operation_outermost among ops.Sub a b = difference_outermost (constant_in among a) (constant_in among b) a b
operation_outermost among _ a b = Other

-- a node
abbrev pub outermost_of : List QNode → QNode → Outermost
outermost_of among (nodes.Not a) = Not a
outermost_of among (nodes.Alu op a b) = operation_outermost among op a b
outermost_of among _ = Other

-- node i
abbrev pub outermost_at : List QNode → ℕ → Outermost
outermost_at among i = option_map_or (outermost_of among) (slice_get among i) Other
