-- Which node each operation makes: a constant where all its operands are constants, and else the operation.
use Rattle.std.specs.Prelude.{ℕ, ◌==◌, List, Option, Some, None, slice_get, if◌then◌else◌}
use Rattle.std.specs.Option.{option_and_then, option_zip, option_map_or}
use Rattle.ct_words.specs.Words.{flag, alu_value, test_value}
use Rattle.ct_words.specs.declared.alu_op.AluOp.{AluOp}
use Rattle.ct_words.specs.declared.cond.Cond.{Cond}
use Rattle.bv_expr.specs.Nodes.{joined_bytes, byte_at}
use Rattle.bv_expr.specs.declared.q_node.QNode.{QNode}
use Rattle.bv_expr.specs.declared.q_node.QNode.TheVariants.{Constant, Alu, Test, Not, Both, Pick, Join, Byte}

-- the value of a constant
abbrev pub constant_value : QNode → Option ℕ
constant_value (Constant width value) = Some value
constant_value _ = None

-- the value of node i where it is a constant
abbrev pub constant_in : List QNode → ℕ → Option ℕ
constant_in nodes i = option_and_then constant_value (slice_get nodes i)

abbrev pub alu_node : List QNode → AluOp → ℕ → ℕ → QNode
alu_node nodes op a b = option_map_or (λ p. Constant 32 (alu_value op p.0 p.1)) (option_zip (constant_in nodes a) (constant_in nodes b)) (Alu op a b)

abbrev pub test_node : List QNode → Cond → ℕ → ℕ → QNode
test_node nodes cond a b = option_map_or (λ p. Constant 1 (flag (test_value cond p.0 p.1))) (option_zip (constant_in nodes a) (constant_in nodes b)) (Test cond a b)

abbrev pub not_node : List QNode → ℕ → QNode
not_node nodes a = option_map_or (λ x. Constant 1 (flag (x == 0))) (constant_in nodes a) (Not a)

abbrev pub both_node : List QNode → ℕ → ℕ → QNode
both_node nodes a b = option_map_or (λ p. Constant 1 (if p.0 == 0 then 0 else p.1)) (option_zip (constant_in nodes a) (constant_in nodes b)) (Both a b)

-- a choice between two expressions of the width w
abbrev pub pick_node : List QNode → ℕ → ℕ → ℕ → ℕ → QNode
pick_node nodes w when true_side false_side = option_map_or (λ p. Constant w (if p.0 == 0 then p.1.1 else p.1.0)) (option_zip (constant_in nodes when) (option_zip (constant_in nodes true_side) (constant_in nodes false_side))) (Pick when true_side false_side)

abbrev pub join_node : List QNode → ℕ → ℕ → ℕ → ℕ → QNode
join_node nodes b0 b1 b2 b3 = option_map_or (λ p. Constant 32 (joined_bytes p.0.0 p.0.1 p.1.0 p.1.1)) (option_zip (option_zip (constant_in nodes b0) (constant_in nodes b1)) (option_zip (constant_in nodes b2) (constant_in nodes b3))) (Join b0 b1 b2 b3)

abbrev pub byte_node : List QNode → ℕ → ℕ → QNode
byte_node nodes word k = option_map_or (λ x. Constant 8 (byte_at x k)) (constant_in nodes word) (Byte word k)
