-- The table of the pass `Algebra`: operations that have no effect, or one result.
use Rattle.std.specs.Prelude.{ℕ, ◌==◌, ◌&&◌, ◌||◌, Bool, true, false, List, Option, Some, None, slice_get, if◌then◌else◌}
use Rattle.std.specs.Option.{option_map_or}
use Rattle.ct_words.specs.declared.alu_op.AluOp.{AluOp}
use Rattle.ct_words.specs.declared.alu_op.AluOp.TheVariants.{Add, Sub, Sll, Xor, Srl, Sra, Or, And, Mul}
use Rattle.bv_expr.specs.Folding.{constant_in}
use Rattle.bv_expr.specs.declared.q_node.QNode.{QNode}
use Rattle.bv_expr.specs.declared.q_node.QNode.TheVariants.{Alu, Not, Pick}
use Rattle.bv_passes.specs.declared.rewrite.Rewrite.{Rewrite}
use Rattle.bv_passes.specs.declared.rewrite.Rewrite.TheVariants.{Keep, Old, Number}

-- the number which on the right leaves the other side: x + 0, x - 0, x xor 0, x or 0, x * 1, a shift by 0
abbrev pub right_unit : AluOp → Option ℕ
right_unit Add = Some 0
right_unit Sub = Some 0
right_unit Xor = Some 0
right_unit Or = Some 0
right_unit Mul = Some 1
right_unit Sll = Some 0
right_unit Srl = Some 0
right_unit Sra = Some 0
right_unit _ = None

-- the number which on the left leaves the other side: 0 + x, 0 xor x, 0 or x, 1 * x
abbrev pub left_unit : AluOp → Option ℕ
left_unit Add = Some 0
left_unit Xor = Some 0
left_unit Or = Some 0
left_unit Mul = Some 1
left_unit _ = None

-- the number which on either side makes the result 0: x and 0, x * 0
abbrev pub zero_of : AluOp → Option ℕ
zero_of And = Some 0
zero_of Mul = Some 0
zero_of _ = None

-- equal sides make the result 0: x xor x, x - x
abbrev pub cancels : AluOp → Bool
cancels Xor = true
cancels Sub = true
cancels _ = false

-- both are there and equal
abbrev pub are_equal : Option ℕ → Option ℕ → Bool
are_equal (Some x) (Some y) = x == y
are_equal _ _ = false

-- node i is this number, where there is one
abbrev pub is_number : List QNode → ℕ → Option ℕ → Bool
is_number nodes i number = are_equal (constant_in nodes i) number

-- the operation gives 0: x and 0, 0 and x, x * 0, 0 * x, x xor x, x - x
abbrev pub gives_zero : List QNode → AluOp → ℕ → ℕ → Bool
gives_zero nodes op a b = is_number nodes b (zero_of op) || is_number nodes a (zero_of op) || (cancels op && (a == b))

-- an operation on two words
abbrev pub simpler_operation : List QNode → AluOp → ℕ → ℕ → Rewrite
simpler_operation nodes op a b =
    if is_number nodes b (right_unit op) then Old a
    else (if is_number nodes a (left_unit op) then Old b
    else (if gives_zero nodes op a b then Number 0
    else Keep))

-- not (not x)
abbrev pub double_not : QNode → Rewrite
double_not (Not a) = Old a
double_not _ = Keep

-- the first rule that matches at a node
abbrev pub simpler_node : List QNode → QNode → Rewrite
simpler_node nodes (Alu op a b) = simpler_operation nodes op a b
simpler_node nodes (Not a) = option_map_or double_not (slice_get nodes a) Keep
simpler_node nodes (Pick when true_side false_side) = if true_side == false_side then Old true_side else Keep
simpler_node nodes _ = Keep

-- the table of `Algebra`
abbrev pub algebra_table : List QNode → ℕ → Rewrite
algebra_table nodes i = option_map_or (simpler_node nodes) (slice_get nodes i) Keep
