-- The table of the pass `Shifts`: a shift of a shift the same way.
use Rattle.std.specs.Prelude.{ℕ, ◌+◌, ◌&&◌, ◌||◌, nat_lt, Bool, true, false, List, Option, Some, None, slice_get, if◌then◌else◌}
use Rattle.std.specs.Option.{option_and_then, option_map_or}
use Rattle.ct_words.specs.declared.alu_op.AluOp.{AluOp}
use Rattle.ct_words.specs.declared.alu_op.AluOp.TheVariants.{Sll, Srl}
use Rattle.bv_expr.specs.Folding.{constant_in}
use Rattle.bv_expr.specs.declared.q_node.QNode.{QNode}
use Rattle.bv_expr.specs.declared.q_node.QNode.TheVariants.{Alu}
use Rattle.bv_passes.specs.declared.rewrite.Operand.TheVariants.{Node, Word}
use Rattle.bv_passes.specs.declared.rewrite.Rewrite.{Rewrite}
use Rattle.bv_passes.specs.declared.rewrite.Rewrite.TheVariants.{Keep, Number, Operation}

-- the number of bits, where it is a constant below 32
abbrev pub amount_in : List QNode → ℕ → Option ℕ
amount_in nodes i = option_and_then (λ x. if nat_lt x 32 then Some x else None) (constant_in nodes i)

-- a shift by c + d bits, where x was shifted by c and then by d
abbrev pub one_shift : AluOp → ℕ → ℕ → ℕ → Rewrite
one_shift op x c d = if nat_lt (c + d) 32 then Operation op (Node x) (Word (c + d)) else Number 0

-- the shift to the left, and the one to the right
abbrev pub is_left : AluOp → Bool
is_left Sll = true
is_left _ = false

abbrev pub is_right : AluOp → Bool
is_right Srl = true
is_right _ = false

-- shifts the same way
abbrev pub is_same_way : AluOp → AluOp → Bool
is_same_way op inner = (is_left op && is_left inner) || (is_right op && is_right inner)

-- what a shift by d bits makes of a node
abbrev pub shift_again : List QNode → AluOp → ℕ → QNode → Rewrite
shift_again nodes op d (Alu inner x c) = if is_same_way op inner then option_map_or (λ n. one_shift op x n d) (amount_in nodes c) Keep else Keep
shift_again nodes op d _ = Keep

-- the first rule that matches at a node
abbrev pub shifted_node : List QNode → QNode → Rewrite
shifted_node nodes (Alu op a b) = option_map_or (λ d. option_map_or (shift_again nodes op d) (slice_get nodes a) Keep) (amount_in nodes b) Keep
shifted_node nodes _ = Keep

-- the table of `Shifts`
abbrev pub shifts_table : List QNode → ℕ → Rewrite
shifts_table nodes i = option_map_or (shifted_node nodes) (slice_get nodes i) Keep
