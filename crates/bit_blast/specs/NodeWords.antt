-- The words of operands.
use Rattle.std.specs.Prelude.{ℕ, ◌≡◌, ◌^◌, ◌<◌, ◌≤◌, Bool, List, length, Option, Some, is_some}
use Rattle.std.specs.Option.{option_map_or}
use Rattle.gate_form.specs.declared.wire.Wire.{Wire}
use Rattle.gate_form.specs.declared.wire.Gate.{Gate}
use Rattle.gate_form.specs.Net.{AreIn}
use Rattle.bit_arith.specs.Number.{word}
use Rattle.bv_expr.specs.declared.q_node.QNode.{QNode}
use Rattle.bv_expr.specs.declared.q_node.QNode.TheVariants.{Constant, Input, Alu, Test, Not, Both, Pick, Join, Byte}

-- whether a number has a word
abbrev pub has_word : (ℕ → Option (List Wire)) → ℕ → Bool
has_word words k = is_some (words k)

-- node a has a word of this width
pub record IsOperandWord (gates : List Gate) (words : ℕ → Option (List Wire)) (a width : ℕ) : Type 0 where
  pub wires : List Wire
  pub found : words a ≡ Some wires
  pub width_is : length wires ≡ width
  pub inside : AreIn gates wires

-- two nodes have words of one width, at most 32
pub record AreOneWidth (gates : List Gate) (words : ℕ → Option (List Wire)) (a b : ℕ) : Type 0 where
  pub width : ℕ
  pub most : width ≤ 32
  pub left : IsOperandWord gates words a width
  pub right : IsOperandWord gates words b width

-- the operands of a node that is no input have words of the widths that its kind asks for
abbrev pub IsReady : List Gate → (ℕ → Option (List Wire)) → QNode → Type 0
IsReady gates words (Constant width value) = value < 2 ^ width
IsReady gates words (Input variable) = ⊥
IsReady gates words (Alu op a b) = IsOperandWord gates words a 32 × IsOperandWord gates words b 32
IsReady gates words (Test cond a b) = IsOperandWord gates words a 32 × IsOperandWord gates words b 32
IsReady gates words (Not a) = IsOperandWord gates words a 1
IsReady gates words (Both a b) = IsOperandWord gates words a 1 × IsOperandWord gates words b 1
IsReady gates words (Pick when true_side false_side) = IsOperandWord gates words when 1 × AreOneWidth gates words true_side false_side
IsReady gates words (Join b0 b1 b2 b3) = IsOperandWord gates words b0 8 × IsOperandWord gates words b1 8 × IsOperandWord gates words b2 8 × IsOperandWord gates words b3 8
IsReady gates words (Byte of k) = IsOperandWord gates words of 32 × (k < 4)

-- the number of node j's word, and another number where it has none
abbrev pub value_in : (ℕ → Bool) → (ℕ → Option (List Wire)) → (ℕ → ℕ) → ℕ → ℕ
value_in g words v j = option_map_or (word g) (words j) (v j)

-- the width of node j's word, and another number where it has none
abbrev pub width_in : (ℕ → Option (List Wire)) → (ℕ → ℕ) → ℕ → ℕ
width_in words ws j = option_map_or length (words j) (ws j)
