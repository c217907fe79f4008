-- What a table says of an expression, and which node the answer to it is.
use Rattle.std.specs.Prelude.{◌≡◌, ◌≢◌, ◌↔◌, ℕ, ◌^◌, ◌<◌, List, Some, slice_get}
use Rattle.ct_words.specs.Words.{alu_value}
use Rattle.ct_words.specs.declared.alu_op.AluOp.{AluOp}
use Rattle.ct_words.specs.declared.alu_op.AluOp.TheVariants.{Add}
use Rattle.bv_expr.specs.Nodes.{IsValuation, AreBytes, HasWidth}
use Rattle.bv_expr.specs.Folding.{alu_node}
use Rattle.bv_expr.specs.declared.q_node.QNode.{QNode}
use Rattle.bv_expr.specs.declared.q_node.QNode.TheVariants.{Constant, Alu}
use Rattle.bv_passes.specs.declared.rewrite.Operand.{Operand}
use Rattle.bv_passes.specs.declared.rewrite.Operand.TheVariants as operands
use Rattle.bv_passes.specs.declared.rewrite.Rewrite.{Rewrite}
use Rattle.bv_passes.specs.declared.rewrite.Rewrite.TheVariants.{Keep, Old, Number, Operation, Raised}

-- the value of an operand
abbrev pub operand_value : (ℕ → ℕ) → Operand → ℕ
operand_value v (operands.Node j) = v j
operand_value v (operands.Word x) = x

-- the operand is a word
abbrev pub IsWord : List QNode → Operand → Type 0
IsWord nodes (operands.Node j) = HasWidth nodes j 32
IsWord nodes (operands.Word x) = x < 2 ^ 32

-- the parts of what a table says of an expression of the width w have the widths that they need
abbrev pub HasParts : List QNode → ℕ → Rewrite → Type 0
HasParts nodes w Keep = Unit {0}
HasParts nodes w (Old j) = HasWidth nodes j w
HasParts nodes w (Number x) = x < 2 ^ w
HasParts nodes w (Operation op a b) = (w ≡ 32) × IsWord nodes a × IsWord nodes b
HasParts nodes w (Raised op a b x) = (w ≡ 32) × HasWidth nodes a 32 × HasWidth nodes b 32 × (x < 2 ^ 32)

-- what a table says has the value x
abbrev pub IsValue : (ℕ → ℕ) → ℕ → Rewrite → Type 0
IsValue v x Keep = Unit {0}
IsValue v x (Old j) = v j ≡ x
IsValue v x (Number n) = n ≡ x
IsValue v x (Operation op a b) = alu_value op (operand_value v a) (operand_value v b) ≡ x
IsValue v x (Raised op a b n) = alu_value Add (alu_value op (v a) (v b)) n ≡ x

-- what a table says has the value that an expression of the width w has, whatever bytes the inputs are
pub record IsRight (nodes : List QNode) (w : ℕ) (value : (ℕ → ℕ) → ℕ) (rewrite : Rewrite) : Type 0 where
  pub parts : HasParts nodes w rewrite
  pub values : (env v : ℕ → ℕ) → AreBytes env → IsValuation env v nodes → IsValue v (value v) rewrite

-- what a table says is to keep the expression, or a number
abbrev pub IsKeepOrNumber : Rewrite → Type 0
IsKeepOrNumber Keep = Unit {0}
IsKeepOrNumber (Number x) = Unit {0}
IsKeepOrNumber _ = ⊥

-- node k is the operand
abbrev pub IsOperand : List QNode → Operand → ℕ → Type 0
IsOperand nodes (operands.Node j) k = k ≡ j
IsOperand nodes (operands.Word x) k = slice_get nodes k ≡ Some (Constant 32 x)

-- the answer is what a table says of node id, whose width is w
abbrev pub IsSaid : List QNode → ℕ → ℕ → Rewrite → ℕ → Type 0
IsSaid nodes id w Keep answer = answer ≡ id
IsSaid nodes id w (Old j) answer = answer ≡ j
IsSaid nodes id w (Number x) answer = slice_get nodes answer ≡ Some (Constant w x)
IsSaid nodes id w (Operation op a b) answer = (k : ℕ) × (m : ℕ) × IsOperand nodes a k × IsOperand nodes b m × (slice_get nodes answer ≡ Some (alu_node nodes op k m))
IsSaid nodes id w (Raised op a b x) answer = (k : ℕ) × (m : ℕ) × (slice_get nodes k ≡ Some (alu_node nodes op a b)) × (slice_get nodes m ≡ Some (Constant 32 x)) × (slice_get nodes answer ≡ Some (alu_node nodes Add k m))

-- what a table says of node i isn't node i: it is an earlier one, a number, or an operation on another node than that of node i
abbrev pub IsOther : List QNode → ℕ → Rewrite → Type 0
IsOther nodes i Keep = Unit {0}
IsOther nodes i (Old j) = j < i
IsOther nodes i (Number x) = Unit {0}
IsOther nodes i (Operation op (operands.Node x) b) = (p : AluOp) (m : ℕ) → slice_get nodes i ≢ Some (Alu p x m)
IsOther nodes i _ = ⊥

-- the answer is what a table says of node id, and that node itself exactly where no rule matches
pub record IsByTable (old new : List QNode) (id : ℕ) (rewrite : Rewrite) (answer : ℕ) : Type 0 where
  pub said : (w : ℕ) → HasWidth old id w → IsSaid new id w rewrite answer
  pub kept : (answer ≡ id) ↔ (rewrite ≡ Keep)
