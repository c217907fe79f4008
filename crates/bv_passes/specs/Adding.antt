-- The table of the pass `Sums`: numbers float out of sums and are joined, and what is added and taken away is dropped.
use Rattle.std.specs.Prelude.{◌≡◌, ℕ, ◌+◌, ◌-◌, ◌%◌, ◌^◌, ◌<◌, ◌==◌, List, Option, Some, None, slice_get, if◌then◌else◌}
use Rattle.std.specs.Option.{option_and_then, option_map_or}
use Rattle.ct_words.specs.Words.{alu_value}
use Rattle.ct_words.specs.declared.alu_op.AluOp.{AluOp}
use Rattle.ct_words.specs.declared.alu_op.AluOp.TheVariants.{Add, Sub, Xor}
use Rattle.bv_expr.specs.Nodes.{IsValuation, AreBytes, HasWidth}
use Rattle.bv_expr.specs.Folding.{constant_in}
use Rattle.bv_expr.specs.declared.q_node.QNode.{QNode}
use Rattle.bv_expr.specs.declared.q_node.QNode.TheVariants.{Constant, Alu}
use Rattle.bv_passes.specs.Algebra.{is_number}
use Rattle.bv_passes.specs.declared.rewrite.Operand.TheVariants as operands
use Rattle.bv_passes.specs.declared.rewrite.Rewrite.{Rewrite}
use Rattle.bv_passes.specs.declared.rewrite.Rewrite.TheVariants as rewrites
use Rattle.bv_passes.specs.declared.summand.Summand.{Summand}
use Rattle.bv_passes.specs.declared.body.Body.{Body}
use Rattle.bv_passes.specs.declared.body.Body.TheVariants.{Nothing, Old, Negative, Operation}

-- x - y as a word
abbrev pub minus : ℕ → ℕ → ℕ
minus x y = (x + (2 ^ 32 - y)) % 2 ^ 32

-- x + y as a word
abbrev pub plus : ℕ → ℕ → ℕ
plus x y = (x + y) % 2 ^ 32

-- an expression with the number x added
abbrev pub with_added : ℕ → ℕ → Summand
with_added i x = record { rest = Some i; number = x }

-- a sum or a difference with a number: x + c, c + x and x - c
abbrev pub operation_parts : List QNode → ℕ → AluOp → ℕ → ℕ → Summand
operation_parts nodes i Add a b = option_map_or (with_added a) (constant_in nodes b) (option_map_or (with_added b) (constant_in nodes a) (with_added i 0))
operation_parts nodes i Sub a b = option_map_or (λ c. with_added a (minus 0 c)) (constant_in nodes b) (with_added i 0)
operation_parts nodes i _ a b = with_added i 0

-- node i as an expression and a number that is added to it; a constant is a number alone
abbrev pub parts_of : List QNode → ℕ → QNode → Summand
parts_of nodes i (Constant w x) = record { rest = None; number = x }
parts_of nodes i (Alu op a b) = operation_parts nodes i op a b
parts_of nodes i _ = with_added i 0

abbrev pub parts_at : List QNode → ℕ → Summand
parts_at nodes i = option_map_or (parts_of nodes i) (slice_get nodes i) (with_added i 0)

-- p, where a node is p - y
abbrev pub less : ℕ → QNode → Option ℕ
less y (Alu Sub a b) = if b == y then Some a else None
less y _ = None

-- q, where a node is x - q
abbrev pub lessened : ℕ → QNode → Option ℕ
lessened x (Alu Sub a b) = if a == x then Some b else None
lessened x _ = None

-- p, where a node is p + y or y + p
abbrev pub added_to : ℕ → QNode → Option ℕ
added_to y (Alu Add a b) = if b == y then Some a else (if a == y then Some b else None)
added_to y _ = None

-- p, where a node is p xor y or y xor p
abbrev pub turned : ℕ → QNode → Option ℕ
turned y (Alu Xor a b) = if b == y then Some a else (if a == y then Some b else None)
turned y _ = None

-- q, where a node is 0 - q
abbrev pub negated : List QNode → QNode → Option ℕ
negated nodes (Alu Sub a b) = if is_number nodes a (Some 0) then Some b else None
negated nodes _ = None

-- what node i gives
abbrev pub seen : List QNode → (QNode → Option ℕ) → ℕ → Option ℕ
seen nodes find i = option_and_then find (slice_get nodes i)

-- x - y: (p + y) - y is p, x - (x - q) is q, x - (0 - q) is x + q
abbrev pub difference_by : ℕ → ℕ → Option ℕ → Option ℕ → Option ℕ → Body
difference_by x y (Some p) _ _ = Old p
difference_by x y None (Some q) _ = Old q
difference_by x y None None (Some q) = Operation Add x q
difference_by x y None None None = Operation Sub x y

-- x - y, which is nothing where they are the same
abbrev pub difference_body : List QNode → ℕ → ℕ → Body
difference_body nodes x y = if x == y then Nothing else difference_by x y (seen nodes (added_to y) x) (seen nodes (lessened x) y) (seen nodes (negated nodes) y)

-- x + y, where neither takes the other away: (0 - q) + y is y - q
abbrev pub plain_by : List QNode → ℕ → ℕ → Option ℕ → Body
plain_by nodes x y turned = option_map_or (difference_body nodes y) turned (Operation Add x y)

-- x + y, where neither takes the other away: x + (0 - q) is x - q
abbrev pub sum_apart : List QNode → ℕ → ℕ → Body
sum_apart nodes x y = option_map_or (difference_body nodes x) (seen nodes (negated nodes) y) (plain_by nodes x y (seen nodes (negated nodes) x))

-- x + y: (p - y) + y and x + (p - x) are p
abbrev pub sum_body : List QNode → ℕ → ℕ → Body
sum_body nodes x y = option_map_or Old (seen nodes (less y) x) (option_map_or Old (seen nodes (less x) y) (sum_apart nodes x y))

-- the sum and the difference of what two summands are without their numbers
abbrev pub sum_of : List QNode → Option ℕ → Option ℕ → Body
sum_of nodes (Some x) (Some y) = sum_body nodes x y
sum_of nodes (Some x) None = Old x
sum_of nodes None (Some y) = Old y
sum_of nodes None None = Nothing

abbrev pub difference_of : List QNode → Option ℕ → Option ℕ → Body
difference_of nodes (Some x) (Some y) = difference_body nodes x y
difference_of nodes (Some x) None = Old x
difference_of nodes None (Some y) = Negative y
difference_of nodes None None = Nothing

-- a body with a number added
abbrev pub with_number : Body → ℕ → Rewrite
with_number Nothing k = rewrites.Number k
with_number (Old x) k = if k == 0 then rewrites.Old x else rewrites.Operation Add (operands.Node x) (operands.Word k)
with_number (Negative x) k = rewrites.Operation Sub (operands.Word k) (operands.Node x)
with_number (Operation op x y) k = if k == 0 then rewrites.Operation op (operands.Node x) (operands.Node y) else rewrites.Raised op x y k

-- (x xor y) xor y is x
abbrev pub xor_by : Option ℕ → Option ℕ → Rewrite
xor_by (Some p) _ = rewrites.Old p
xor_by None (Some p) = rewrites.Old p
xor_by None None = rewrites.Keep

-- sums, differences and exclusive ors
abbrev pub sum_rewrite : List QNode → ℕ → ℕ → Rewrite
sum_rewrite nodes a b = with_number (sum_of nodes (parts_at nodes a).rest (parts_at nodes b).rest) (plus (parts_at nodes a).number (parts_at nodes b).number)

abbrev pub difference_rewrite : List QNode → ℕ → ℕ → Rewrite
difference_rewrite nodes a b = with_number (difference_of nodes (parts_at nodes a).rest (parts_at nodes b).rest) (minus (parts_at nodes a).number (parts_at nodes b).number)

abbrev pub xor_rewrite : List QNode → ℕ → ℕ → Rewrite
xor_rewrite nodes a b = xor_by (seen nodes (turned b) a) (seen nodes (turned a) b)

-- what is made of a node
abbrev pub summed_node : List QNode → QNode → Rewrite
summed_node nodes (Alu Add a b) = sum_rewrite nodes a b
summed_node nodes (Alu Sub a b) = difference_rewrite nodes a b
summed_node nodes (Alu Xor a b) = xor_rewrite nodes a b
summed_node nodes _ = rewrites.Keep

-- the table of `Sums`
abbrev pub sums_table : List QNode → ℕ → Rewrite
sums_table nodes i = option_map_or (summed_node nodes) (slice_get nodes i) rewrites.Keep

-- the value of a body
abbrev pub body_value : (ℕ → ℕ) → Body → ℕ
body_value v Nothing = 0
body_value v (Old x) = v x
body_value v (Negative x) = alu_value Sub 0 (v x)
body_value v (Operation op x y) = alu_value op (v x) (v y)

-- the parts of a body are words
abbrev pub HasWords : List QNode → Body → Type 0
HasWords nodes Nothing = Unit {0}
HasWords nodes (Old x) = HasWidth nodes x 32
HasWords nodes (Negative x) = HasWidth nodes x 32
HasWords nodes (Operation op x y) = HasWidth nodes x 32 × HasWidth nodes y 32

-- the value of what a summand is without its number
abbrev pub rest_value : (ℕ → ℕ) → Option ℕ → ℕ
rest_value v None = 0
rest_value v (Some x) = v x

-- a body has this value, whatever bytes the inputs are
pub record IsBodyOf (nodes : List QNode) (value : (ℕ → ℕ) → ℕ) (body : Body) : Type 0 where
  pub words : HasWords nodes body
  pub values : (env v : ℕ → ℕ) → AreBytes env → IsValuation env v nodes → body_value v body ≡ value v

-- what a summand is without its number is a word
abbrev pub IsWordOrNone : List QNode → Option ℕ → Type 0
IsWordOrNone nodes None = Unit {0}
IsWordOrNone nodes (Some x) = HasWidth nodes x 32

-- a summand has this value, whatever bytes the inputs are
pub record IsSummand (nodes : List QNode) (value : (ℕ → ℕ) → ℕ) (summand : Summand) : Type 0 where
  pub word : IsWordOrNone nodes summand.rest
  pub fits : summand.number < 2 ^ 32
  pub values : (env v : ℕ → ℕ) → AreBytes env → IsValuation env v nodes → value v ≡ alu_value Add (rest_value v summand.rest) summand.number
