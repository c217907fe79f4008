-- A walk that finishes a node after all its operands, with no recursion: it stands at a node, and goes back to
-- the nodes that wait for it. What it has finished is told by a test on nodes.
use Rattle.std.specs.Prelude.{◌≡◌, ℕ, zero, suc, ◌+◌, ◌*◌, ◌<◌, Bool, false, List, [], ◌∷◌, length, Option, Some, None, slice_index, if◌then◌else◌}
use Rattle.bv_expr.specs.declared.q_node.QNode.{QNode}
use Rattle.bv_expr.specs.declared.q_node.QNode.TheVariants.{Alu, Test, Not, Both, Pick, Join, Byte}

-- the operands of a node, left to right
abbrev pub operands_of_node : QNode → List ℕ
operands_of_node (Alu op a b) = a ∷ b ∷ []
operands_of_node (Test cond a b) = a ∷ b ∷ []
operands_of_node (Not a) = a ∷ []
operands_of_node (Both a b) = a ∷ b ∷ []
operands_of_node (Pick when true_side false_side) = when ∷ true_side ∷ false_side ∷ []
operands_of_node (Join b0 b1 b2 b3) = b0 ∷ b1 ∷ b2 ∷ b3 ∷ []
operands_of_node (Byte word k) = word ∷ []
operands_of_node _ = []

-- node a is before node top, and isn't finished
abbrev pub IsOpenBelow : (ℕ → Bool) → ℕ → ℕ → Type 0
IsOpenBelow finished top a = (a < top) × (finished a ≡ false)

-- the walk stands at top, which isn't finished, and below has the nodes that wait, each above the one that it waits for
pub record IsWalking (size : ℕ) (finished : ℕ → Bool) (below : List ℕ) (top : ℕ) : Type 0 where
  pub inside : top < size
  pub unfinished : finished top ≡ false
  pub waits : (k : ℕ) → k < length below → (slice_index below k < size) × (finished (slice_index below k) ≡ false) × (top < slice_index below k)
  pub falls : (j k : ℕ) → j < k → k < length below → slice_index below k < slice_index below j

-- a walk that is over, or stands at a node
abbrev pub Walks : ℕ → (ℕ → Bool) → List ℕ → Option ℕ → Type 0
Walks size finished below None = Unit {0}
Walks size finished below (Some top) = IsWalking size finished below top

-- how many of the first n nodes aren't finished
abbrev pub unfinished_below : (ℕ → Bool) → ℕ → ℕ
unfinished_below finished zero = 0
unfinished_below finished (suc n) = unfinished_below finished n + (if finished n then 0 else 1)

-- what is left of a walk that stands at top: it falls with each step
unfoldable pub rest_of : ℕ → (ℕ → Bool) → ℕ → ℕ
rest_of size finished top = (size + 1) * unfinished_below finished size + top

-- what is left of a walk
abbrev pub left_of : ℕ → (ℕ → Bool) → Option ℕ → ℕ
left_of size finished None = 0
left_of size finished (Some top) = rest_of size finished top + 1
