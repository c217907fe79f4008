-- What is remembered of the expressions of an arena.
use Rattle.std.specs.Prelude.{◌≡◌, ℕ, ◌<◌, List, [], ◌∷◌, ◌++◌, length, Option, Some, None, Bool, true, nat_eq, is_some, slice_index}
use Rattle.bv_expr.specs.Walk.{IsWalking, rest_of}
use Rattle.std.specs.Map.{lookup}
use Rattle.bv_expr.specs.Nodes.{IsValuation, AreBytes, AreWidths}
use Rattle.bv_expr.specs.declared.q_node.QNode.{QNode}
use Rattle.bv_range.specs.Known.{IsWithin, IsShaped}
use Rattle.bv_range.specs.Fixed.{Fixed, AreFixed, HoldsBits}
use Rattle.bv_range.specs.declared.range.Range.{Range}

-- r is right for node i: under every valuation its value lies in r, and r has the bits that the node's operations fix
pub record IsRangeOf (nodes : List QNode) (i : ℕ) (r : Range) : Type 0 where
  pub right : (env v : ℕ → ℕ) → AreBytes env → IsValuation env v nodes → IsWithin r (v i)
  pub shape : (ws : ℕ → ℕ) → AreWidths ws nodes → IsShaped (ws i) r
  pub bits : (f : ℕ → Fixed) → AreFixed f nodes → HoldsBits (f i) r

-- the range that is remembered of an expression
abbrev pub remembered : List (ℕ × Range) → ℕ → Option Range
remembered ranges i = lookup (nat_eq i) ranges

-- each remembered range is right for a node of the arena
pub record AreRight (nodes : List QNode) (ranges : List (ℕ × Range)) : Type 0 where
  pub inside : (i : ℕ) (r : Range) → remembered ranges i ≡ Some r → i < length nodes
  pub at : (i : ℕ) (r : Range) → remembered ranges i ≡ Some r → IsRangeOf nodes i r

-- whether a range is remembered
abbrev pub is_remembered : List (ℕ × Range) → ℕ → Bool
is_remembered ranges i = is_some (remembered ranges i)

-- one step of a walk that stood at top with the nodes of below waiting: it is over and top is remembered, or it goes on
-- with less left to do and the same first node
abbrev pub Moves : List QNode → List (ℕ × Range) → List ℕ → ℕ → List (ℕ × Range) → List ℕ → Option ℕ → Type 0
Moves nodes ranges below top new_ranges new_below None = (below ≡ []) × (is_remembered new_ranges top ≡ true)
Moves nodes ranges below top new_ranges new_below (Some next) = IsWalking (length nodes) (is_remembered new_ranges) new_below next
    × (rest_of (length nodes) (is_remembered new_ranges) next < rest_of (length nodes) (is_remembered ranges) top)
    × (slice_index (new_below ++ next ∷ []) 0 ≡ slice_index (below ++ top ∷ []) 0)
