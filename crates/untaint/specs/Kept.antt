-- Equalities of expressions, and what it means that some are kept.
use Rattle.std.specs.Prelude.{◌≡◌, ◌⊎◌, ℕ, ◌<◌, ◌≤◌, ◌==◌, ◌&&◌, nat_lt, Bool, List, [], ◌∷◌, ◌++◌, length, fold, All, Contains, if◌then◌else◌}
use Rattle.std.specs.List.{list_any}
use Rattle.bv_expr.specs.Nodes.{IsValuation, AreBytes}
use Rattle.bv_expr.specs.declared.q_node.QNode.{QNode}
use Rattle.untaint.specs.declared.equality.Equality.{Equality}

-- two expressions as an equality, in this order
abbrev pub sides : ℕ → ℕ → Equality
sides l r = record { left = record { 0 = l }; right = record { 0 = r } }

-- two expressions as an equality, the earlier one first
abbrev pub equality : ℕ → ℕ → Equality
equality a b = if nat_lt b a then sides b a else sides a b

-- an equality holds, where v has the values of the expressions
abbrev pub Holds : (ℕ → ℕ) → Equality → Type 0
Holds v one = v one.left.0 ≡ v one.right.0

-- all of them hold
abbrev pub AllHold : (ℕ → ℕ) → List Equality → Type 0
AllHold v kept = All (Holds v) kept

-- two expressions are one, or the list has them as equal in one of the two orders
abbrev pub AreKnown : List Equality → ℕ → ℕ → Type 0
AreKnown kept l r = (l ≡ r) ⊎ Contains kept (sides l r) ⊎ Contains kept (sides r l)

-- the earlier side is first
abbrev pub IsOrdered : Equality → Type 0
IsOrdered one = one.left.0 ≤ one.right.0

-- both sides are among the nodes
pub record IsOf (nodes : List QNode) (one : Equality) : Type 0 where
  pub left : one.left.0 < length nodes
  pub right : one.right.0 < length nodes

-- the equalities from before stay, and each that is appended is of the arena, and holds under every valuation of
-- bytes under which a first one holds
pub record Appends (nodes : List QNode) (first : Equality) (old new : List Equality) : Type 0 where
  pub added : List Equality
  pub list : new ≡ old ++ added
  pub inside : All (IsOf nodes) added
  pub hold : (env v : ℕ → ℕ) → AreBytes env → IsValuation env v nodes → Holds v first → AllHold v added

-- two equalities have the same sides
abbrev pub same_sides : Equality → Equality → Bool
same_sides one other = (one.left.0 == other.left.0) && (one.right.0 == other.right.0)

-- the list with an equality at its end, unless it is there
abbrev pub with_new : List Equality → Equality → List Equality
with_new kept one = if list_any (same_sides one) kept then kept else kept ++ one ∷ []

-- the list with some equalities, one after another
abbrev pub with_all : List Equality → List Equality → List Equality
with_all kept more = fold with_new kept more
