-- Equal operations are taken off from both sides of an equality, as long as both sides have them.
use Rattle.std.specs.Prelude.{◌≡◌, ℕ, ◌+◌, ◌<◌, ◌==◌, List, [], ◌∷◌, Option, Some, None, if◌then◌else◌}
use Rattle.bv_expr.specs.Nodes.{IsValuation, AreBytes}
use Rattle.bv_expr.specs.declared.q_node.QNode.{QNode}
use Rattle.untaint.specs.Kept.{equality, Holds, IsOf, IsOrdered, with_all}
use Rattle.untaint.specs.Outer.{outermost_at}
use Rattle.untaint.specs.declared.equality.Equality.{Equality}
use Rattle.untaint.specs.declared.outermost.Outermost.{Outermost}
use Rattle.untaint.specs.declared.outermost.Outermost.TheVariants.{Not, Sum, Xor, Difference}

-- the equality of a and b, where two numbers are equal
abbrev pub where_equal : ℕ → ℕ → ℕ → ℕ → Option Equality
where_equal x y a b = if x == y then Some (equality a b) else None

-- what is below two operations, where these are one and have one number
abbrev pub inner_of : Outermost → Outermost → Option Equality
inner_of (Not a) (Not b) = Some (equality a b)
inner_of (Sum x a) (Sum y b) = where_equal x y a b
inner_of (Xor x a) (Xor y b) = where_equal x y a b
inner_of (Difference x a) (Difference y b) = where_equal x y a b
inner_of _ _ = None

-- what is left of an equality when one operation is taken off from both sides
unfoldable pub peeled : List QNode → Equality → Option Equality
peeled nodes one = inner_of (outermost_at nodes one.left.0) (outermost_at nodes one.right.0)

-- taking operations off goes from start over these equalities to end
abbrev pub Peels : List QNode → Option Equality → List Equality → Option Equality → Type 0
Peels nodes start [] end = start ≡ end
Peels nodes start (one ∷ more) end = (start ≡ Some one) × Peels nodes (peeled nodes one) more end

-- an equality and all to which it is peeled are kept after what was kept before, each unless it is there
pub record KeepsPeeled (nodes : List QNode) (first : Equality) (old new : List Equality) : Type 0 where
  pub all : List Equality
  pub peels : Peels nodes (Some first) all None
  pub list : new ≡ with_all old all

-- an equality comes of another by taking operations off: its sides are earlier, and it holds where the other does
pub record ComesOf (nodes : List QNode) (one next : Equality) : Type 0 where
  pub inside : IsOf nodes next
  pub ordered : IsOrdered next
  pub falls : next.left.0 + next.right.0 < one.left.0 + one.right.0
  pub holds : (env v : ℕ → ℕ) → AreBytes env → IsValuation env v nodes → Holds v one → Holds v next
