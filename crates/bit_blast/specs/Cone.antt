-- The nodes on which roots depend.
use Rattle.std.specs.Prelude.{ℕ, zero, suc, ◌≡◌, ◌+◌, Bool, true, List, Some, slice_get, All, if◌then◌else◌}
use Rattle.bv_expr.specs.declared.q_node.QNode.{QNode}
use Rattle.bv_expr.specs.Walk.{operands_of_node}

-- among the chosen nodes are the roots, and the operands of each chosen node
pub record HasCone (nodes : List QNode) (roots : List ℕ) (chosen : ℕ → Bool) : Type 0 where
  pub has_roots : All (λ r. chosen r ≡ true) roots
  pub has_operands : (i : ℕ) (n : QNode) → slice_get nodes i ≡ Some n → chosen i ≡ true → All (λ a. chosen a ≡ true) (operands_of_node n)

-- the roots depend on node k: it is in each choice that has the roots and all operands
abbrev pub IsInCone : List QNode → List ℕ → ℕ → Type 0
IsInCone nodes roots k = (chosen : ℕ → Bool) → HasCone nodes roots chosen → chosen k ≡ true

-- how many of the first n nodes are chosen
abbrev pub chosen_below : (ℕ → Bool) → ℕ → ℕ
chosen_below chosen zero = 0
chosen_below chosen (suc n) = chosen_below chosen n + (if chosen n then 1 else 0)
