-- Questions, and which values meet them.
use Rattle.std.specs.Prelude.{◌≡◌, ℕ, ◌<◌, ◌==◌, ◌∷◌, ◌++◌, [], Bool, List, Some, slice_get, slice_index, All}
use Rattle.std.specs.List.{list_all}
use Rattle.bv_expr.specs.declared.q_node.QNode.{QNode}
use Rattle.bv_expr.specs.declared.q_node.QNode.TheVariants.{Input}
use Rattle.bv_expr.specs.Nodes.{HasWidth}
use Rattle.bv_expr.specs.Typing.{IsTyped}
use Rattle.bv_expr.specs.Valuations.{values_of}

-- nodes, those that are to be true, and the one that is asked
pub record Asked : Type 0 where
  pub vars : ℕ
  pub nodes : List QNode
  pub conjuncts : List ℕ
  pub asked : ℕ

-- the nodes that are to be true
abbrev pub claims : Asked → List ℕ
claims q = q.conjuncts ++ q.asked ∷ []

-- operands are earlier nodes of the widths that are asked for, the variables have numbers below the count, and
-- what is to be true has one bit
pub record IsQuestion (q : Asked) : Type 0 where
  pub typed : IsTyped q.nodes
  pub known : (i variable : ℕ) → slice_get q.nodes i ≡ Some (Input variable) → variable < q.vars
  pub bits : All (λ c. HasWidth q.nodes c 1) (claims q)

-- whether the numbered nodes are true, where env has the input bytes
abbrev pub are_true : (ℕ → ℕ) → List QNode → List ℕ → Bool
are_true env nodes numbers = list_all (λ k. slice_index (values_of env nodes) k == 1) numbers

-- whether the values meet a question
abbrev pub meets : (ℕ → ℕ) → Asked → Bool
meets env q = are_true env q.nodes (claims q)
