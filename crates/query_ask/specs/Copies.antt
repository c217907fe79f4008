-- Nodes that are numbered anew.
use Rattle.std.specs.Prelude.{◌≡◌, ℕ, ◌<◌, List, ◌∷◌, [], Bool, nat_eq, length, Some, slice_get, slice_index, All}
use Rattle.std.specs.List.{list_any}
use Rattle.bv_expr.specs.declared.q_node.QNode.{QNode}
use Rattle.bv_expr.specs.declared.q_node.QNode.TheVariants.{Constant, Input, Alu, Test, Not, Both, Pick, Join, Byte}
use Rattle.bv_expr.specs.Typing.{HasEarlier}
use Rattle.bit_blast.specs.Cone.{IsInCone}

-- a node whose operands have the numbers that f gives
abbrev pub renumbered : (ℕ → ℕ) → QNode → QNode
renumbered f (Constant width value) = Constant width value
renumbered f (Input variable) = Input variable
renumbered f (Alu op a b) = Alu op (f a) (f b)
renumbered f (Test cond a b) = Test cond (f a) (f b)
renumbered f (Not a) = Not (f a)
renumbered f (Both a b) = Both (f a) (f b)
renumbered f (Pick when true_side false_side) = Pick (f when) (f true_side) (f false_side)
renumbered f (Join b0 b1 b2 b3) = Join (f b0) (f b1) (f b2) (f b3)
renumbered f (Byte word k) = Byte (f word) k

-- each of the copies is the node from which it comes, with the copies of its operands before it
pub record AreCopies (nodes : List QNode) (origins : List ℕ) (copies : List QNode) : Type 0 where
  pub as_many : length copies ≡ length origins
  pub earlier : (k : ℕ) (n : QNode) → slice_get copies k ≡ Some n → HasEarlier k n
  pub at : (k : ℕ) (n : QNode) → slice_get copies k ≡ Some n → slice_get nodes (slice_index origins k) ≡ Some (renumbered (slice_index origins) n)

-- whether a node has a copy
abbrev pub is_copied : List ℕ → ℕ → Bool
is_copied origins i = list_any (nat_eq i) origins

-- the numbers that were given stay
abbrev pub KeepsNumbers : List ℕ → List ℕ → Type 0
KeepsNumbers old new = (k : ℕ) → k < length old → (k < length new) × (slice_index new k ≡ slice_index old k)

-- the variables on which node i depends are below the count
abbrev pub HasVars : List QNode → ℕ → ℕ → Type 0
HasVars nodes vars i = (j variable : ℕ) → IsInCone nodes (i ∷ []) j → slice_get nodes j ≡ Some (Input variable) → variable < vars

-- the copies are right, and their variables are below the count
pub record IsCopying (nodes : List QNode) (vars : ℕ) (origins : List ℕ) (copies : List QNode) : Type 0 where
  pub right : AreCopies nodes origins copies
  pub known : All (HasVars nodes vars) origins
