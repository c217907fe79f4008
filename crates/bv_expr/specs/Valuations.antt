-- Each choice of input bytes gives a list of nodes exactly one valuation, and each node has exactly one width:
-- both are gathered from the first node on.
use Rattle.std.specs.Prelude.{ℕ, List, [], ◌∷◌, ◌++◌, fold, slice_index_or}
use Rattle.bv_expr.specs.Nodes.{node_value, node_width}
use Rattle.bv_expr.specs.declared.q_node.QNode.{QNode}

-- what was gathered so far, and what the rule gives for one more node
abbrev pub with_more : {X : Type 0} → X → ((ℕ → X) → QNode → X) → List X → QNode → List X
with_more none rule xs n = xs ++ rule (λ k. slice_index_or xs k none) n ∷ []

-- what the rule gives for each node, from what it gave for the nodes before
unfoldable pub gathered : {X : Type 0} → X → ((ℕ → X) → QNode → X) → List QNode → List X
gathered none rule nodes = fold (with_more none rule) [] nodes

-- the values of the nodes, where env has the input bytes
abbrev pub values_of : (ℕ → ℕ) → List QNode → List ℕ
values_of env nodes = gathered 0 (node_value env) nodes

-- the widths of the nodes
abbrev pub widths_of : List QNode → List ℕ
widths_of nodes = gathered 0 node_width nodes
