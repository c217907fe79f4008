-- The words of nodes, and the walk that makes them.
use Rattle.std.specs.Prelude.{ℕ, ◌≡◌, ◌+◌, ◌*◌, ◌<◌, ◌≤◌, Bool, List, ◌++◌, ◌∷◌, [], length, Option, Some, None, slice_index, true, All}
use Rattle.gate_form.specs.declared.wire.Wire.{Wire}
use Rattle.gate_form.specs.declared.wire.Gate.{Gate}
use Rattle.gate_form.specs.Net.{AreIn, input_count}
use Rattle.gate_form.specs.Run.{IsRun}
use Rattle.bit_arith.specs.Number.{word}
use Rattle.bv_expr.specs.declared.q_node.QNode.{QNode}
use Rattle.bv_expr.specs.Nodes.{AreBytes, IsValuation, AreWidths}
use Rattle.bv_expr.specs.Walk.{IsWalking, unfinished_below, rest_of}
use Rattle.bit_blast.specs.declared.limits.TheConstants.{NODE_GATES}
use Rattle.bit_blast.specs.declared.blaster.Blaster.{Blaster}
use Rattle.bit_blast.specs.Bytes.{HasBytes, IsByteWord}
use Rattle.bit_blast.specs.Cone.{IsInCone}
use Rattle.bit_blast.specs.Roots.{AreApart}
use Rattle.bit_blast.specs.NodeWords.{has_word}
use Rattle.bit_blast.specs.WordMaps.{words_of}

-- the word of node j has its width, and its value under every valuation, whatever variables come later
pub record IsNodeWord (gates : List Gate) (vars : List ℕ) (nodes : List QNode) (j : ℕ) (wires : List Wire) : Type 0 where
  pub inside : AreIn gates wires
  pub width_is : (ws : ℕ → ℕ) → AreWidths ws nodes → length wires ≡ ws j
  pub value_is : (env v : ℕ → ℕ) (g : ℕ → Bool) (later : List ℕ) → AreBytes env → IsValuation env v nodes → IsRun g gates → HasBytes env g gates (vars ++ later) → word g wires ≡ v j

-- all words so far are right, and each variable has its word and eight inputs
pub record AreWords (nodes : List QNode) (gates : List Gate) (vars : List ℕ) (bytes words : ℕ → Option (List Wire)) : Type 0 where
  pub inputs : input_count gates ≡ 8 * length vars
  pub apart : AreApart vars
  pub bytes_known : All (λ x. has_word bytes x ≡ true) vars
  pub bytes_are : (x : ℕ) (w : List Wire) → bytes x ≡ Some w → IsByteWord gates vars x w
  pub words_are : (j : ℕ) (w : List Wire) → words j ≡ Some w → IsNodeWord gates vars nodes j w

-- all words of a blaster are right
abbrev pub AreRight : List QNode → Blaster → Type 0
AreRight nodes b = AreWords nodes b.gates b.vars.items (words_of b.bytes) (words_of b.words)

-- all words are right, only nodes on which the roots depend have some, and the others have taken no gates
pub record IsBlasting (nodes : List QNode) (roots : List ℕ) (b : Blaster) : Type 0 where
  pub right : AreRight nodes b
  pub needed : (k : ℕ) → has_word (words_of b.words) k ≡ true → IsInCone nodes roots k
  pub room : length b.gates + NODE_GATES * unfinished_below (has_word (words_of b.words)) (length nodes) ≤ 1 + NODE_GATES * length nodes

-- the walk for the words of the roots stands at top, and the nodes of below wait
pub record IsAt (nodes : List QNode) (roots : List ℕ) (b : Blaster) (below : List ℕ) (top : ℕ) : Type 0 where
  pub blasting : IsBlasting nodes roots b
  pub walking : IsWalking (length nodes) (has_word (words_of b.words)) below top
  pub needed : All (IsInCone nodes roots) (below ++ top ∷ [])

-- the numbers that had words have them still
abbrev pub KeepsWords : (ℕ → Option (List Wire)) → (ℕ → Option (List Wire)) → Type 0
KeepsWords old new = (k : ℕ) → has_word old k ≡ true → has_word new k ≡ true

-- one step of a walk that stood at top with the nodes of below waiting: it is over and top is finished, or it goes on
-- with less left to do and the same first node
abbrev pub Moves : ℕ → (ℕ → Bool) → List ℕ → ℕ → (ℕ → Bool) → List ℕ → Option ℕ → Type 0
Moves size finished below top new_finished new_below None = (below ≡ []) × (new_finished top ≡ true)
Moves size finished below top new_finished new_below (Some next) = IsWalking size new_finished new_below next
    × (rest_of size new_finished next < rest_of size finished top)
    × (slice_index (new_below ++ next ∷ []) 0 ≡ slice_index (below ++ top ∷ []) 0)
