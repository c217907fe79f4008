-- What a step that is taken leaves.
use Rattle.std.specs.Prelude.{◌≡◌, ℕ, Bool, List, map, fold}
use Rattle.bv_expr.specs.declared.q_node.QNode.{QNode}
use Rattle.bv_expr.specs.Nodes.{IsValuation}
use Rattle.rel_memory.specs.Contents.{Contents, IsMemory, byte_in}
use Rattle.rel_memory.specs.declared.contents.Written.{Written}
use Rattle.rel_step.specs.declared.here.Here.{Here}
use Rattle.rel_step.specs.declared.planned.Moved.{Moved}
use Rattle.rel_step.specs.Runs.{IsHere, state_of}
use Rattle.rel_step.specs.Plans.{with_byte, after_moved}

-- the bytes at the accessible addresses in one of the runs
abbrev pub bytes_in : Bool → (ℕ → ℕ) → Contents → List ℕ
bytes_in right v m = map (λ cell. byte_in right v m cell.address) m.image

-- bytes were stored one after another
pub record ArePut (nodes : List QNode) (old : Contents) (ones : List Written) (new : Contents) : Type 0 where
  pub image : new.image ≡ old.image
  pub memory : IsMemory nodes new
  pub bytes : (right : Bool) (env v : ℕ → ℕ) → IsValuation env v nodes → bytes_in right v new ≡ fold (with_byte right v old.image) (bytes_in right v old) ones

-- a change was put in
pub record IsPutIn (nodes : List QNode) (old : Here) (moved : Moved) (new : Here) : Type 0 where
  pub here : IsHere nodes new
  pub image : new.memory.image ≡ old.memory.image
  pub states : (right : Bool) (env v : ℕ → ℕ) → IsValuation env v nodes → state_of right v new ≡ after_moved right v old.memory.image moved (state_of right v old)
