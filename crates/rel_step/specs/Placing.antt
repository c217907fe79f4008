-- Where two runs start.
use Rattle.std.specs.Prelude.{◌≡◌, ℕ, ◌*◌, Bool, List, length, drop, map, slice_index, All}
use Rattle.bv_expr.specs.declared.q_node.QNode.{QNode}
use Rattle.bv_expr.specs.Nodes.{IsValuation}
use Rattle.bv_expr.specs.Growth.{Extends, AddsNoInput}
use Rattle.ct_pairs.specs.declared.place.Place.{Place}
use Rattle.ct_pairs.specs.declared.job.Job.{Job}
use Rattle.ct_pairs.specs.Start.{placed, all_placed}
use Rattle.rel_store.specs.declared.rel_value.RelValue.{RelValue}
use Rattle.rel_store.specs.Sides.{side_id, HasSides}
use Rattle.rel_store.specs.declared.rel_registers.TheConstants.{REGISTERS}
use Rattle.rel_memory.specs.Contents.{HasNumbersOnly}
use Rattle.rel_step.specs.declared.here.Here.{Here}
use Rattle.rel_step.specs.Bridge.{side_inputs, side_start}
use Rattle.rel_step.specs.Runs.{IsHere, state_of}
use Rattle.rel_step.specs.PathNodes.{AreVariablesBelow}

-- an input byte was put in its place in both runs
pub record IsPlaced (old new : List QNode) (before : Here) (place : Place) (held : RelValue) (after : Here) : Type 0 where
  pub extends : Extends old new 10
  pub no_input : AddsNoInput old new
  pub here : IsHere new after
  pub pc : after.pc ≡ before.pc
  pub image : after.memory.image ≡ before.memory.image
  pub numbers : HasNumbersOnly after.memory
  pub states : (right : Bool) (env v : ℕ → ℕ) → IsValuation env v new → state_of right v after ≡ placed before.memory.image place (v (side_id right held)) (state_of right v before)

-- the registers have these values
pub record AreSet (nodes : List QNode) (values : ℕ → ℕ) (registers : List RelValue) : Type 0 where
  pub count : length registers ≡ REGISTERS
  pub words : All (HasSides nodes 32) registers
  pub are : (right : Bool) (env v : ℕ → ℕ) → IsValuation env v nodes → (k : ℕ) → slice_index (map (λ value. v (side_id right value)) registers) k ≡ values k

-- the first input bytes of a job were put in their places, and with the others the states are the starts
pub record IsStarted (job : Job) (count : ℕ) (nodes : List QNode) (at : Here) : Type 0 where
  pub here : IsHere nodes at
  pub pc : at.pc ≡ job.entry
  pub image : at.memory.image ≡ job.image
  pub numbers : HasNumbersOnly at.memory
  pub variables : AreVariablesBelow (2 * count) nodes
  pub states : (right : Bool) (env v : ℕ → ℕ) → IsValuation env v nodes
      → all_placed job.image (drop count job.inputs) (side_inputs right env (2 * count) (drop count job.inputs)) (state_of right v at) ≡ side_start right job env
