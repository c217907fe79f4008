use Rattle.std.proofs.Common.{◌≡◌, ℕ, ◌<◌, Some}
use Rattle.std.specs.Prelude.{slice_get}
use Rattle.bv_expr.specs.declared.q_node.QNode.TheVariants.{Input}
use Rattle.rel_step.proofs.building.input_at.Given as goal

abbrev pub invariant-loop-i : goal.invariant-loop-i
invariant-loop-i l = (k : ℕ) → k < l.i → slice_get l.arena k ≡ Some (Input l.variable) → ⊥
