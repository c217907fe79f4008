-- What was found of the next step.
use Rattle.std.specs.Prelude.{◌≡◌, List}
use Rattle.rv_decode.specs.declared.instr.Instr.{Instr}
use Rattle.bv_expr.specs.declared.q_node.QNode.{QNode}
use Rattle.rel_step.specs.declared.here.Here.{Here}
use Rattle.rel_step.specs.declared.last.Last.{Last}
use Rattle.rel_step.specs.declared.stride.Stride.{Stride}
use Rattle.rel_step.specs.Runs.{performs}
use Rattle.rel_step.specs.Strides.{IsStride}
use Rattle.rel_step.specs.Plans.{IsMoved}
use Rattle.rel_step.specs.Keeping.{TellsSame}
use Rattle.rel_step.specs.PathNodes.{Goes}

-- the stride of an instruction, and what is kept of it
pub record IsStepOf (nodes : List QNode) (here : Here) (instr : Instr) (shown : Stride) (last : Last) : Type 0 where
  pub stride : IsStride nodes here.pc (performs here instr) shown
  pub equal : TellsSame nodes (performs here instr) last.equal
  pub goes : Goes nodes (performs here instr) last
  pub moved : IsMoved nodes here (performs here instr) last.moved
  pub nexts : last.nexts ≡ shown.nexts
  pub target : last.target ≡ shown.target
