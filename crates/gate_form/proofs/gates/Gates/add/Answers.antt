use Rattle.std.proofs.Common.{◌∙◌, sym}
use Rattle.gate_form.proofs.Growing.{Grows-and, IsNet-and, input_count-and}
use Rattle.gate_form.proofs.gates.Gates.add.Goals as goal

pub invariant_of-self-2 : goal.invariant_of-self-2
invariant_of-self-2 c = (
  rw c.in_ok-index.ensures.keys (IsNet-and c.self.inside.gates.keys c.args.a c.args.b _ c.self.invariant.0 (rw c.self.view_is c.requires)),
  c.self.invariant.1 ∙ sym (rw c.in_ok-index.ensures.keys (input_count-and c.self.inside.gates.keys c.args.a c.args.b _)),
)

pub returns-clause-grows : goal.returns-clause-grows
returns-clause-grows c = rw (← c.self.view_is) (rw c.in_ok-index.ensures.keys (Grows-and _ c.args.a c.args.b _))
