use Rattle.std.proofs.Common.{ap, ◌∙◌, refl}
use Rattle.std.specs.Prelude.{not}
use Rattle.gate_form.specs.declared.wire.Wire.{Wire}
use Rattle.gate_form.specs.Net.{bit}
use Rattle.bit_arith.proofs.Ordering.{less_of}
use Rattle.bit_arith.proofs.order.less.Goals as goal

pub returns-clause-value : goal.returns-clause-value
returns-clause-value c =
    less_of _ _ _ _ _ _ _ refl c.requires.width c.in_ok-difference.ensures.value (λ v. c.not.ensures.value v ∙ ap (λ (w : Wire). not (bit v w)) c.index.ensures)
