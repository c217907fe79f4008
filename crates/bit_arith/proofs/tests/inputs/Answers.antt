use Rattle.std.proofs.Common.{arith, ap, ◌∙◌, length}
use Rattle.std.proofs.lemmas.List.{length_push}
use Rattle.gate_form.specs.declared.wire.Wire.{Wire}
use Rattle.bit_arith.proofs.WordLaws.{AreIn-push}
use Rattle.bit_arith.proofs.tests.inputs.Goals as goal

pub loop-i-preserved : goal.loop-i-preserved
loop-i-preserved c =
    let gates = c.in_ok-input.ensures.kept in
    let longer = ap length c.in_ok-input.ensures.appended in
    record {
      width = ap length c.in_ok-push.ensures.items ∙ length_push _ _ ∙ omega (arith, c.loop-i.invariant.width);
      inside = rw c.in_ok-push.ensures.items (AreIn-push c.loop-i.gates _ _ _ gates.least c.loop-i.invariant.inside
          (omega (arith, ap (λ (w : Wire). w.gate) c.in_ok-input.ensures.wire, longer, length_push c.loop-i.gates)));
      grows = omega (arith, gates.least, c.loop-i.invariant.grows);
    }
