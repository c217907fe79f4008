use Rattle.std.proofs.Common.{◌≡◌, ◌∙◌, arith, sym, ap, subst, length, get_or, false, List, Some, Bool}
use Rattle.std.specs.Prelude.{is_some, slice_get}
use Rattle.std.proofs.lemmas.Option.{slice_get-get_or}
use Rattle.cnf_form.proofs.InputLaws.{Reading-start, Reading-skip, Reading-more, Reading-all, input_found, conjunction_found}
use Rattle.cnf_form.proofs.inputs.read_inputs.Goals as goal

pub loop-gate-init : goal.loop-gate-init
loop-gate-init c = Reading-start _ _ _ c.net_law.ensures.net c.new-inputs.ensures.items

pub loop-gate-preserved-then-is_some : goal.loop-gate-preserved-then-is_some
loop-gate-preserved-then-is_some c =
    Reading-skip _ _ _ _ c.loop-gate.invariant (omega arith) (conjunction_found c.args.gates.now c.loop-gate.gate (omega arith) (sym (c.if-is_some.ensures ∙ ap is_some c.operands.ensures)))

pub loop-gate-preserved : goal.loop-gate-preserved
loop-gate-preserved c =
    let P : List Bool → Type 0 = λ xs. slice_get xs c.loop-gate.gate ≡ Some (get_or c.as_slice-values.result.now c.loop-gate.gate false) in
    Reading-more _ _ _ _ _ _ c.net_law.ensures.net c.loop-gate.invariant (omega arith)
    (input_found c.args.gates.now c.loop-gate.gate c.net_law.ensures.net (omega arith) (omega arith) (sym (c.if-is_some.ensures ∙ ap is_some c.operands.ensures)))
    (subst P c.as_slice-values.ensures (slice_get-get_or c.as_slice-values.result.now c.loop-gate.gate false (omega (arith, ap length c.as_slice-values.ensures, c.requires)))) c.in_ok-push.ensures.items

pub returns : goal.returns
returns c = Reading-all _ _ _ _ (omega arith) c.loop-gate.invariant
