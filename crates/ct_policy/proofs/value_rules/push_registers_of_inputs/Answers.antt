use Rattle.std.proofs.Common.{◌++◌, [], pos, take, sym, ◌∙◌, ap, append-nil, arith}
use Rattle.std.specs.List.{filter_map, cons_option}
use Rattle.ct_document.specs.declared.register.Register.TheVariants.{Number}
use Rattle.ct_document.specs.declared.kind.Kind.TheVariants.{Public}
use Rattle.ct_document.specs.declared.input.Input.TheVariants.{Register}
use Rattle.ct_policy.specs.Policy.{input_register}
use Rattle.ct_policy.proofs.Lists.{pushed, filter_map_more}
use Rattle.ct_policy.proofs.value_rules.push_registers_of_inputs.Goals as goal
use Rattle.ct_policy.proofs.value_rules.push_registers_of_inputs.Goals.{in-Some+in_ok-push, in_default}

pub loop-input-preserved : goal.loop-input-preserved
loop-input-preserved c =
    let inputs = c.args.inputs.now in
    let index = c.loop-input.input-index in
    let done = filter_map input_register (take index inputs) in
    let more = filter_map_more input_register inputs index (Register (Number 0) (pos 0) Public) (omega arith) in
    elim c.match-input_register.branch [
      | in-Some+in_ok-push w ↦
          let gives = sym c.input_register.ensures ∙ w.in-Some.is in
          rw w.registers-is (pushed _ _ _ _ _ _ w.in_ok-push.ensures.items c.loop-input.invariant (more ∙ ap (λ last. done ++ cons_option last []) gives))
      | in_default w ↦
          let gives = sym c.input_register.ensures ∙ w.in_default.is in
          let same = more ∙ ap (λ last. done ++ cons_option last []) gives ∙ append-nil done in
          rw w.registers-is (c.loop-input.invariant ∙ ap (λ registers. c.args.registers.now.items ++ registers) (sym same))
    ]
