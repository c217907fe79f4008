use Rattle.std.proofs.Common.{sym, refl, ◌+◌, ◌∙◌, arith}
use Rattle.std.proofs.lemmas.List.{take_rest}
use Rattle.ct_document.specs.declared.register.Register.TheVariants.{Number}
use Rattle.ct_policy.proofs.RegisterLemmas.{are_registers-drop, are_registers-end}
use Rattle.ct_policy.proofs.value_rules.are_registers.Goals as goal

pub returns-then-not-is_once : goal.returns-then-not-is_once
returns-then-not-is_once c =
    let rest = take_rest c.args.registers.now (c.loop-index.index + 1) in
    let fails = rw rest at (sym c.is_once.ensures ∙ c.if-not-is_once.true) in
    sym (are_registers-drop c.args.registers.now c.loop-index.index (Number 0) (omega arith) ∙ rw fails refl) ∙ c.loop-index.invariant

pub loop-index-preserved : goal.loop-index-preserved
loop-index-preserved c =
    let rest = take_rest c.args.registers.now (c.loop-index.index + 1) in
    let holds = rw rest at (sym c.is_once.ensures ∙ c.if-not-is_once.false) in
    sym (are_registers-drop c.args.registers.now c.loop-index.index (Number 0) (omega arith) ∙ rw holds refl) ∙ c.loop-index.invariant

pub returns : goal.returns
returns c = sym (are_registers-end c.args.registers.now c.loop-index.index (omega arith)) ∙ c.loop-index.invariant
