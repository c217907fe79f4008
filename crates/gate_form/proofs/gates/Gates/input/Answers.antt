use Rattle.std.proofs.Common.{sym, subst, List}
use Rattle.gate_form.specs.declared.wire.Gate.{Gate}
use Rattle.gate_form.specs.Run.{Keeps}
use Rattle.gate_form.proofs.Growing.{Keeps-push, appended, invariant-appended}
use Rattle.gate_form.proofs.gates.Gates.input.Goals as goal

pub invariant_of-self-2 : goal.invariant_of-self-2
invariant_of-self-2 c =
    invariant-appended _ _ _ c.self.invariant.0 c.self.invariant.1 (appended _ _ _ c.self.invariant.0 c.self.invariant.1 c.in_ok-insert.ensures.keys)

pub returns-clause-appended : goal.returns-clause-appended
returns-clause-appended c =
    rw (← c.self.view_is) (appended _ _ _ c.self.invariant.0 c.self.invariant.1 c.in_ok-insert.ensures.keys)

pub returns-clause-kept : goal.returns-clause-kept
returns-clause-kept c =
    let is = appended _ _ _ c.self.invariant.0 c.self.invariant.1 c.in_ok-insert.ensures.keys in
    let P : List Gate → Type 0 = λ new. Keeps c.args.self.now new in
    subst P (sym is) (rw (← c.self.view_is) (Keeps-push _ _))
