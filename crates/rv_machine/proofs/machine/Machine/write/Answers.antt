use Rattle.std.proofs.Common.{sym}
use Rattle.rv_machine.proofs.Rows.{all_allowed_run, stored_run}
use Rattle.rv_machine.proofs.machine.Machine.write.Goals as goal

pub returns-in-Some-clause-allowed : goal.returns-in-Some-clause-allowed
returns-in-Some-clause-allowed c = sym (all_allowed_run _ _ _ _ _ (sym c.in-Some.ensures.first) c.in-Some.ensures.others)

pub returns-in-Some-clause-after : goal.returns-in-Some-clause-after
returns-in-Some-clause-after c =
    let allowed = all_allowed_run _ _ _ _ _ (sym c.in-Some.ensures.first) c.in-Some.ensures.others in
    let stored = stored_run c.args.image.now c.args.self.now.bytes c.args.address c.args.bytes c.args.value c.in-Some.index c.in-Some.ensures.others in
    rw (allowed, stored) c.set_value.ensures
