use Rattle.std.proofs.Common.{sym, refl}
use Rattle.rv_machine.proofs.Rows.{all_allowed_run, loaded_run}
use Rattle.rv_machine.proofs.machine.Machine.read.Goals as goal

pub returns-in-Some : goal.returns-in-Some
returns-in-Some c =
    let allowed = all_allowed_run _ _ _ _ _ (sym c.in-Some.ensures.first) c.in-Some.ensures.others in
    let value = loaded_run c.args.image.now c.args.self.now c.args.address c.args.bytes c.in-Some.index c.in-Some.ensures.others in
    rw (allowed, value, c.value_at.ensures) refl
