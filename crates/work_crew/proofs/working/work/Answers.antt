use Rattle.std.proofs.Common.{sym, subst}
use Rattle.work_crew.specs.declared.member.Account.{Account}
use Rattle.work_crew.specs.Crew.{IsAccount}
use Rattle.work_crew.proofs.working.work.Goals as goal
use Rattle.work_crew.proofs.working.work.Goals.{in-None, in-Some+in_default, in-Some+in-Ok-Some+in_default-work_off}

pub returns : goal.returns
returns g c =
    let is = λ (account : Account). IsAccount c.args.job.now c.args.pool.now account in
    elim c.match-next.branch [
      | in-None w ↦ subst is (sym w.account-is) c.paths.invariant.account
      | in-Some+in_default w ↦ subst is (sym w.account-is) w.next_path.ensures.account
      | in-Some+in-Ok-Some+in_default-work_off w ↦ subst is (sym w.account-is) w.work_off.ensures.account
    ]
