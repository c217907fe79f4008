use Rattle.std.proofs.Common.{[], Ok, refl, subst}
use Rattle.path_tree.specs.declared.entered.PoolCall.TheVariants.{Took, Finished}
use Rattle.path_pool.specs.declared.pulled.Pulled.{Pulled}
use Rattle.path_pool.specs.Seats.{HasPulled}
use Rattle.work_crew.proofs.Seats.{has_stay}
use Rattle.work_crew.proofs.working.take.Goals as goal

pub returns-in-Path-clause-account : goal.returns-in-Path-clause-account
returns-in-Path-clause-account g c =
    let pulled = subst (λ (p : Pulled). HasPulled c.args.account.now.seat (Ok p) c.take.new.seat) c.in-Path.is c.in_ok-number.ensures.pulled in
    has_stay c.args.job.now c.args.pool.now c.args.account.now.seat c.take.new.seat (Took c.in-Path.number) [] c.args.account.now.records.items pulled.0 refl c.requires.account

pub returns-in-Finished-clause-account : goal.returns-in-Finished-clause-account
returns-in-Finished-clause-account g c =
    let pulled = subst (λ (p : Pulled). HasPulled c.args.account.now.seat (Ok p) c.take.new.seat) c.in-Finished.is c.in_ok-number.ensures.pulled in
    has_stay c.args.job.now c.args.pool.now c.args.account.now.seat c.take.new.seat Finished [] c.args.account.now.records.items pulled refl c.requires.account
