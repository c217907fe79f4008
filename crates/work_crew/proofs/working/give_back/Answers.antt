use Rattle.std.proofs.Common.{[], refl}
use Rattle.path_tree.specs.declared.entered.PoolCall.TheVariants.{GaveBack}
use Rattle.work_crew.proofs.Seats.{has_stay}
use Rattle.work_crew.proofs.working.give_back.Goals as goal

pub returns : goal.returns
returns g c = record {
  account = has_stay c.args.job.now c.args.pool.now c.args.account.now.seat c.give_back-given.new.seat (GaveBack c.args.number) [] c.args.account.now.records.items c.give_back-given.ensures.made refl c.requires.account;
}
