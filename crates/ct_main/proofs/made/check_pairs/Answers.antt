use Rattle.ct_main.proofs.Exact.{outcome_is}
use Rattle.ct_main.proofs.made.check_pairs.Goals as goal

pub returns : goal.returns
returns c =
    let told = c.in_ok-table.ensures in
    rw c.of_table.ensures (outcome_is c.args.job.now _ told.sites told.pairs told.paths told.covered)
