use Rattle.ct_main.proofs.LeakSites.{leak_sites}
use Rattle.ct_main.proofs.laws.leak_sites_law.Goals as goal

pub returns : goal.returns
returns c = leak_sites c.args.job.now c.args.outcome.now c.requires.check c.requires.nothing
