use Rattle.ct_report.proofs.SiteKinds.{sites_have_kinds}
use Rattle.ct_report.proofs.laws.sites_law.Goals as goal

pub returns : goal.returns
returns c = sites_have_kinds c.args.job.now c.args.sites.now c.requires
