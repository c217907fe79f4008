use Rattle.ct_report.proofs.SiteKinds.{split_has_kind}
use Rattle.ct_report.proofs.laws.site_law.Goals as goal

pub returns : goal.returns
returns c = split_has_kind c.args.job.now
