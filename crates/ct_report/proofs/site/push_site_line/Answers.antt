use Rattle.std.proofs.Common.{arith, rules}
use Rattle.ct_report.specs.Report.{site_line}
use Rattle.ct_report.proofs.SiteLine.{site_line_written}
use Rattle.ct_report.proofs.site.push_site_line.Goals as goal

pub returns : goal.returns
unfolding site_line
returns c = site_line_written _ _ _ _ _ _ _ (omega arith) c.in_ok-words.ensures (search rules)
