use Rattle.std.proofs.Common.{◌≡◌, ◌++◌, take, flat_map, string_bytes}
use Rattle.ct_report.specs.Report.{site_lines}
use Rattle.ct_report.proofs.site.push_sites.Given as goal

abbrev pub invariant-loop-found : goal.invariant-loop-found
invariant-loop-found l = string_bytes l.text ≡ string_bytes l.initial.text ++ flat_map (site_lines l.image) (take l.found-index l.sites)
