use Rattle.std.proofs.Common.{◌≡◌, ◌++◌, map}
use Rattle.ct_pairs.specs.ValueSplit.{found_of}
use Rattle.ct_pairs.proofs.noting.found_rows.Given as goal

-- the rows so far and those that are left are all
abbrev pub invariant-loop-site : goal.invariant-loop-site
invariant-loop-site l = l.rows.items ++ map found_of l.site-iterator ≡ map found_of l.leaks.entries
