use Rattle.std.proofs.Common.{◌≡◌, true, take, ◌≤◌, length}
use Rattle.std.specs.Prelude.{reverse}
use Rattle.cnf_form.specs.Clauses.{is_ascending}
use Rattle.cdcl.specs.Analysis.{IsAnalysis}
use Rattle.cdcl.proofs.analysis.analyze.Given as goal

abbrev pub invariant-walk : goal.invariant-walk
invariant-walk l = record {
  within : l.at ≤ length l.entries;
  ascending : is_ascending l.derived.so_far.items ≡ true;
  analysis : IsAnalysis l.clauses l.trail.entries (reverse (take l.at l.entries)) l.derived.so_far.items l.derived.chain.items;
}

abbrev pub decreases-walk : goal.decreases-walk
decreases-walk l = l.at
