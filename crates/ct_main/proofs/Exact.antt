-- The check of all pairs is a check.
use Rattle.std.proofs.Common.{◌≡◌, ℕ, List, [], ◌∷◌, map, refl, ap, subst, inl, arith}
use Rattle.std.specs.List.{All}
use Rattle.std.specs.List.Sorted.{IsStrictlyIncreasing}
use Rattle.std.proofs.lemmas.List.Elements.{All-nil}
use Rattle.ct_pairs.specs.declared.job.Job.{Job}
use Rattle.ct_pairs.specs.declared.found.Found.{Found}
use Rattle.ct_pairs.specs.declared.byte_table.ByteTable.{ByteTable}
use Rattle.ct_pairs.specs.LeastPair.{IsLeastPair}
use Rattle.ct_pairs.specs.Paths.{path_count}
use Rattle.ct_pairs.specs.Sites.{AreLeakSites}
use Rattle.ct_pairs.specs.Covered.{sites_of, CoversPairs}
use Rattle.ct_entries.specs.Entries.{IsTrueListed}
use Rattle.ct_report.specs.Report.{outcome_of}
use Rattle.ct_main.specs.Outcomes.{IsByteCheckOf}

-- the sites of rows
pub sites_are : (table : List Found) → map (λ (row : ℕ × ℕ). row.0) (sites_of table) ≡ map (λ (found : Found). found.site) table
sites_are [] = refl
sites_are (found ∷ table) = ap (λ sites. found.site ∷ sites) (sites_are table)

pub outcome_is : (job : Job) (table : ByteTable) → AreLeakSites job (sites_of table.sites) → All (λ found. IsLeastPair job found.site found.step found.pair) table.sites
    → table.paths ≡ path_count job → CoversPairs job table.sites → IsByteCheckOf job (outcome_of table)
outcome_is job table sites pairs paths covered = record {
  check = record {
    every = λ pair is. inl (covered.every pair is);
    found = covered.each;
    listed = All-nil (IsTrueListed job);
    ascending = subst IsStrictlyIncreasing (sites_are table.sites) sites.ascending;
    in_order = λ k d low high. absurd (omega (arith, high));
    most = omega (arith, paths);
    least = λ none. omega (arith, paths);
  };
  exact = record {
    sites = sites;
    pairs = pairs;
    paths = paths;
    nothing = refl;
    doubts = refl;
  };
}
