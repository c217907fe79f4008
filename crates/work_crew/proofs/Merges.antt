-- The outcome of a tree of paths.
use Rattle.std.proofs.Common.{◌≡◌, ℕ, List, [], ap, subst, inl, inr, arith}
use Rattle.std.specs.List.{Contains}
use Rattle.std.specs.List.Sorted.{IsPermutation, IsSorted}
use Rattle.std.proofs.lemmas.List.Elements.{All-contains, All-weaker}
use Rattle.std.proofs.lemmas.List.Sorted.{All-permutation}
use Rattle.ct_pairs.specs.declared.job.Job.{Job}
use Rattle.ct_pairs.specs.declared.pair.Pair.{Pair}
use Rattle.ct_pairs.specs.declared.found.Found.{Found}
use Rattle.ct_pairs.specs.Sites.{HasSite}
use Rattle.ct_pairs.specs.Covered.{sites_of}
use Rattle.ct_pairs.proofs.ValuesLemmas.{Contains-map_only}
use Rattle.ct_entries.specs.declared.listed.Listed.{Listed}
use Rattle.ct_entries.specs.Entries.{IsTrueFound, IsTrueListed, CoversAt}
use Rattle.ct_entries.specs.Covering.{IsAccounted, LeavesNoNext}
use Rattle.ct_report.specs.declared.outcome.Outcome.{Outcome}
use Rattle.ct_report.specs.Outcomes.{place_order, IsCheckOf}
use Rattle.work_crew.specs.declared.exploring.Explored.{Explored}
use Rattle.work_crew.specs.Exploring.{IsExploring}
use Rattle.work_crew.specs.Merging.{IsMerged}
use Rattle.work_crew.proofs.Tree.{explored_last}
use Rattle.work_crew.proofs.Counted.{counted_last}
use Rattle.work_crew.proofs.Reordered.{Any-permutation}
use Rattle.std.proofs.lemmas.List.Sorted.{IsPermutation-sym}

merged_site : (found table : List Found) (site step : ℕ) → IsMerged found table → HasSite (sites_of found) site step → HasSite (sites_of table) site step
merged_site found table site step m (first, there, below) =
    let (one, at, is) = Contains-map_only (λ (row : Found). (row.site, row.step)) found (site, first) there in
    let (least, row, before) = m.least one at in
    (least, subst (λ s. Contains (sites_of table) (s, least)) (ap (λ (p : ℕ × ℕ). p.0) is) row, omega (arith, before, below, ap (λ (p : ℕ × ℕ). p.1) is))

merged_accounts : (job : Job) (found table : List Found) (listed places : List Listed) (pair : Pair) → IsMerged found table → IsPermutation listed places → IsAccounted job found listed pair → IsAccounted job table places pair
merged_accounts job found table listed places pair m moved (inl (inl agrees)) = inl (inl agrees)
merged_accounts job found table listed places pair m moved (inl (inr (site, step, split, there))) = inl (inr (site, step, split, merged_site found table site step m there))
merged_accounts job found table listed places pair m moved (inr place) = inr (Any-permutation (λ (one : Listed). CoversAt job one.path one.cause pair) listed places moved place)

-- what was explored, put in order
pub check_is : (job : Job) (explored : Explored) (outcome : Outcome) → IsExploring job explored [] → IsMerged explored.found.items outcome.sites → IsPermutation explored.listed.items outcome.listed
    → IsSorted place_order outcome.listed → outcome.doubts ≡ explored.doubts → outcome.paths ≡ explored.ends → IsCheckOf job outcome
check_is job explored outcome e m moved sorted doubts paths =
    let counts = counted_last job explored.ends explored.doubts explored.listed.items e.counts in
    record {
      every = λ pair is. merged_accounts job explored.found.items outcome.sites explored.listed.items outcome.listed pair m moved (explored_last job explored.found.items explored.listed.items e.explores pair is);
      found = All-weaker (Contains explored.found.items) (IsTrueFound job) (λ one there. All-contains (IsTrueFound job) explored.found.items one e.explores.found_true there) outcome.sites m.rows;
      listed = All-permutation (IsTrueListed job) explored.listed.items outcome.listed moved e.explores.listed_true;
      ascending = m.ascending;
      in_order = sorted;
      most = omega (arith, counts.0, doubts, paths);
      least = λ none. omega (arith, counts.1 (All-permutation LeavesNoNext outcome.listed explored.listed.items (IsPermutation-sym explored.listed.items outcome.listed moved) none), paths);
    }
