-- A check that leaves nothing open tells exactly the leak sites.
use Rattle.std.proofs.Common.{◌≡◌, ◌<◌, ℕ, List, [], length, map, slice_index_or, sym, ◌∙◌, ap, subst, inl, inr, arith}
use Rattle.std.proofs.lemmas.List.{length-map}
use Rattle.std.specs.List.{Contains}
use Rattle.std.specs.List.Sorted.{IsStrictlyIncreasing}
use Rattle.std.proofs.lemmas.Bool.{cases_order}
use Rattle.std.proofs.lemmas.List.{get_or-map, get_or_default}
use Rattle.std.proofs.lemmas.List.Elements.{All-map}
use Rattle.std.proofs.lemmas.List.Kept.{AllPairs-from_increasing}
use Rattle.ct_pairs.specs.declared.job.Job.{Job}
use Rattle.ct_pairs.specs.declared.pair.Pair.{Pair}
use Rattle.ct_pairs.specs.declared.found.Found.{Found}
use Rattle.ct_pairs.specs.Pair.{left_trail, right_trail}
use Rattle.ct_pairs.specs.Split.{SplitsAt}
use Rattle.ct_pairs.specs.Sites.{HasSite, IsLeastStep, AreLeakSites}
use Rattle.ct_pairs.specs.Covered.{sites_of, IsCovered}
use Rattle.ct_pairs.proofs.SplitLemmas.{FirstSplit-apart}
use Rattle.ct_pairs.proofs.SiteLemmas.{split_once}
use Rattle.ct_entries.specs.declared.listed.Listed.{Listed}
use Rattle.ct_entries.specs.Covering.{IsAccounted}
use Rattle.ct_report.specs.declared.outcome.Outcome.{Outcome}
use Rattle.ct_report.specs.Outcomes.{IsCheckOf}
use Rattle.ct_main.proofs.Exact.{sites_are}

-- of two rows of a table whose sites rise, one stands at a site
below : (table : List (ℕ × ℕ)) (site a b k m : ℕ) → IsStrictlyIncreasing (map (λ row. row.0) table) → k < m → m < length table → slice_index_or table k (site, a) ≡ (site, a) → slice_index_or table m (site, b) ≡ (site, b) → ⊥
below table site a b k m rising less within first second =
    let long : length (map (λ (row : ℕ × ℕ). row.0) table) ≡ length table = length-map table (λ (row : ℕ × ℕ). row.0) in
    let pair = AllPairs-from_increasing (map (λ (row : ℕ × ℕ). row.0) table) rising k m site less (omega (arith, within, long)) in
    let one : slice_index_or (map (λ (row : ℕ × ℕ). row.0) table) k site ≡ site =
    get_or-map (λ (row : ℕ × ℕ). row.0) table k (site, a) site (omega (arith, less, within)) ∙ ap (λ (row : ℕ × ℕ). row.0) first in
    let other : slice_index_or (map (λ (row : ℕ × ℕ). row.0) table) m site ≡ site =
    get_or-map (λ (row : ℕ × ℕ). row.0) table m (site, b) site within ∙ ap (λ (row : ℕ × ℕ). row.0) second in
    omega (arith, pair, one, other)

-- a table whose sites rise has one step at a site
one_step : (table : List (ℕ × ℕ)) (site a b : ℕ) → IsStrictlyIncreasing (map (λ row. row.0) table) → Contains table (site, a) → Contains table (site, b) → a ≡ b
one_step table site a b rising first second = elim (cases_order first.0 second.0) [
  | inl same ↦
      let at : slice_index_or table first.0 (site, b) ≡ (site, b) = subst (λ k. slice_index_or table k (site, b) ≡ (site, b)) (sym same) second.2 in
      ap (λ (row : ℕ × ℕ). row.1) (sym first.2 ∙ get_or_default table first.0 (site, a) (site, b) first.1 ∙ at)
  | inr (inl less) ↦ absurd (below table site a b first.0 second.0 rising less second.1 first.2 second.2)
  | inr (inr more) ↦ absurd (below table site b a second.0 first.0 rising more first.1 second.2 first.2)
]

-- a pair that splits has its site in the table
covered_site : (job : Job) (table : List Found) (pair : Pair) (site step : ℕ) → IsCovered job table pair → SplitsAt job pair site step → HasSite (sites_of table) site step
covered_site job table pair site step (inl agrees) split =
    absurd (FirstSplit-apart (left_trail job pair job.bound) (right_trail job pair job.bound) step split.left split.right split.first agrees)
covered_site job table pair site step (inr at) split =
    let once = split_once job pair at.0 at.1 site step at.2 split in
    let there = subst (λ s. HasSite (sites_of table) s at.1) once.0 at.3 in
    subst (HasSite (sites_of table) site) once.1 there

accounted_site : (job : Job) (table : List Found) (listed : List Listed) (pair : Pair) (site step : ℕ) → listed ≡ [] → IsAccounted job table listed pair → SplitsAt job pair site step → HasSite (sites_of table) site step
accounted_site job table listed pair site step nothing (inl covered) split = covered_site job table pair site step covered split
accounted_site job table listed pair site step nothing (inr place) split =
    absurd (let long : length listed ≡ 0 = ap length nothing in omega (arith, long, place.2))

pub leak_sites : (job : Job) (outcome : Outcome) → IsCheckOf job outcome → outcome.listed ≡ [] → AreLeakSites job (sites_of outcome.sites)
leak_sites job outcome check nothing =
    let rising : IsStrictlyIncreasing (map (λ (row : ℕ × ℕ). row.0) (sites_of outcome.sites)) = subst IsStrictlyIncreasing (sym (sites_are outcome.sites)) check.ascending in
    let every : (pair : Pair) (site step : ℕ) → SplitsAt job pair site step → HasSite (sites_of outcome.sites) site step =
    λ pair site step split. accounted_site job outcome.sites outcome.listed pair site step nothing (check.every pair split.is_pair) split in
    record {
      ascending = rising;
      each = All-map (λ (row : ℕ × ℕ). IsLeastStep job row.0 row.1) {Y = Found} (λ (found : Found). (found.site, found.step)) outcome.sites (λ k d within.
          let found = slice_index_or outcome.sites k d in
          let row : Contains (sites_of outcome.sites) (found.site, found.step) =
          (k, omega (arith, within, length-map {B = ℕ × ℕ} outcome.sites (λ (one : Found). (one.site, one.step))), get_or-map {Y = ℕ × ℕ} (λ (one : Found). (one.site, one.step)) outcome.sites k d (found.site, found.step) within) in
          record {
            pair = found.pair;
            splits = check.found k d within;
            none_earlier = λ other later split.
                let has = every other found.site later split in
                let same = one_step (sites_of outcome.sites) found.site found.step has.0 rising row has.1 in
                omega (arith, same, has.2);
          });
      every = every;
    }
