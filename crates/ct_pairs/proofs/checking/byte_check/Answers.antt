use Rattle.std.proofs.Common.{◌≡◌, List, map, length, All, sym, ◌∙◌, ap, subst, arith}
use Rattle.ct_pairs.specs.declared.found.Found.{Found}
use Rattle.ct_pairs.specs.Sites.{AreLeakSites}
use Rattle.ct_pairs.specs.LeastPair.{IsLeastPair}
use Rattle.ct_pairs.specs.Covered.{sites_of, CoversPairs}
use Rattle.ct_pairs.specs.ValueSplit.{found_of}
use Rattle.ct_pairs.specs.Survey.{IsSurveyed}
use Rattle.ct_pairs.proofs.SiteLemmas.{are_leak_sites, are_least, covers_pairs, path_count_is}
use Rattle.ct_pairs.proofs.SurveyLemmas.{surveyed-none}
use Rattle.ct_pairs.proofs.checking.byte_check.Goals as goal

pub loop-value-init : goal.loop-value-init
loop-value-init c = record {
  runs = c.in_ok-runs.ensures;
  surveyed = surveyed-none c.args.job.now c.new-2.result.items c.new-3.result c.new-4.result.keys c.new-2.ensures.items c.new-3.ensures.empty c.new-4.ensures.empty;
}

pub returns-clause-sites : goal.returns-clause-sites
returns-clause-sites c =
    let job = c.args.job.now in
    let leaks = c.loop-value.survey.leaks in
    let all : c.loop-value.value ≡ 256 = omega (arith, c.loop-value-test.false, c.loop-value.auto.value-end) in
    let s = subst (λ n. IsSurveyed job n c.loop-value.survey.representatives.items leaks c.loop-value.survey.paths.keys) all c.loop-value.invariant.surveyed in
    let rows : c.from_vec.result ≡ map found_of leaks.entries = c.from_vec.ensures ∙ c.in_ok-sites.ensures.rows in
    subst (λ (table : List Found). AreLeakSites job (sites_of table)) (sym rows) (are_leak_sites job c.requires.public c.requires.secret leaks c.in_ok-sites.ensures.ordered s.splits s.covers)

pub returns-clause-pairs : goal.returns-clause-pairs
returns-clause-pairs c =
    let job = c.args.job.now in
    let leaks = c.loop-value.survey.leaks in
    let all : c.loop-value.value ≡ 256 = omega (arith, c.loop-value-test.false, c.loop-value.auto.value-end) in
    let s = subst (λ n. IsSurveyed job n c.loop-value.survey.representatives.items leaks c.loop-value.survey.paths.keys) all c.loop-value.invariant.surveyed in
    let rows : c.from_vec.result ≡ map found_of leaks.entries = c.from_vec.ensures ∙ c.in_ok-sites.ensures.rows in
    subst (λ (table : List Found). All (λ (found : Found). IsLeastPair job found.site found.step found.pair) table) (sym rows) (are_least job c.requires.public c.requires.secret leaks c.in_ok-sites.ensures.ordered s.splits s.covers)

pub returns-clause-covered : goal.returns-clause-covered
returns-clause-covered c =
    let job = c.args.job.now in
    let leaks = c.loop-value.survey.leaks in
    let all : c.loop-value.value ≡ 256 = omega (arith, c.loop-value-test.false, c.loop-value.auto.value-end) in
    let s = subst (λ n. IsSurveyed job n c.loop-value.survey.representatives.items leaks c.loop-value.survey.paths.keys) all c.loop-value.invariant.surveyed in
    let rows : c.from_vec.result ≡ map found_of leaks.entries = c.from_vec.ensures ∙ c.in_ok-sites.ensures.rows in
    subst (λ (table : List Found). CoversPairs job table) (sym rows) (covers_pairs job c.requires.public c.requires.secret leaks c.in_ok-sites.ensures.ordered s.splits s.covers)

pub returns-clause-paths : goal.returns-clause-paths
returns-clause-paths c =
    let job = c.args.job.now in
    let paths = c.loop-value.survey.paths in
    let all : c.loop-value.value ≡ 256 = omega (arith, c.loop-value-test.false, c.loop-value.auto.value-end) in
    let s = subst (λ n. IsSurveyed job n c.loop-value.survey.representatives.items c.loop-value.survey.leaks paths.keys) all c.loop-value.invariant.surveyed in
    let count : c.len.result ≡ length paths.keys = c.len.ensures.len in
    count ∙ ap length s.counted ∙ sym (path_count_is job c.requires.public c.requires.secret)
