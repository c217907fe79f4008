-- Ends and doubts of records against the path count.
use Rattle.std.proofs.Common.{◌≡◌, ◌≢◌, ◌⊎◌, ℕ, suc, zero, ◌+◌, ◌-◌, ◌*◌, ◌<◌, ◌≤◌, max, Bool, true, false, cond, ◌&&◌, List, [], ◌∷◌, ◌++◌, length, get_or, map, replicate, refl, sym, ◌∙◌, ap, subst, inl, inr, eqb, arith}
use Rattle.std.specs.List.{Contains, All, IsDistinct, starts_with, count_by, sum_by, flat_map}
use Rattle.std.specs.Cmp.Lexicographic.{pointwise, bytes_decides}
use Rattle.std.proofs.lemmas.Bool.Decides.{eqb_tells}
use Rattle.std.proofs.Math.Nat.{max-le, le-max_left, le-max_right}
use Rattle.std.proofs.lemmas.List.{length-replicate, length-append, get_or_append_left, get_or-append_right}
use Rattle.std.proofs.lemmas.List.Elements.{All-replicate, All-append, filter_map-append}
use Rattle.std.proofs.lemmas.List.Sums.{sum_by-cons, sum_by-append, sum_by_push, get_or-le-sum_by}
use Rattle.rv_machine.specs.Trail.{trail}
use Rattle.ct_pairs.specs.declared.job.Job.{Job}
use Rattle.ct_pairs.specs.declared.pair.Pair.{Pair}
use Rattle.ct_pairs.specs.Inputs.{public_count, secret_count}
use Rattle.ct_pairs.specs.Start.{run_trail}
use Rattle.ct_pairs.specs.Pair.{IsPair, left_start, left_trail}
use Rattle.ct_pairs.specs.Values.{all_values}
use Rattle.ct_pairs.specs.Different.{different}
use Rattle.ct_pairs.specs.Paths.{nexts, run_paths, path_count, Follows}
use Rattle.ct_pairs.proofs.TrailLemmas.{trail-extends}
use Rattle.ct_pairs.proofs.DifferentLemmas.{different_has}
use Rattle.ct_pairs.proofs.ValuesLemmas.{Contains-map, Contains-flat_map, all_values_has}
use Rattle.path_tree.specs.declared.path.Path.{Path}
use Rattle.ct_entries.specs.declared.listed.Listed.{Listed}
use Rattle.path_run.specs.declared.record_of.RecordOf.{RecordOf}
use Rattle.ct_entries.specs.Covering.{LeavesNoNext}
use Rattle.path_run.specs.Counting.{weight_in, weight, share}

-- every run goes along one of the counted paths
pub run_among : (job : Job) (pair : Pair) → IsPair job pair → Contains (different (run_paths job)) (nexts (left_trail job pair job.bound))
unfolding run_paths
run_among job pair is =
    different_has (run_paths job) _
    (Contains-flat_map (λ shared. map (λ secret. nexts (run_trail job shared secret job.bound)) (all_values (secret_count job.inputs))) (all_values (public_count job.inputs)) pair.shared _
    (all_values_has _ pair.shared is.shared_count is.shared_bytes)
    (Contains-map (λ secret. nexts (run_trail job pair.shared secret job.bound)) (all_values (secret_count job.inputs)) pair.left (all_values_has _ pair.left is.left_count is.left_bytes)))

pub starts-append : (t s : List ℕ) → starts_with eqb (t ++ s) t ≡ true
starts-append [] s = refl
starts-append (x ∷ t) s =
    elim (eqb_tells x x) [ inl (y1, e) ↦ ap (λ b. b && starts_with eqb (t ++ s) t) y1 ∙ starts-append t s | inr (n1, e) ↦ absurd (e refl) ]

-- a list among others, which begins with t, counts
weight_in-one : (ps : List (List ℕ)) (p t : List ℕ) → Contains ps p → starts_with eqb p t ≡ true → 1 ≤ weight_in ps t
weight_in-one ps p t (k, below, at) e =
    omega (arith, get_or-le-sum_by (λ q. cond (starts_with eqb q t) 1 0) ps k p below, ap {B = ℕ} (λ q. cond (starts_with eqb q t) 1 0) at, ap {B = ℕ} (λ b. cond b 1 0) e)

-- a path that a pair follows leads to a finished one
pub weight-one : (job : Job) (pair : Pair) (t : List ℕ) → Follows job pair t → length t ≤ job.bound → 1 ≤ weight job t
unfolding weight
weight-one job pair t f short =
    let whole : length t + (job.bound - length t) ≡ job.bound = omega (arith, short) in
    let (rest, is) = trail-extends job.image job.stops (left_start job pair) (length t) (job.bound - length t) in
    let long : nexts (left_trail job pair job.bound) ≡ t ++ nexts rest =
    ap (λ n. nexts (left_trail job pair n)) (sym whole) ∙ ap nexts is ∙ filter_map-append (λ x. x.next) (left_trail job pair (length t)) rest ∙ ap (λ xs. xs ++ nexts rest) f.goes in
    weight_in-one (different (run_paths job)) _ t (run_among job pair f.is_pair) (ap (λ p. starts_with eqb p t) long ∙ starts-append t (nexts rest))
