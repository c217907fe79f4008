-- Ends and doubts of the paths so far against the path count.
use Rattle.std.proofs.Common.{◌≡◌, ℕ, ◌+◌, ◌<◌, ◌≤◌, cond, List, [], ◌∷◌, ◌++◌, length, replicate, refl, eqb, arith}
use Rattle.std.specs.List.{All, starts_with}
use Rattle.std.proofs.Math.Nat.{max-le}
use Rattle.std.proofs.lemmas.List.{length-replicate}
use Rattle.std.proofs.lemmas.List.Elements.{All-replicate}
use Rattle.std.proofs.lemmas.List.Sums.{sum_by-cons, sum_by-append, sum_by_push}
use Rattle.ct_pairs.specs.declared.job.Job.{Job}
use Rattle.ct_pairs.specs.declared.pair.Pair.{Pair}
use Rattle.ct_pairs.specs.Inputs.{public_count, secret_count}
use Rattle.ct_pairs.specs.Pair.{IsPair}
use Rattle.ct_pairs.specs.Different.{different}
use Rattle.ct_pairs.specs.Paths.{run_paths, path_count}
use Rattle.path_tree.specs.declared.path.Path.{Path}
use Rattle.ct_entries.specs.declared.listed.Listed.{Listed}
use Rattle.ct_entries.specs.Covering.{LeavesNoNext}
use Rattle.path_run.specs.declared.record_of.RecordOf.{RecordOf}
use Rattle.path_run.specs.Counting.{weight_in, weight, share, IsCounted}
use Rattle.path_run.proofs.Somes.{All-both}
use Rattle.path_run.proofs.Counts.{run_among}
use Rattle.work_crew.specs.Exploring.{AreCounted}

-- each list begins with the empty one
weight_in-root : (ps : List (List ℕ)) → weight_in ps [] ≡ length ps
weight_in-root [] = refl
weight_in-root (p ∷ ps) = omega (arith, sum_by-cons (λ q. cond (starts_with eqb q []) 1 0) p ps, weight_in-root ps)

abbrev zeros : Job → Pair
zeros job = record { shared = replicate (public_count job.inputs) 0; left = replicate (secret_count job.inputs) 0; right = replicate (secret_count job.inputs) 0 }

zeros-pair : (job : Job) → IsPair job (zeros job)
zeros-pair job = record {
  shared_count = length-replicate (public_count job.inputs) 0;
  left_count = length-replicate (secret_count job.inputs) 0;
  right_count = length-replicate (secret_count job.inputs) 0;
  shared_bytes = All-replicate (λ v. v < 256) (public_count job.inputs) 0 (omega arith);
  left_bytes = All-replicate (λ v. v < 256) (secret_count job.inputs) 0 (omega arith);
  right_bytes = All-replicate (λ v. v < 256) (secret_count job.inputs) 0 (omega arith);
}

some_path : (job : Job) → 1 ≤ path_count job
unfolding path_count
some_path job = let (k, below, at) = run_among job (zeros job) (zeros-pair job) in omega (arith, below)

-- the root leads to all
weight-root : (job : Job) → weight job [] ≡ path_count job
unfolding weight path_count
weight-root job = weight_in-root (different (run_paths job))

pub counted_first : (job : Job) → AreCounted job 0 0 [] (record { nexts = []; leaked = [] } ∷ [])
counted_first job = record {
  most = omega (arith, max-le {a = 1} {b = weight job []} {k = path_count job} (some_path job) (omega (arith, weight-root job)), sum_by-cons (λ (p : Path). share job p.nexts) (record { nexts = []; leaked = [] }) []);
  least = λ _. omega (arith, weight-root job, sum_by-cons (λ (p : Path). weight job p.nexts) (record { nexts = []; leaked = [] }) []);
}

pub counted_more : (job : Job) (ends doubts : ℕ) (listed : List Listed) (waiting : List Path) (r : RecordOf) → AreCounted job ends doubts listed (waiting ++ r.path ∷ []) → IsCounted job r → AreCounted job (ends + r.ends) (doubts + r.doubts) (listed ++ r.listed) (waiting ++ r.kids)
counted_more job ends doubts listed waiting r c h = record {
  most = omega (arith, c.most, h.most, sum_by_push (λ (p : Path). share job p.nexts) waiting r.path, sum_by-append (λ (p : Path). share job p.nexts) waiting r.kids);
  least = λ none. let (before, now) = All-both LeavesNoNext listed r.listed none in omega (arith, c.least before, h.least now, sum_by_push (λ (p : Path). weight job p.nexts) waiting r.path, sum_by-append (λ (p : Path). weight job p.nexts) waiting r.kids);
}

pub counted_last : (job : Job) (ends doubts : ℕ) (listed : List Listed) → AreCounted job ends doubts listed [] → (ends ≤ path_count job + doubts) × (All LeavesNoNext listed → path_count job ≤ ends)
counted_last job ends doubts listed c = (omega (arith, c.most), λ none. omega (arith, c.least none))
