-- What is known of open paths holds in any order of them.
use Rattle.std.proofs.Common.{◌≡◌, ℕ, ◌≤◌, List, ◌++◌, length, reverse, inl, inr, arith}
use Rattle.std.specs.List.{Any}
use Rattle.std.specs.List.Sorted.{IsPermutation}
use Rattle.std.proofs.lemmas.List.Sorted.{All-permutation, Contains-permutation, sum_by-IsPermutation, IsPermutation-append_right, IsPermutation-reverse}
use Rattle.ct_pairs.specs.declared.job.Job.{Job}
use Rattle.ct_pairs.specs.declared.found.Found.{Found}
use Rattle.ct_pairs.specs.Paths.{Follows}
use Rattle.path_tree.specs.declared.path.Path.{Path}
use Rattle.ct_entries.specs.declared.listed.Listed.{Listed}
use Rattle.path_run.specs.Counting.{share, weight}
use Rattle.work_crew.specs.Exploring.{KnowsLeaks, IsExplored, AreCounted, work_of, work}

pub Any-permutation : {X : Type 0} (P : X → Type 0) (xs ys : List X) → IsPermutation xs ys → Any P xs → Any P ys
Any-permutation P xs ys moved (k, x, below, at, h) = let there = Contains-permutation xs ys x moved (k, below, at) in (there.0, x, there.1, there.2, h)

pub explored_reordered : (job : Job) (found : List Found) (listed : List Listed) (xs ys : List Path) → IsPermutation xs ys → IsExplored job found listed xs → IsExplored job found listed ys
explored_reordered job found listed xs ys moved e = record {
  every = λ pair is. elim (e.every pair is) [ inl done ↦ inl done | inr on ↦ inr (Any-permutation (λ path. Follows job pair path.nexts) xs ys moved on) ];
  leaks = All-permutation (KnowsLeaks found) xs ys moved e.leaks;
  found_true = e.found_true;
  listed_true = e.listed_true;
  within = All-permutation (λ (path : Path). length path.nexts ≤ job.bound) xs ys moved e.within;
}

pub counted_reordered : (job : Job) (ends doubts : ℕ) (listed : List Listed) (xs ys : List Path) → IsPermutation xs ys → AreCounted job ends doubts listed xs → AreCounted job ends doubts listed ys
counted_reordered job ends doubts listed xs ys moved c = record {
  most = omega (arith, c.most, sum_by-IsPermutation (λ (path : Path). share job path.nexts) xs ys moved);
  least = λ none. omega (arith, c.least none, sum_by-IsPermutation (λ (path : Path). weight job path.nexts) xs ys moved);
}

pub work_reordered : (bound : ℕ) (xs ys : List Path) → IsPermutation xs ys → work bound ys ≡ work bound xs
unfolding work
work_reordered bound xs ys moved = sum_by-IsPermutation (work_of bound) xs ys moved

-- kids in the other order
pub back_to_front : (rest kids : List Path) → IsPermutation (rest ++ kids) (rest ++ reverse kids)
back_to_front rest kids = IsPermutation-append_right rest kids (reverse kids) (IsPermutation-reverse kids)
