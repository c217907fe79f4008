-- What a step leaves where the walk goes on or ends.
use Rattle.std.proofs.Common.{◌≡◌, ℕ, suc, zero, ◌+◌, ◌<◌, ◌≤◌, List, [], ◌∷◌, ◌++◌, length, get_or, drop, map, Option, Some, None, Bool, true, false, eqb, inl, inr, refl, sym, ◌∙◌, ap, subst, arith}
use Rattle.std.specs.Prelude.{MatchOption}
use Rattle.std.specs.List.{All, IsDistinct}
use Rattle.std.proofs.lemmas.Bool.{false≢true}
use Rattle.std.proofs.lemmas.Bool.Decides.{eqb_tells}
use Rattle.std.proofs.Math.Nat.{le-max_left}
use Rattle.std.specs.List.Sorted.{IsPermutation, IsStrictlyIncreasing}
use Rattle.std.proofs.lemmas.List.Sorted.{All-permutation}
use Rattle.ct_pairs.specs.declared.job.Job.{Job}
use Rattle.ct_pairs.specs.declared.pair.Pair.{Pair}
use Rattle.ct_pairs.specs.declared.found.Found.{Found}
use Rattle.ct_pairs.specs.Paths.{Follows}
use Rattle.ct_entries.specs.declared.listed.Listed.{Listed}
use Rattle.rel_step.specs.PathNodes.{PathNode, CanGo}
use Rattle.path_run.specs.declared.course.Course.{Course}
use Rattle.path_run.specs.declared.record_of.RecordOf.{RecordOf}
use Rattle.path_run.specs.Counting.{weight}
use Rattle.path_run.specs.Walks.{EndsHere, IsWalked, IsStepped}
use Rattle.path_run.specs.Stages.{IsPlaced}
use Rattle.path_run.specs.Walking.{kid_at, record_at, IsFirst, IsFirstNext, IsHandedOn, IsDone, KeepsSpent}
use Rattle.path_run.proofs.Steps.{least_end}
use Rattle.path_run.proofs.Walks.{walk_more, walk_done, walk_counted, stepped_sorted}

pub none_left : (xs : List ℕ) → length xs ≡ 0 → xs ≡ []
none_left [] e = refl
none_left (x ∷ xs) e = absurd (omega (arith, e))

pub first_left : (xs : List ℕ) (d : ℕ) → 0 < length xs → xs ≡ get_or xs 0 d ∷ drop 1 xs
first_left [] d h = absurd (omega (arith, h))
first_left (x ∷ xs) d h = refl

pub one_left : (xs : List ℕ) (d : ℕ) → length xs ≡ 1 → xs ≡ get_or xs 0 d ∷ []
one_left [] d e = absurd (omega (arith, e))
one_left (x ∷ xs) d e = ap (λ ys. x ∷ ys) (none_left xs (omega (arith, e)))

pub one_in : {X : Type 0} (xs : List X) (d : X) → length xs ≡ 1 → xs ≡ get_or xs 0 d ∷ []
one_in [] d e = absurd (omega (arith, e))
one_in (x ∷ []) d e = refl
one_in (x ∷ y ∷ ys) d e = absurd (omega (arith, e))

handed : (job : Job) (c : Course) (node : PathNode) (kept : List ℕ) (first : Option PathNode) → node.path ≡ c.at.items → MatchOption first (kept ≡ []) (IsFirstNext job node.path kept) → IsHandedOn job (map (kid_at c) kept) first
handed job c node kept None e h = ap (map (kid_at c)) h
handed job c node kept (Some n) e h = record {
  first = kid_at c h.next;
  rest = map (kid_at c) h.rest;
  are = ap (map (kid_at c)) h.are;
  stands = h.stands;
  along = h.along ∙ ap (λ t. t ++ h.next ∷ []) e;
}

-- the course with the counts of one more step
abbrev pub with_counts : Course → ℕ → ℕ → Course
with_counts c e d = record c { ends = c.ends + e; doubts = c.doubts + d }

pub done_is : (job : Job) (c : Course) (node : PathNode) (e d : ℕ) (kept sorted : List ℕ) (first : Option PathNode) → IsPlaced job c node → IsStepped job c.path.leaked c.at.items c.found.items c.listed.items e d kept →
    IsPermutation kept sorted → IsStrictlyIncreasing sorted → MatchOption first (sorted ≡ []) (IsFirstNext job node.path sorted) → IsDone job c.path (record_at (with_counts c e d) sorted) first
done_is job c node e d kept sorted first h s p rising n =
    let t = stepped_sorted job c.path.leaked c.at.items c.found.items c.listed.items e d kept sorted p s in
    record {
      of_path = refl;
      true_record = walk_done job c.path c.at.items c.found.items c.listed.items c.ends c.doubts e d sorted rising h.walked t;
      counted = walk_counted job c.path c.at.items c.found.items c.listed.items c.ends c.doubts e d sorted h.walked t;
      handed = handed job c node sorted first h.path n;
    }

pub goes_on : (job : Job) (c : Course) (node : PathNode) (e d next : ℕ) (kept sorted : List ℕ) → IsPlaced job c node → IsStepped job c.path.leaked c.at.items c.found.items c.listed.items e d kept →
    IsPermutation kept sorted → sorted ≡ next ∷ [] → IsWalked job c.path (c.at.items ++ next ∷ []) c.found.items c.listed.items (c.ends + e) (c.doubts + d)
goes_on job c node e d next kept sorted h s p is =
    walk_more job c.path c.at.items c.found.items c.listed.items c.ends c.doubts e d next h.walked
    (subst (λ xs. IsStepped job c.path.leaked c.at.items c.found.items c.listed.items e d xs) is (stepped_sorted job c.path.leaked c.at.items c.found.items c.listed.items e d kept sorted p s))

pub empty_where : (xs : List ℕ) → eqb (length xs) 0 ≡ true → xs ≡ []
empty_where [] e = refl
empty_where (x ∷ xs) e = elim (eqb_tells (length (x ∷ xs)) 0) [ inl (_, none) ↦ absurd (omega (arith, none)) | inr (apart, _) ↦ absurd (false≢true (sym apart ∙ e)) ]

pub some_where : (xs : List ℕ) → eqb (length xs) 0 ≡ false → 0 < length xs
some_where [] e = absurd (false≢true (sym e))
some_where (x ∷ xs) e = omega arith

pub goes_on_at : (job : Job) (c later : Course) (node : PathNode) (e d next : ℕ) (kept sorted : List ℕ) → later ≡ with_counts c e d → IsPlaced job c node → IsStepped job c.path.leaked c.at.items c.found.items c.listed.items e d kept →
    IsPermutation kept sorted → sorted ≡ next ∷ [] → IsWalked job later.path (later.at.items ++ next ∷ []) later.found.items later.listed.items later.ends later.doubts
goes_on_at job c later node e d next kept sorted same h s p is =
    subst (λ (x : Course). IsWalked job x.path (x.at.items ++ next ∷ []) x.found.items x.listed.items x.ends x.doubts) (sym same) (goes_on job c node e d next kept sorted h s p is)

pub done_at : (job : Job) (c later : Course) (node : PathNode) (e d : ℕ) (kept sorted : List ℕ) (first : Option PathNode) (r : RecordOf) → later ≡ with_counts c e d → r ≡ record_at later sorted → IsPlaced job c node → IsStepped job c.path.leaked c.at.items c.found.items c.listed.items e d kept →
    IsPermutation kept sorted → IsStrictlyIncreasing sorted → MatchOption first (sorted ≡ []) (IsFirstNext job node.path sorted) → IsDone job c.path r first × KeepsSpent c.listed.items r.listed × (r.doubts ≡ c.doubts + d)
done_at job c later node e d kept sorted first r same is h s p rising n =
    subst (λ (x : RecordOf). IsDone job c.path x first × KeepsSpent c.listed.items x.listed × (x.doubts ≡ c.doubts + d)) (sym (is ∙ ap (λ (x : Course). record_at x sorted) same)) (done_is job c node e d kept sorted first h s p rising n, λ budget spent. spent, refl)

pub no_distinct : IsDistinct eqb []
unfolding IsDistinct
no_distinct = tt

-- all pairs end here
pub stepped_over : (job : Job) (leaked t : List ℕ) (found : List Found) (listed : List Listed) (kept : List ℕ) → kept ≡ [] → length t ≤ job.bound → ((pair : Pair) → Follows job pair t → EndsHere job t pair) → IsStepped job leaked t found listed 1 0 kept
stepped_over job leaked t found listed kept none short over = subst (λ xs. IsStepped job leaked t found listed 1 0 xs) (sym none) stepped
  where
    stepped : IsStepped job leaked t found listed 1 0 []
    stepped = record {
      covers = λ pair f. inr (inr (inl (over pair f)));
      distinct = no_distinct;
      few = omega arith;
      few_ends = omega arith;
      few_doubts = omega arith;
      inside = λ some. absurd (omega (arith, some));
      most = omega (arith, le-max_left 1 (weight job t));
      least = λ _. omega (arith, least_end job t short over);
    }
