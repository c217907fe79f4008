-- Records inside a common front of two trails, and after it.
use Rattle.std.proofs.Common.{◌≡◌, ℕ, suc, zero, ◌+◌, ◌-◌, ◌<◌, ◌≤◌, List, [], ◌∷◌, ◌++◌, length, Option, Some, None, refl, sym, ◌∙◌, ap, inl, inr, arith}
use Rattle.std.specs.List.{cons_option}
use Rattle.std.specs.Prelude.{slice_get}
use Rattle.std.proofs.lemmas.Bool.{cases_lt}
use Rattle.std.proofs.lemmas.Option.{same_Some}
use Rattle.rv_machine.specs.declared.«record».Record.{Record}
use Rattle.rv_machine.specs.Trail.{trail}
use Rattle.ct_pairs.specs.declared.job.Job.{Job}
use Rattle.ct_pairs.specs.declared.pair.Pair.{Pair}
use Rattle.ct_pairs.specs.Pair.{left_start, right_start, left_trail, right_trail}
use Rattle.ct_pairs.specs.Paths.{Follows, nexts}
use Rattle.ct_pairs.specs.Split.{SplitsAt, FirstSplit}
use Rattle.ct_pairs.proofs.TrailLemmas.{trail-extends, FirstSplit-longer}
use Rattle.ct_pairs.proofs.SplitLemmas.{FirstSplit-apart}

-- an element of the front
slice_get_front : (xs ys : List Record) (i : ℕ) → i < length xs → slice_get (xs ++ ys) i ≡ slice_get xs i
slice_get_front (x ∷ xs) ys zero h = refl
slice_get_front (x ∷ xs) ys (suc i) h = slice_get_front xs ys i (omega (arith, h))
slice_get_front [] ys i h = absurd (omega (arith, h))

-- a list of nexts is no longer than its records
length-cons_option : (o : Option ℕ) (ns : List ℕ) (n : ℕ) → length ns ≤ n → length (cons_option o ns) ≤ n + 1
length-cons_option None ns n h = omega (arith, h)
length-cons_option (Some x) ns n h = omega (arith, h)

pub length-nexts : (rs : List Record) → length (nexts rs) ≤ length rs
length-nexts [] = omega arith
length-nexts (r ∷ rs) = omega (arith, length-cons_option r.next (nexts rs) (length rs) (length-nexts rs))

-- trails with a common front don't split inside it
pub no_split_inside : (xs ps qs ls rs : List Record) (step : ℕ) (a b : Record) → ls ≡ xs ++ ps → rs ≡ xs ++ qs → FirstSplit ls rs step a b → length xs < step
no_split_inside xs ps qs ls rs step a b left right h =
    elim (cases_lt (length xs) step) [ inl below ↦ below | inr inside ↦ absurd (h.differ (same_Some a b (sym h.left_record ∙ ap (λ l. slice_get l (step - 1)) left ∙ front inside ∙ sym (ap (λ l. slice_get l (step - 1)) right) ∙ h.right_record))) ]
  where
    front : step ≤ length xs → slice_get (xs ++ ps) (step - 1) ≡ slice_get (xs ++ qs) (step - 1)
    front inside = let here : step - 1 < length xs = omega (arith, inside, h.from_one) in slice_get_front xs ps (step - 1) here ∙ sym (slice_get_front xs qs (step - 1) here)

-- a pair that follows a path first splits after it
pub split_after : (job : Job) (pair : Pair) (t : List ℕ) (site step : ℕ) → Follows job pair t → SplitsAt job pair site step → length t < step
split_after job pair t site step f s =
    elim (cases_lt (length t) job.bound) [ inl short ↦ in_bound short | inr long ↦ absurd (FirstSplit-apart _ _ step s.left s.right (FirstSplit-longer job.image job.stops (left_start job pair) (right_start job pair) job.bound (length t) step s.left s.right s.first long) f.agrees) ]
  where
    in_bound : length t < job.bound → length t < step
    in_bound short =
        let whole : length t + (job.bound - length t) ≡ job.bound = omega (arith, short) in
        let (ps, left) = trail-extends job.image job.stops (left_start job pair) (length t) (job.bound - length t) in
        let (qs, right) = trail-extends job.image job.stops (right_start job pair) (length t) (job.bound - length t) in
        let inside = no_split_inside (left_trail job pair (length t)) ps qs _ _ step s.left s.right (ap (trail job.image job.stops (left_start job pair)) (sym whole) ∙ left) (ap (trail job.image job.stops (right_start job pair)) (sym whole) ∙ right ∙ ap (λ xs. xs ++ qs) (sym f.agrees)) s.first in
        omega (arith, inside, length-nexts (left_trail job pair (length t)), ap length f.goes)
