-- The survey of the values of one secret byte, from the first value to the last.
use Rattle.std.proofs.Common.{◌≡◌, ℕ, ◌+◌, ◌<◌, List, [], ◌∷◌, ◌++◌, length, get_or, Option, Some, None, refl, sym, ◌∙◌, ap, subst, arith}
use Rattle.std.specs.Ordering.{nat_cmp}
use Rattle.std.specs.BTreeMap.{BTreeMap, get, is_at}
use Rattle.std.specs.Map.{lookup}
use Rattle.ct_pairs.specs.declared.value_split.ValueSplit.{ValueSplit}
use Rattle.ct_pairs.specs.declared.job.Job.{Job}
use Rattle.ct_pairs.specs.Different.{with_new, different}
use Rattle.ct_pairs.specs.Paths.{nexts}
use Rattle.ct_pairs.specs.ValueSplit.{Notes}
use Rattle.ct_pairs.specs.Survey.{SplitAt, value_trail, AreSplits, CoversBelow, Represent, IsMet, IsSurveyed}
use Rattle.ct_pairs.proofs.DifferentLemmas.{different-range_more, different-range_same}
use Rattle.ct_pairs.proofs.ValueSplitLemmas.{IsMet-more, CoversBelow-met, CoversBelow-same, Represent-none, Represent-same, Represent-push}
use Rattle.ct_pairs.proofs.SiteLemmas.{SplitAt-itself, SplitAt-flip, SplitAt-once}

different-none : different [] ≡ []
unfolding different
different-none = refl

-- before the first value
pub surveyed-none : (job : Job) (representatives : List ℕ) (leaks : BTreeMap ℕ ValueSplit) (paths : List (List ℕ)) → representatives ≡ [] → leaks.entries ≡ [] → paths ≡ [] → IsSurveyed job 0 representatives leaks paths
surveyed-none job representatives leaks paths a b c = record {
  represent = subst (λ r. Represent SplitAt (value_trail job) r 0) (sym a) (Represent-none SplitAt (value_trail job));
  splits = λ site leak at. absurd (apart leak (sym (ap (λ (es : List (ℕ × ValueSplit)). lookup (is_at (nat_cmp site)) es) b) ∙ at));
  covers = λ l r site step below under s. absurd (omega (arith, below));
  counted = c ∙ sym different-none;
}
  where
    apart : (leak : ValueSplit) → None ≡ Some leak → ⊥
    apart leak e = cc

-- a value that has the trail of one before it
pub surveyed-same : (job : Job) (n v : ℕ) (representatives : List ℕ) (old new : BTreeMap ℕ ValueSplit) (paths : List (List ℕ)) → IsSurveyed job n representatives old paths → v < n → value_trail job v ≡ value_trail job n → AreSplits SplitAt (value_trail job) (n + 1) (get nat_cmp new) → CoversBelow SplitAt (value_trail job) (n + 1) (get nat_cmp new) → IsSurveyed job (n + 1) representatives new paths
surveyed-same job n v representatives old new paths h below same splits covers = record {
  represent = Represent-same SplitAt (value_trail job) representatives n v h.represent below same;
  splits = splits;
  covers = covers;
  counted = h.counted ∙ sym (different-range_same (λ w. nexts (value_trail job w)) n v below (ap nexts same));
}

-- a value with a trail of its own
pub surveyed-more : (job : Job) (n : ℕ) (representatives : List ℕ) (old new : BTreeMap ℕ ValueSplit) (paths later : List (List ℕ)) → IsSurveyed job n representatives old paths → later ≡ with_new paths (nexts (value_trail job n)) → AreSplits SplitAt (value_trail job) (n + 1) (get nat_cmp new) → CoversBelow SplitAt (value_trail job) (n + 1) (get nat_cmp new) → IsSurveyed job (n + 1) (representatives ++ n ∷ []) new later
surveyed-more job n representatives old new paths later h added splits covers = record {
  represent = Represent-push SplitAt (value_trail job) representatives n h.represent;
  splits = splits;
  covers = covers;
  counted = added ∙ ap (λ ps. with_new ps (nexts (value_trail job n))) h.counted ∙ sym (different-range_more (λ w. nexts (value_trail job w)) n);
}

-- one representative more is met
pub met-more : (job : Job) (representatives : List ℕ) (i n site : ℕ) (leak : ValueSplit) (old new : ℕ → Option ValueSplit) → IsMet SplitAt (value_trail job) representatives i n old → leak.left < n → leak.left ≡ get_or representatives i 0 → leak.right ≡ n → SplitAt (value_trail job leak.left) (value_trail job n) site leak.step → Notes old new site leak → IsMet SplitAt (value_trail job) representatives (i + 1) n new
met-more job representatives i n site leak old new h below left right split notes =
    IsMet-more SplitAt (value_trail job) representatives i n site leak old new h left right below split (λ q step s. SplitAt-once (value_trail job leak.left) (value_trail job n) site leak.step q step split s) notes

-- all representatives are met, or n has the trail of one
pub covers-met : (job : Job) (representatives : List ℕ) (i n : ℕ) (table : ℕ → Option ValueSplit) → Represent SplitAt (value_trail job) representatives n → IsMet SplitAt (value_trail job) representatives i n table → i ≡ length representatives → CoversBelow SplitAt (value_trail job) (n + 1) table
covers-met job representatives i n table reps h all =
    CoversBelow-met SplitAt (value_trail job) SplitAt-itself SplitAt-flip representatives n table reps (subst (λ k. IsMet SplitAt (value_trail job) representatives k n table) all h)

pub covers-same : (job : Job) (n v : ℕ) (table : ℕ → Option ValueSplit) → CoversBelow SplitAt (value_trail job) n table → v < n → value_trail job v ≡ value_trail job n → CoversBelow SplitAt (value_trail job) (n + 1) table
covers-same job n v table h below same = CoversBelow-same SplitAt (value_trail job) SplitAt-itself SplitAt-flip n v table h below same
