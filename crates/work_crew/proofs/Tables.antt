-- Tables of what was found, and places in their order.
use Rattle.std.proofs.Common.{◌≡◌, ◌⊎◌, ℕ, zero, suc, ◌+◌, ◌<◌, ◌≤◌, Bool, true, false, cond, List, [], ◌∷◌, length, map, get_or, refl, sym, ◌∙◌, ap, subst, inl, inr, ltb, eqb, is_lt, arith}
use Rattle.std.specs.List.{Contains, All, dedup, dedup_from}
use Rattle.std.specs.List.Sorted.{IsPermutation, IsSorted}
use Rattle.std.specs.Cmp.{IsStrictWeakOrder}
use Rattle.std.specs.Cmp.Lexicographic.{on_texts}
use Rattle.std.specs.Ordering.{nat_cmp, ordering_then}
use Rattle.std.specs.declared.cmp.Ordering.{Ordering}
use Rattle.std.specs.declared.cmp.Ordering.TheVariants.{Less, Equal, Greater}
use Rattle.std.proofs.lemmas.Bool.{ltb-false}
use Rattle.std.proofs.lemmas.Bool.Decides.{eqb_tells}
use Rattle.std.proofs.lemmas.Cmp.{nat_cmp_total, then_total, on_total}
use Rattle.std.proofs.lemmas.List.{get_or-map, get_or_default, length-map}
use Rattle.std.proofs.lemmas.List.MinMax.{ranks_by}
use Rattle.std.proofs.lemmas.List.Kept.{Contains-from_dedup}
use Rattle.std.proofs.lemmas.List.Sorted.{Contains-permutation, IsPermutation-sym, sorted_far}
use Rattle.std.proofs.lemmas.Map.Keys.{IsStrictlyIncreasing-dedup}
use Rattle.ct_pairs.specs.declared.found.Found.{Found}
use Rattle.ct_pairs.specs.Sites.{HasSite}
use Rattle.ct_pairs.specs.Covered.{sites_of}
use Rattle.ct_pairs.proofs.ValuesLemmas.{Contains-map}
use Rattle.ct_entries.specs.declared.listed.Listed.{Listed}
use Rattle.ct_report.specs.Outcomes.{cause_rank, place_order}
use Rattle.work_crew.specs.Merging.{found_order, is_same_site, IsMerged}

-- the order of places ranks them, and that of what was found
pub places_ranked : IsStrictWeakOrder (λ (x y : Listed). is_lt (place_order x y))
places_ranked = ranks_by {R = place_order} (then_total (on_texts (λ (place : Listed). place.path)) (on_total (λ (place : Listed). cause_rank place.cause) nat_cmp_total)) (λ (place : Listed). place)

pub found_ranked : IsStrictWeakOrder (λ (x y : Found). is_lt (found_order x y))
found_ranked = ranks_by {R = found_order} (then_total (on_total (λ (one : Found). one.site) nat_cmp_total) (on_total (λ (one : Found). one.step) nat_cmp_total)) (λ (one : Found). one)

-- what an answer that isn't less tells
not_less : (below same : Bool) (next : Ordering) → is_lt (ordering_then (cond below Less (cond same Equal Greater)) next) ≡ false → (below ≡ false) × (same ≡ true → is_lt next ≡ false)
not_less true same next h = absurd cc
not_less false true next h = (refl, λ is. h)
not_less false false next h = (refl, λ is. absurd cc)

not_below : (below same : Bool) → is_lt (cond below Less (cond same Equal Greater)) ≡ below
not_below true same = refl
not_below false true = refl
not_below false false = refl

-- one stands before the other: its site is not above, and at one site its step is not above
record Before (one other : Found) : Type 0 where
  site : one.site ≤ other.site
  step : one.site ≡ other.site → one.step ≤ other.step

before : (one other : Found) → is_lt (found_order other one) ≡ false → Before one other
before one other h =
    let told = not_less (ltb other.site one.site) (eqb other.site one.site) (nat_cmp other.step one.step) h in
    record {
      site = ltb-false other.site one.site told.0;
      step = λ same. elim (eqb_tells other.site one.site) [
        | inl is ↦ ltb-false other.step one.step (sym (not_below (ltb other.step one.step) (eqb other.step one.step)) ∙ told.1 is.0)
        | inr other_site ↦ absurd (other_site.1 (sym same))
      ];
    }

-- each row stands before all later ones
abbrev Ascends : List Found → Type 0
Ascends [] = Unit {0}
Ascends (first ∷ more) = All (Before first) more × Ascends more

ascends : (rows : List Found) → ((i j : ℕ) (d : Found) → i ≤ j → j < length rows → Before (get_or rows i d) (get_or rows j d)) → Ascends rows
ascends [] h = tt
ascends (first ∷ more) h = (
  λ k d below. h 0 (suc k) d (omega arith) (omega (arith, below)),
  ascends more (λ i j d up below. h (suc i) (suc j) d (omega (arith, up)) (omega (arith, below))),
)

-- the first row of each site has no later step than any other row of it
abbrev HasLeast : List Found → Found → Type 0
HasLeast rows one = (row : Found) × Contains rows row × (row.site ≡ one.site) × row.step ≤ one.step

has_later : (kept : Found) (rows : List Found) (one : Found) → HasLeast rows one → HasLeast (kept ∷ rows) one
has_later kept rows one (row, there, site, step) = (row, (suc there.0, omega (arith, there.1), there.2), site, step)

has_first : (kept : Found) (rows : List Found) → HasLeast (kept ∷ rows) kept
has_first kept rows = (kept, (0, omega arith, refl), refl, omega arith)

abbrev HasEach : List Found → List Found → Type 0
HasEach table rows = (one : Found) → Contains rows one → HasLeast table one

cases_of : (first : Found) (more : List Found) (one : Found) → Contains (first ∷ more) one → (first ≡ one) ⊎ Contains more one
cases_of first more one (zero, below, at) = inl at
cases_of first more one (suc k, below, at) = inr (k, omega (arith, below), at)

least_from : (kept : Found) (more : List Found) → All (Before kept) more → Ascends more → HasEach (dedup_from is_same_site kept more) (kept ∷ more)
least_from kept [] first up one there = elim (cases_of kept [] one there) [ inl is ↦ subst (HasLeast (kept ∷ [])) is (has_first kept []) | inr none ↦ absurd (omega (arith, none.1)) ]
least_from kept (next ∷ more) first up one there =
    choose (eqb next.site kept.site) (eqb_tells next.site kept.site) (least_from kept more (λ k d below. first (suc k) d (omega (arith, below))) up.1) (least_from next more up.0 up.1) one there
  where
    choose : (same : Bool) → ((eqb next.site kept.site ≡ true) × (next.site ≡ kept.site)) ⊎ ((eqb next.site kept.site ≡ false) × (next.site ≡ kept.site → ⊥)) → HasEach (dedup_from is_same_site kept more) (kept ∷ more) → HasEach (dedup_from is_same_site next more) (next ∷ more)
        → HasEach (cond (eqb next.site kept.site) (dedup_from is_same_site kept more) (kept ∷ dedup_from is_same_site next more)) (kept ∷ next ∷ more)
    choose same (inl is) old new = subst (λ b. HasEach (cond b (dedup_from is_same_site kept more) (kept ∷ dedup_from is_same_site next more)) (kept ∷ next ∷ more)) (sym is.0) stays
      where
        stays : HasEach (dedup_from is_same_site kept more) (kept ∷ next ∷ more)
        stays one there = elim (cases_of kept (next ∷ more) one there) [
          | inl here ↦ old one (subst (Contains (kept ∷ more)) here (0, omega arith, refl))
          | inr later ↦ elim (cases_of next more one later) [
            | inl at ↦
                let (row, in_table, site, step) = old kept (0, omega arith, refl) in
                let up' : Before kept next = first 0 next (omega arith) in
                subst (HasLeast (dedup_from is_same_site kept more)) at (row, in_table, site ∙ sym is.1, omega (arith, step, up'.step (sym is.1)))
            | inr after ↦ old one (suc after.0, omega (arith, after.1), after.2)
          ]
        ]
    choose same (inr apart) old new = subst (λ b. HasEach (cond b (dedup_from is_same_site kept more) (kept ∷ dedup_from is_same_site next more)) (kept ∷ next ∷ more)) (sym apart.0) goes
      where
        goes : HasEach (kept ∷ dedup_from is_same_site next more) (kept ∷ next ∷ more)
        goes one there = elim (cases_of kept (next ∷ more) one there) [
          | inl here ↦ subst (HasLeast (kept ∷ dedup_from is_same_site next more)) here (has_first kept (dedup_from is_same_site next more))
          | inr later ↦ has_later kept (dedup_from is_same_site next more) one (new one later)
        ]

least : (rows : List Found) → Ascends rows → HasEach (dedup is_same_site rows) rows
least [] up one there = absurd (omega (arith, there.1))
least (first ∷ more) up one there = least_from first more up.0 up.1 one there

-- the sites of a table are the different sites
map_cond : (b : Bool) (xs ys : List Found) → map (λ (one : Found). one.site) (cond b xs ys) ≡ cond b (map (λ (one : Found). one.site) xs) (map (λ (one : Found). one.site) ys)
map_cond true xs ys = refl
map_cond false xs ys = refl

sites_from : (kept : Found) (more : List Found) → map (λ (one : Found). one.site) (dedup_from is_same_site kept more) ≡ dedup_from eqb kept.site (map (λ (one : Found). one.site) more)
sites_from kept [] = refl
sites_from kept (next ∷ more) =
    map_cond (eqb next.site kept.site) (dedup_from is_same_site kept more) (kept ∷ dedup_from is_same_site next more)
    ∙ ap (λ xs. cond (eqb next.site kept.site) xs (kept.site ∷ map (λ (one : Found). one.site) (dedup_from is_same_site next more))) (sites_from kept more)
    ∙ ap (λ xs. cond (eqb next.site kept.site) (dedup_from eqb kept.site (map (λ (one : Found). one.site) more)) (kept.site ∷ xs)) (sites_from next more)

sites_dedup : (rows : List Found) → map (λ (one : Found). one.site) (dedup is_same_site rows) ≡ dedup eqb (map (λ (one : Found). one.site) rows)
sites_dedup [] = refl
sites_dedup (first ∷ more) = sites_from first more

sites_sorted : (rows : List Found) → IsSorted found_order rows → IsSorted nat_cmp (map (λ (one : Found). one.site) rows)
sites_sorted rows sorted = λ k d low high.
    let inside : k + 1 < length rows = omega (arith, high, length-map rows (λ (one : Found). one.site)) in
    let other : Found = record { site = d; step = 0; pair = record { shared = []; left = []; right = [] } } in
    let told = not_less (ltb (get_or rows (k + 1) other).site (get_or rows k other).site) (eqb (get_or rows (k + 1) other).site (get_or rows k other).site) (nat_cmp (get_or rows (k + 1) other).step (get_or rows k other).step) (sorted k other low inside) in
    rw (get_or-map (λ (one : Found). one.site) rows (k + 1) other d inside, get_or-map (λ (one : Found). one.site) rows k other d (omega (arith, inside)))
    (not_below (ltb (get_or rows (k + 1) other).site (get_or rows k other).site) (eqb (get_or rows (k + 1) other).site (get_or rows k other).site) ∙ told.0)

-- sorted, and each site once
pub merged_from : (found rows table : List Found) → IsPermutation found rows → IsSorted found_order rows → table ≡ dedup is_same_site rows → IsMerged found table
merged_from found rows table moved sorted is =
    let up : Ascends rows = ascends rows (λ i j d at below. before (get_or rows i d) (get_or rows j d) (sorted_far (λ (x y : Found). is_lt (found_order x y)) found_ranked rows sorted i j d at below)) in
    rw is (record {
      ascending = rw (sites_dedup rows) (IsStrictlyIncreasing-dedup (map (λ (one : Found). one.site) rows) (sites_sorted rows sorted));
      rows = rows_are;
      least = λ one there. site_of one (least rows up one (Contains-permutation found rows one moved there));
    })
  where
    rows_are : All (Contains found) (dedup is_same_site rows)
    rows_are = λ k d below. Contains-permutation rows found _ (IsPermutation-sym found rows moved) (Contains-from_dedup is_same_site rows _ (k, below, get_or_default (dedup is_same_site rows) k _ d below))

    site_of : (one : Found) → HasLeast (dedup is_same_site rows) one → HasSite (sites_of (dedup is_same_site rows)) one.site one.step
    site_of one (row, there, site, step) = (row.step, subst (λ s. Contains (sites_of (dedup is_same_site rows)) (s, row.step)) site (Contains-map (λ (found : Found). (found.site, found.step)) (dedup is_same_site rows) row there), step)
