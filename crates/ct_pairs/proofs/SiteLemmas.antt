-- What the table of a check of all pairs of one secret byte means for the job.
use Rattle.std.proofs.Common.{◌≡◌, ◌≢◌, ◌⊎◌, ℕ, suc, zero, ◌<◌, ◌≤◌, List, [], ◌∷◌, length, get_or, map, Some, refl, sym, ◌∙◌, ap, subst, inl, inr, arith}
use Rattle.std.specs.List.{Contains, All, flat_map, range_with_len}
use Rattle.std.specs.BTreeMap.{BTreeMap, get, IsOrdered}
use Rattle.std.specs.Cmp.{nat_cmp_total}
use Rattle.std.specs.Ordering.{nat_cmp, ordering_then}
use Rattle.std.specs.declared.cmp.Ordering.TheVariants.{Less, Equal, Greater}
use Rattle.std.proofs.lemmas.Bool.{cases_eq}
use Rattle.std.proofs.lemmas.Bool.Decides.{nat_tests}
use Rattle.std.proofs.lemmas.List.{append-nil, nil_from_length}
use Rattle.std.proofs.lemmas.List.Elements.{All-map, All-weaker}
use Rattle.std.proofs.lemmas.Map.Keys.{IsStrictlyIncreasing-from_sorted}
use Rattle.std.proofs.lemmas.Map.Lookups.{exact_unsigned}
use Rattle.std.proofs.lemmas.Map.Views.{All-found, btree_map_get_iff}
use Rattle.rv_machine.specs.declared.«record».Record.{Record}
use Rattle.ct_pairs.specs.declared.value_split.ValueSplit.{ValueSplit}
use Rattle.ct_pairs.specs.declared.job.Job.{Job}
use Rattle.ct_pairs.specs.declared.pair.Pair.{Pair}
use Rattle.ct_pairs.specs.declared.found.Found.{Found}
use Rattle.ct_pairs.specs.Inputs.{public_count, secret_count}
use Rattle.ct_pairs.specs.Start.{start, run_trail}
use Rattle.ct_pairs.specs.Pair.{IsPair, Agrees}
use Rattle.ct_pairs.specs.Split.{SplitsAt}
use Rattle.ct_pairs.specs.Sites.{HasSite, IsLeastStep, AreLeakSites}
use Rattle.ct_pairs.specs.LeastPair.{pair_order, IsLeastPair}
use Rattle.ct_pairs.specs.Covered.{sites_of, CoversPairs}
use Rattle.ct_pairs.specs.Paths.{nexts, run_paths, path_count}
use Rattle.ct_pairs.specs.Different.{different}
use Rattle.ct_pairs.specs.Values.{all_values}
use Rattle.ct_pairs.proofs.ValuesLemmas.{Contains-map, all_values-one, all_values-none}
use Rattle.ct_pairs.proofs.SplitLemmas.{FirstSplit-apart, FirstSplit-flip, FirstSplit-once}
use Rattle.ct_pairs.proofs.TrailLemmas.{together_or_split, FirstSplit-one_pc}
use Rattle.ct_pairs.proofs.StartLemmas.{starts_aligned}
use Rattle.ct_pairs.specs.ValueSplit.{IsWithin, Covers, value_pair, found_of}
use Rattle.ct_pairs.specs.Survey.{SplitAt, value_trail, AreSplits, CoversBelow}

pub SplitAt-itself : (xs : List Record) (site step : ℕ) → SplitAt xs xs site step → ⊥
SplitAt-itself xs site step (a, b, h, p, q) = FirstSplit-apart xs xs step a b h refl

pub SplitAt-flip : (xs ys : List Record) (site step : ℕ) → SplitAt xs ys site step → SplitAt ys xs site step
SplitAt-flip xs ys site step (a, b, h, p, q) = (b, a, FirstSplit-flip xs ys step a b h, q, p)

-- two trails split once
pub SplitAt-once : (xs ys : List Record) (site step other later : ℕ) → SplitAt xs ys site step → SplitAt xs ys other later → (other ≡ site) × (later ≡ step)
SplitAt-once xs ys site step other later (a, b, h, p, q) (c, d, k, r, t) =
    let (steps, lefts, rights) = FirstSplit-once xs ys later step c d a b k h in
    (sym r ∙ ap (λ (x : Record). x.pc) lefts ∙ p, steps)

-- each pair of any job agrees up to the bound or splits, at one site
pub pair_splits : (job : Job) (pair : Pair) → IsPair job pair → Agrees job pair job.bound ⊎ ((site : ℕ) × (step : ℕ) × SplitsAt job pair site step)
pair_splits job pair h =
    elim (together_or_split job.image job.stops (start job pair.shared pair.left) (start job pair.shared pair.right) job.bound (starts_aligned job _ _ _ _)) [ inl t ↦ inl t.same | inr (step, a, b, split, pc) ↦ inr (a.pc, step, record { is_pair = h; left = a; right = b; first = split; at_site = refl }) ]

-- the order of two pairs of values
at_least : (a b : ℕ) → b ≤ a → ((a ≡ b) × (nat_cmp a b ≡ Equal)) ⊎ (nat_cmp a b ≡ Greater)
at_least a b h = elim (cases_eq a b) [ inl same ↦ inl (same, grind (arith, nat_tests)) | inr apart ↦ inr (grind (arith, nat_tests)) ]

not_before : (a c b d : ℕ) → c ≤ a → (c ≡ a → d ≤ b) → pair_order (value_pair a b) (value_pair c d) ≢ Less
not_before a c b d h k =
    elim (at_least a c h) [ inr above ↦ (λ e. let f = sym (ap (λ o. ordering_then (ordering_then o Equal) (ordering_then (nat_cmp b d) Equal)) above) ∙ e in cc) | inl (same, equal) ↦ elim (at_least b d (k (sym same))) [ inr higher ↦ (λ e. let f = sym (ap (λ o. ordering_then (ordering_then o Equal) (ordering_then (nat_cmp b d) Equal)) equal) ∙ e in let g = sym (ap (λ o. ordering_then o Equal) higher) ∙ f in cc) | inl (both, level) ↦ (λ e. let f = sym (ap (λ o. ordering_then (ordering_then o Equal) (ordering_then (nat_cmp b d) Equal)) equal) ∙ e in let g = sym (ap (λ o. ordering_then o Equal) level) ∙ f in cc) ] ]

-- the paths over all values, by the lists of values
abbrev paths_over : (List ℕ → List ℕ → List ℕ) → List (List ℕ) → List (List ℕ) → List (List ℕ)
paths_over path shareds secrets = flat_map (λ shared. map (λ secret. path shared secret) secrets) shareds

ones_mapped : (path : List ℕ → List ℕ) (xs : List ℕ) → map path (map (λ v. v ∷ []) xs) ≡ map (λ v. path (v ∷ [])) xs
ones_mapped path [] = refl
ones_mapped path (x ∷ xs) = ap (λ ps. path (x ∷ []) ∷ ps) (ones_mapped path xs)

one_secret_paths : (path : List ℕ → List ℕ → List ℕ) (xs : List ℕ) → paths_over path ([] ∷ []) (map (λ v. v ∷ []) xs) ≡ map (λ v. path [] (v ∷ [])) xs
one_secret_paths path xs = append-nil (map (λ secret. path [] secret) (map (λ v. v ∷ []) xs)) ∙ ones_mapped (path []) xs

-- the two records of a split have one pc, and a pair splits once
pub split_one_pc : (job : Job) (pair : Pair) (site step : ℕ) (h : SplitsAt job pair site step) → h.left.pc ≡ h.right.pc
split_one_pc job pair site step h =
    FirstSplit-one_pc job.image job.stops (start job pair.shared pair.left) (start job pair.shared pair.right) job.bound step h.left h.right (starts_aligned job _ _ _ _) h.first

pub split_once : (job : Job) (pair : Pair) (site step other later : ℕ) → SplitsAt job pair site step → SplitsAt job pair other later → (site ≡ other) × (step ≡ later)
split_once job pair site step other later h k =
    let (steps, lefts, rights) = FirstSplit-once _ _ step later h.left h.right k.left k.right h.first k.first in
    (sym h.at_site ∙ ap (λ (x : Record). x.pc) lefts ∙ k.at_site, steps)

module _ (job : Job) (no_public : public_count job.inputs ≡ 0) (one_secret : secret_count job.inputs ≡ 1) where
  one_of : (xs : List ℕ) → length xs ≡ 1 → xs ≡ get_or xs 0 0 ∷ []
  one_of [] e = cc
  one_of (x ∷ []) e = refl
  one_of (x ∷ y ∷ xs) e = absurd (omega (arith, e))

  -- a pair of the job is a pair of two bytes
  pub is_value_pair : (pair : Pair) → IsPair job pair → pair ≡ value_pair (get_or pair.left 0 0) (get_or pair.right 0 0)
  is_value_pair pair h =
      let make : List ℕ → List ℕ → List ℕ → Pair = λ shared left right. record { shared = shared; left = left; right = right } in
      ap (λ s. make s pair.left pair.right) (nil_from_length pair.shared (h.shared_count ∙ no_public))
      ∙ ap (λ l. make [] l pair.right) (one_of pair.left (h.left_count ∙ one_secret))
      ∙ ap (λ r. make [] (get_or pair.left 0 0 ∷ []) r) (one_of pair.right (h.right_count ∙ one_secret))

  only_byte : (value : ℕ) → value < 256 → All (λ v. v < 256) (value ∷ [])
  only_byte value h zero d within = h
  only_byte value h (suc k) d within = absurd (omega (arith, within))

  value_pair_is : (left right : ℕ) → left < 256 → right < 256 → IsPair job (value_pair left right)
  value_pair_is left right h k = record {
    shared_count = sym no_public;
    left_count = sym one_secret;
    right_count = sym one_secret;
    shared_bytes = λ j d within. absurd (omega (arith, within));
    left_bytes = only_byte left h;
    right_bytes = only_byte right k;
  }

  -- a split of two values is one of their pair
  pub SplitsAt-from_values : (left right site step : ℕ) → left < 256 → right < 256 → SplitAt (value_trail job left) (value_trail job right) site step → SplitsAt job (value_pair left right) site step
  SplitsAt-from_values left right site step h k (a, b, split, p, q) =
      record { is_pair = value_pair_is left right h k; left = a; right = b; first = split; at_site = p }

  -- a split of a pair is one of two values
  pub record IsValueSplit (pair : Pair) (site step : ℕ) : Type 0 where
    pub left : ℕ
    pub right : ℕ
    pub left_byte : left < 256
    pub right_byte : right < 256
    pub pair_is : pair ≡ value_pair left right
    pub split : SplitAt (value_trail job left) (value_trail job right) site step

  pub values-from_SplitsAt : (pair : Pair) (site step : ℕ) → SplitsAt job pair site step → IsValueSplit pair site step
  values-from_SplitsAt pair site step h =
      let e = is_value_pair pair h.is_pair in
      let l = get_or pair.left 0 0 in
      let r = get_or pair.right 0 0 in
      let same : h.left.pc ≡ h.right.pc = FirstSplit-one_pc job.image job.stops (start job pair.shared pair.left) (start job pair.shared pair.right) job.bound step h.left h.right (starts_aligned job _ _ _ _) h.first in
      let whole : SplitAt (run_trail job pair.shared pair.left job.bound) (run_trail job pair.shared pair.right job.bound) site step = (h.left, h.right, h.first, h.at_site, sym same ∙ h.at_site) in
      record {
        left = l;
        right = r;
        left_byte = h.is_pair.left_bytes 0 0 (omega (arith, h.is_pair.left_count, one_secret));
        right_byte = h.is_pair.right_bytes 0 0 (omega (arith, h.is_pair.right_count, one_secret));
        pair_is = e;
        split = subst (λ (p : Pair). SplitAt (run_trail job p.shared p.left job.bound) (run_trail job p.shared p.right job.bound) site step) e whole;
      }

  sites_of-map : (rows : List (ℕ × ValueSplit)) → sites_of (map found_of rows) ≡ map (λ row. (row.0, row.1.step)) rows
  sites_of-map [] = refl
  sites_of-map (row ∷ rows) = ap (λ xs. (row.0, row.1.step) ∷ xs) (sites_of-map rows)

  keys-map : (rows : List (ℕ × ValueSplit)) → map (λ (r : ℕ × ℕ). r.0) (map (λ (row : ℕ × ValueSplit). (row.0, row.1.step)) rows) ≡ map (λ (r : ℕ × ValueSplit). r.0) rows
  keys-map [] = refl
  keys-map (row ∷ rows) = ap (λ xs. row.0 ∷ xs) (keys-map rows)

  module _ (table : BTreeMap ℕ ValueSplit) (ordered : IsOrdered nat_cmp table) (splits : AreSplits SplitAt (value_trail job) 256 (get nat_cmp table)) (covers : CoversBelow SplitAt (value_trail job) 256 (get nat_cmp table)) where
    row_splits : (row : ℕ × ValueSplit) → get nat_cmp table row.0 ≡ Some row.1 → SplitsAt job (value_pair row.1.left row.1.right) row.0 row.1.step
    row_splits row at =
        let (apart, below, split) = splits row.0 row.1 at in
        SplitsAt-from_values row.1.left row.1.right row.0 row.1.step (omega (arith, apart, below)) below split

    -- a pair that splits at a site is covered by its row
    covered : (pair : Pair) (site step : ℕ) → SplitsAt job pair site step → (v : IsValueSplit pair site step) × Covers (get nat_cmp table) site step v.left v.right
    covered pair site step h =
        let v = values-from_SplitsAt pair site step h in
        (v, covers v.left v.right site step v.left_byte v.right_byte v.split)

    same_row : (site : ℕ) (a b : ValueSplit) → get nat_cmp table site ≡ Some a → get nat_cmp table site ≡ Some b → a ≡ b
    same_row site a b p q = let e = sym p ∙ q in cc

    none_earlier : (row : ℕ × ValueSplit) → get nat_cmp table row.0 ≡ Some row.1 → (other : Pair) (step : ℕ) → SplitsAt job other row.0 step → row.1.step ≤ step
    none_earlier row at other step h =
        let (v, (leak, found, within)) = covered other row.0 step h in
        subst (λ (l : ValueSplit). l.step ≤ step) (same_row row.0 leak row.1 found at) within.step

    row_is_least : (row : ℕ × ValueSplit) → get nat_cmp table row.0 ≡ Some row.1 → IsLeastStep job row.0 row.1.step
    row_is_least row at = record {
      pair = value_pair row.1.left row.1.right;
      splits = row_splits row at;
      none_earlier = none_earlier row at;
    }

    in_table : (site : ℕ) (leak : ValueSplit) → get nat_cmp table site ≡ Some leak → Contains (sites_of (map found_of table.entries)) (site, leak.step)
    in_table site leak at =
        rw (sites_of-map table.entries) (Contains-map (λ (row : ℕ × ValueSplit). (row.0, row.1.step)) table.entries (site, leak) ((btree_map_get_iff nat_cmp_total exact_unsigned table ordered site leak).0 at))

    has_site : (pair : Pair) (site step : ℕ) → SplitsAt job pair site step → HasSite (sites_of (map found_of table.entries)) site step
    has_site pair site step h =
        let (v, (leak, at, within)) = covered pair site step h in
        (leak.step, in_table site leak at, within.step)

    each_found : All (λ (row : ℕ × ValueSplit). get nat_cmp table row.0 ≡ Some row.1) table.entries
    each_found = All-found nat_cmp_total table ordered

    pub are_leak_sites : AreLeakSites job (sites_of (map found_of table.entries))
    are_leak_sites = record {
      ascending = rw (sites_of-map table.entries, keys-map table.entries) (IsStrictlyIncreasing-from_sorted _ ordered);
      each = rw (sites_of-map table.entries) (All-map (λ (row : ℕ × ℕ). IsLeastStep job row.0 row.1) (λ (row : ℕ × ValueSplit). (row.0, row.1.step)) table.entries (All-weaker (λ (row : ℕ × ValueSplit). get nat_cmp table row.0 ≡ Some row.1) (λ (row : ℕ × ValueSplit). IsLeastStep job row.0 row.1.step) row_is_least table.entries each_found));
      every = has_site;
    }

    pub are_least : All (λ found. IsLeastPair job found.site found.step found.pair) (map found_of table.entries)
    are_least =
        All-map (λ (found : Found). IsLeastPair job found.site found.step found.pair) found_of table.entries (All-weaker (λ (row : ℕ × ValueSplit). get nat_cmp table row.0 ≡ Some row.1) (λ (row : ℕ × ValueSplit). IsLeastPair job row.0 row.1.step (value_pair row.1.left row.1.right)) row_least table.entries each_found)
      where
        least : (row : ℕ × ValueSplit) → get nat_cmp table row.0 ≡ Some row.1 → (other : Pair) → SplitsAt job other row.0 row.1.step → pair_order other (value_pair row.1.left row.1.right) ≢ Less
        least row at other h =
            let (v, (leak, found, within)) = covered other row.0 row.1.step h in
            let same = same_row row.0 leak row.1 found at in
            let first : IsWithin row.1 row.1.step v.left v.right = subst (λ (l : ValueSplit). IsWithin l row.1.step v.left v.right) same within in
            subst (λ (p : Pair). pair_order p (value_pair row.1.left row.1.right) ≢ Less) (sym v.pair_is) (not_before v.left row.1.left v.right row.1.right (first.left refl) (λ e. first.right refl e))

        row_least : (row : ℕ × ValueSplit) → get nat_cmp table row.0 ≡ Some row.1 → IsLeastPair job row.0 row.1.step (value_pair row.1.left row.1.right)
        row_least row at = record { splits = row_splits row at; least = least row at }

    pub covers_pairs : CoversPairs job (map found_of table.entries)
    covers_pairs = record {
      every = λ pair h. elim (pair_splits job pair h) [ inl same ↦ inl same | inr (site, step, split) ↦ inr (site, step, split, has_site pair site step split) ];
      each = All-map (λ (found : Found). SplitsAt job found.pair found.site found.step) found_of table.entries (All-weaker (λ (row : ℕ × ValueSplit). get nat_cmp table row.0 ≡ Some row.1) (λ (row : ℕ × ValueSplit). SplitsAt job (value_pair row.1.left row.1.right) row.0 row.1.step) row_splits table.entries each_found);
    }

  -- the control paths of a job with one secret byte
  pub path_count_is : path_count job ≡ length (different (map (λ v. nexts (value_trail job v)) (range_with_len 0 256)))
  unfolding path_count run_paths
  path_count_is =
      let path : List ℕ → List ℕ → List ℕ = λ shared secret. nexts (run_trail job shared secret job.bound) in
      ap (λ ps. length (different ps)) (ap (λ n. paths_over path (all_values n) (all_values (secret_count job.inputs))) no_public ∙ ap (λ n. paths_over path (all_values 0) (all_values n)) one_secret ∙ ap (λ vs. paths_over path vs (all_values 1)) all_values-none ∙ ap (λ vs. paths_over path ([] ∷ []) vs) all_values-one ∙ one_secret_paths path (range_with_len 0 256))
