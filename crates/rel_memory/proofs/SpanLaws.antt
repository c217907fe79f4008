-- Words that are addresses of spans, and blocks of addresses.
use Rattle.std.proofs.Common.{◌≡◌, ℕ, zero, suc, ◌+◌, ◌-◌, ◌%◌, ◌^◌, ◌<◌, ◌≤◌, Bool, true, false, ◌&&◌, ◌||◌, cond, eqb, leb, ltb, List, length, get_or, take, Option, None, refl, sym, ap, ◌∙◌, inl, inr, arith, is_some}
use Rattle.std.proofs.lemmas.Bool.{cases_lt, cases_eq, le-leb, lt-leb, lt-ltb, le-ltb, eq-eqb, ne_eqb, and_from, and_left, and_right, and_parts, leb-true}
use Rattle.std.proofs.Math.Bool.{and_assoc}
use Rattle.ct_words.specs.Words.{flag, test_value, alu_value}
use Rattle.ct_words.specs.declared.cond.Cond.TheVariants.{Eq, Ltu}
use Rattle.ct_words.specs.declared.alu_op.AluOp.TheVariants.{Add, Sub}
use Rattle.rv_image.specs.declared.span.Span.{Span}
use Rattle.rv_image.specs.declared.right.Right.{Right}
use Rattle.rv_image.specs.Cell.{Cell}
use Rattle.rv_image.specs.Image.{allowed_at, index_at}
use Rattle.rv_image.specs.Block.{each_allowed, block_at, allowed_block_at}
use Rattle.rv_machine.specs.Step.{all_allowed, wrapped}
use Rattle.std.specs.List.{list_any}
use Rattle.std.proofs.lemmas.List.Folds.{list_any_more}
use Rattle.std.proofs.lemmas.List.Sums.{sum_by_more, sum_by-take-le}
use Rattle.rv_image.specs.View.{total}
use Rattle.rel_memory.specs.Spanning.{in_span, span_allows}

one_address : (x : ℕ) (span : Span) → span.length ≡ 1 → eqb x span.address ≡ in_span x span
one_address x span one = elim (cases_eq x span.address) [
  | inl e ↦ rw (eq-eqb x span.address e) (sym (and_from _ _ (le-leb span.address x (omega arith)) (lt-ltb x (span.address + span.length) (omega arith))))
  | inr d ↦ rw (ne_eqb x span.address d) (elim (cases_lt x span.address) [
    | inl below ↦ sym (and_left _ _ (lt-leb span.address x below))
    | inr above ↦ sym (and_right _ _ (le-ltb x (span.address + span.length) (omega arith)))
  ])
]

-- the one address of a span
pub one_value : (x address result : ℕ) (span : Span) → span.length ≡ 1 → address ≡ span.address → result ≡ flag (test_value Eq x address) → result ≡ flag (in_span x span)
unfolding test_value
one_value x address result span one is value = value ∙ (rw is (ap flag (one_address x span one)))

offset_below : (x : ℕ) (span : Span) → x < 2 ^ 32 → span.address + span.length ≤ 2 ^ 32 → 0 < span.length → ltb ((x + (2 ^ 32 - span.address)) % 2 ^ 32) span.length ≡ in_span x span
offset_below x span fits within some = elim (cases_lt x span.address) [
  | inl below ↦
      let high : span.length ≤ (x + (2 ^ 32 - span.address)) % 2 ^ 32 = omega arith in
      le-ltb _ span.length high ∙ sym (and_left _ (ltb x (span.address + span.length)) (lt-leb span.address x below))
  | inr above ↦
      let offset : (x + (2 ^ 32 - span.address)) % 2 ^ 32 ≡ x - span.address = omega arith in
      rw (offset, le-leb span.address x above) (elim (cases_lt x (span.address + span.length)) [
        | inl less ↦ lt-ltb (x - span.address) span.length (omega arith) ∙ sym (lt-ltb x (span.address + span.length) less)
        | inr more ↦ le-ltb (x - span.address) span.length (omega arith) ∙ sym (le-ltb x (span.address + span.length) more)
      ])
]

-- a word is an address of a span where its offset is below the length
pub offset_value : (x address offset size result : ℕ) (span : Span) → x < 2 ^ 32 → span.address + span.length ≤ 2 ^ 32 → 0 < span.length → address ≡ span.address → offset ≡ alu_value Sub x address → size ≡ span.length
    → result ≡ flag (test_value Ltu offset size) → result ≡ flag (in_span x span)
unfolding test_value alu_value
offset_value x address offset size result span fits within some is moved is_size value = value ∙ (rw (moved, is, is_size) (ap flag (offset_below x span fits within some)))

each_at : (can : ℕ → Bool) (address n k : ℕ) → each_allowed can address n ≡ true → k < n → can (address + k) ≡ true
unfolding each_allowed
each_at can address zero k each less = absurd (omega arith)
each_at can address (suc n) zero each less = let here : address + 0 ≡ address = omega arith in rw here (and_parts _ _ each).0
each_at can address (suc n) (suc k) each less =
    let moved : address + suc k ≡ suc address + k = omega arith in
    rw moved (each_at can (suc address) n k (and_parts _ _ each).1 (omega arith))

block_parts : (fits each : Bool) (first : Option ℕ) → is_some (cond (fits && each) first None) ≡ true → (fits ≡ true) × (each ≡ true)
block_parts true true first found = (refl, refl)
block_parts true false first found = absurd cc
block_parts false each first found = absurd cc

all_of : (can : ℕ → Bool) (first n at bytes : ℕ) → ((k : ℕ) → k < n → can (first + k) ≡ true) → first ≤ at → at + bytes ≤ first + n → first + n ≤ 2 ^ 32 → all_allowed can at bytes ≡ true
unfolding all_allowed
all_of can first n at zero each above below fits = refl
all_of can first n at (suc bytes) each above below fits =
    let here : first + (at - first) ≡ at = omega arith in
    let one : can at ≡ true = rw here at (each (at - first) (omega arith)) in
    elim (cases_eq bytes 0) [
      | inl last ↦ rw (one, last) refl
      | inr more ↦ (let next : wrapped (at + 1) ≡ at + 1 = omega arith in rw (one, next) (all_of can first n (at + 1) bytes each (omega arith) (omega arith) fits))
    ]

-- each byte of a block has the right
pub block_allows : (right : Right) (cells : List Cell) (first n at bytes : ℕ) → is_some (allowed_block_at right cells first n) ≡ true → first ≤ at → at + bytes ≤ first + n → all_allowed (allowed_at right cells) at bytes ≡ true
unfolding block_at
block_allows right cells first n at bytes found above below =
    let parts = block_parts (leb (first + n) (2 ^ 32)) (each_allowed (allowed_at right cells) first n) (index_at cells first) found in
    all_of (allowed_at right cells) first n at bytes (λ k less. each_at (allowed_at right cells) first n k parts.1 less) above below (leb-true (first + n) (2 ^ 32) parts.0)

-- one byte less, from the first on
pub all_allowed_next : (can : ℕ → Bool) (a i n m : ℕ) → m ≡ n + 1 → all_allowed can (wrapped (a + i)) m ≡ (can (wrapped (a + i)) && all_allowed can (wrapped (a + (i + 1))) n)
unfolding all_allowed
all_allowed_next can a i n m is =
    let next : m ≡ suc n = omega arith in
    let moved : wrapped (wrapped (a + i) + 1) ≡ wrapped (a + (i + 1)) = omega arith in
    rw (next, ← moved) refl

-- one byte more
pub all_allowed_more : (can : ℕ → Bool) (a n : ℕ) → a < 2 ^ 32 → all_allowed can a (n + 1) ≡ (all_allowed can a n && can (wrapped (a + n)))
unfolding all_allowed
all_allowed_more can a zero fits = by_first (can a) (can (wrapped (a + zero))) (ap can (omega arith))
  where
    by_first : (x y : Bool) → x ≡ y → (x && true) ≡ y
    by_first true y e = e
    by_first false y e = e
all_allowed_more can a (suc n) fits =
    let count : suc n + 1 ≡ suc (n + 1) = omega arith in
    let later = all_allowed_more can (wrapped (a + 1)) n (omega arith) in
    let moved : wrapped (wrapped (a + 1) + n) ≡ wrapped (a + suc n) = omega arith in
    rw (count, later, moved) (sym (and_assoc (can a) (all_allowed can (wrapped (a + 1)) n) (can (wrapped (a + suc n)))))

-- both bits
pub flag_and : (x y : Bool) → cond (eqb (flag x) 0) 0 (flag y) ≡ flag (x && y)
flag_and true y = refl
flag_and false y = refl

-- either bit
pub flag_or : (x y : Bool) → cond x 1 (flag y) ≡ flag (y || x)
flag_or true true = refl
flag_or true false = refl
flag_or false true = refl
flag_or false false = refl

and_here : (x y : Bool) → x ≡ true → (x && y) ≡ y
and_here true y e = refl
and_here false y e = absurd cc

module _ (can : ℕ → Bool) (a bytes i : ℕ) (so_far : all_allowed can (wrapped (a + i)) (bytes - i) ≡ all_allowed can a bytes) where
  next_of : i < bytes → all_allowed can a bytes ≡ (can (wrapped (a + i)) && all_allowed can (wrapped (a + (i + 1))) (bytes - (i + 1)))
  next_of less = sym so_far ∙ all_allowed_next can a i (bytes - (i + 1)) (bytes - i) (omega arith)

  pub one_refused : i < bytes → can (wrapped (a + i)) ≡ false → all_allowed can a bytes ≡ false
  one_refused less refused = next_of less ∙ and_left _ _ refused

  pub one_allowed : i < bytes → can (wrapped (a + i)) ≡ true → all_allowed can (wrapped (a + (i + 1))) (bytes - (i + 1)) ≡ all_allowed can a bytes
  one_allowed less allowed = sym (next_of less ∙ and_here _ _ allowed)

  pub none_left : bytes ≤ i → all_allowed can a bytes ≡ true
  unfolding all_allowed
  none_left over = sym so_far ∙ (let none : bytes - i ≡ 0 = omega arith in rw none refl)

-- one span more
pub any_more : (right : Right) (at : ℕ) (spans : List Span) (i bit before : ℕ) (span : Span) → i < length spans → span ≡ get_or spans i span
    → before ≡ flag (list_any (span_allows right at) (take i spans)) → bit ≡ cond (span_allows right at span) 1 before → bit ≡ flag (list_any (span_allows right at) (take (i + 1) spans))
any_more right at spans i bit before span inside is was step =
    step ∙ ap (λ (n : ℕ). cond (span_allows right at span) 1 n) was
    ∙ flag_or (span_allows right at span) (list_any (span_allows right at) (take i spans))
    ∙ ap (λ (s : Span). flag (list_any (span_allows right at) (take i spans) || span_allows right at s)) is
    ∙ ap flag (sym (list_any_more (span_allows right at) spans i span inside))

pub total_more : (spans : List Span) (i : ℕ) (span : Span) → i < length spans → span ≡ get_or spans i span → total (take (i + 1) spans) ≡ total (take i spans) + span.length
total_more spans i span inside is = sum_by_more (λ (s : Span). s.length) spans i span inside ∙ ap (λ (s : Span). total (take i spans) + s.length) (sym is)

pub all_allowed_one : (can : ℕ → Bool) (a : ℕ) → all_allowed can a 1 ≡ can a
unfolding all_allowed
all_allowed_one can a = with_true (can a)
  where
    with_true : (x : Bool) → (x && true) ≡ x
    with_true true = refl
    with_true false = refl

pub sum_is : (a b : ℕ) → alu_value Add a b ≡ wrapped (a + b)
unfolding alu_value
sum_is a b = refl

pub total_take : (spans : List Span) (i : ℕ) → total (take i spans) ≤ total spans
total_take spans i = sum_by-take-le (λ (s : Span). s.length) spans i
