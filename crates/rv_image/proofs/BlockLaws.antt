-- What holds of addresses in a row.
use Rattle.std.proofs.Common.{◌≡◌, ℕ, zero, suc, ◌+◌, ◌-◌, ◌^◌, ◌<◌, ◌≤◌, leb, Bool, true, false, cond, ◌&&◌, List, Option, Some, None, refl, sym, ◌∙◌, arith, is_some, IfSome}
use Rattle.std.proofs.lemmas.Bool.{le-leb, leb-true, and_left, and_right}
use Rattle.rv_image.specs.declared.location.Location.{Location}
use Rattle.rv_image.specs.declared.right.Right.{Right}
use Rattle.rv_image.specs.declared.right.Right.TheVariants.{Read, Write, Execute}
use Rattle.rv_image.specs.declared.span.Span.{Span}
use Rattle.rv_image.specs.Cell.{Cell}
use Rattle.rv_image.specs.Image.{IsImage, span_right, cell_right, allowed_at, index_at, size_of}
use Rattle.rv_image.specs.Location.{IsHeld}
use Rattle.rv_image.specs.Block.{each_allowed, block_at, allowed_block_at, IsBlock}
use Rattle.rv_image.proofs.Laws.{cell_at-All, allowed_at-Some, allowed_at-index_at, index_at-below, index_at-next}

pub each_allowed_next : (can : ℕ → Bool) (address n : ℕ) → 0 < n → each_allowed can address n ≡ (can address && each_allowed can (address + 1) (n - 1))
unfolding each_allowed
each_allowed_next can address zero positive = absurd (omega arith)
each_allowed_next can address (suc n) positive =
    let e : suc n - 1 ≡ n = omega arith in
    let f : address + 1 ≡ suc address = omega arith in
    rw (e, f) refl

-- a row with the right, of which no address passes 2^32
record IsAllowed (can : ℕ → Bool) (cells : List Cell) (address n index : ℕ) : Type 0 where
  pub fits : address + n ≤ 2 ^ 32
  pub each : each_allowed can address n ≡ true
  pub first : index_at cells address ≡ Some index

both : (fits each : Bool) (first : Option ℕ) (index : ℕ) → cond (fits && each) first None ≡ Some index → (fits ≡ true) × (each ≡ true) × (first ≡ Some index)
both true true first index found = (refl, refl, found)
both true false first index found = absurd cc
both false each first index found = absurd cc

block_at-Some : (can : ℕ → Bool) (cells : List Cell) (address n index : ℕ) → block_at can cells address n ≡ Some index → IsAllowed can cells address n index
unfolding block_at
block_at-Some can cells address n index found =
    let all = both (leb (address + n) (2 ^ 32)) (each_allowed can address n) (index_at cells address) index found in
    record { fits = leb-true (address + n) (2 ^ 32) all.0; each = all.1; first = all.2 }

-- a row that has an answer has the right
pub block_at-each : (can : ℕ → Bool) (cells : List Cell) (address n index : ℕ) → block_at can cells address n ≡ Some index → each_allowed can address n ≡ true
block_at-each can cells address n index found = (block_at-Some can cells address n index found).each

block_at-all : (can : ℕ → Bool) (cells : List Cell) (address n : ℕ) → address + n ≤ 2 ^ 32 → each_allowed can address n ≡ true → block_at can cells address n ≡ index_at cells address
unfolding block_at
block_at-all can cells address n fits each = rw (le-leb (address + n) (2 ^ 32) fits, each) refl

block_at-refused : (can : ℕ → Bool) (cells : List Cell) (address n : ℕ) → each_allowed can address n ≡ false → block_at can cells address n ≡ None
unfolding block_at
block_at-refused can cells address n refused = rw (and_right (leb (address + n) (2 ^ 32)) _ refused) refl

both_true : (x y : Bool) → (x && y) ≡ true → (x ≡ true) × (y ≡ true)
both_true true true both = (refl, refl)
both_true true false both = absurd cc
both_true false y both = absurd cc

-- each address of a row with the right has it
each_allowed-at : (can : ℕ → Bool) (address n k : ℕ) → each_allowed can address n ≡ true → k < n → can (address + k) ≡ true
unfolding each_allowed
each_allowed-at can address zero k each less = absurd (omega arith)
each_allowed-at can address (suc n) zero each less = let here : address + 0 ≡ address = omega arith in rw here (both_true _ _ each).0
each_allowed-at can address (suc n) (suc k) each less =
    let moved : address + suc k ≡ suc address + k = omega arith in
    rw moved (each_allowed-at can (suc address) n k (both_true _ _ each).1 (omega arith))

-- a row of which each address has the right has the right
each_allowed-all : (can : ℕ → Bool) (address n : ℕ) → ((k : ℕ) → k < n → can (address + k) ≡ true) → each_allowed can address n ≡ true
unfolding each_allowed
each_allowed-all can address zero all = refl
each_allowed-all can address (suc n) all =
    let here : address + 0 ≡ address = omega arith in
    let first = rw here at (all 0 (omega arith)) in
    let moved : (k : ℕ) → suc address + k ≡ address + suc k = λ k. omega arith in
    rw (first, each_allowed-all can (suc address) n (λ k less. rw (moved k) (all (suc k) (omega arith)))) refl

-- the addresses of a row with the right have the indices from the first one's on
pub IsBlock-from : (can : ℕ → Bool) (cells : List Cell) (address n index : ℕ) → ((at : ℕ) → can at ≡ true → is_some (index_at cells at) ≡ true)
    → IsImage cells → block_at can cells address n ≡ Some index → IsBlock cells address n index
IsBlock-from can cells address n index accessible image found =
    record { fits = row.fits; each = each; within = within n (omega arith) }
  where
    row : IsAllowed can cells address n index
    row = block_at-Some can cells address n index found

    each : (k : ℕ) → k < n → index_at cells (address + k) ≡ Some (index + k)
    each zero less =
        let here : address + 0 ≡ address = omega arith in
        let same : index + 0 ≡ index = omega arith in
        rw (here, same) row.first
    each (suc k) less =
        let here : address + suc k ≡ suc (address + k) = omega arith in
        let same : index + suc k ≡ suc (index + k) = omega arith in
        let right = each_allowed-at can address n (suc k) row.each less in
        rw (here, same) (index_at-next cells (address + k) (index + k) image (each k (omega arith)) (rw here at (accessible (address + suc k) right)))

    within : (m : ℕ) → m ≤ n → index + m ≤ size_of cells
    within zero less = let below = index_at-below cells address index image row.first in omega arith
    within (suc m) less = let below = index_at-below cells (address + m) (index + m) image (each m (omega arith)) in omega arith

-- a row that is held fits memory
held-fits : (cells : List Cell) (address n : ℕ) (location : Location) → IsImage cells → IsHeld cells address n location → 0 < n → address + n ≤ 2 ^ 32
held-fits cells address n location image held some =
    let last = cell_at-All (λ c. c.address < 2 ^ 32) cells (address + (n - 1)) _ image.addresses (held.cell (n - 1) (omega arith)) in
    omega arith

-- a row that is held is a run
pub IsBlock-held : (cells : List Cell) (address n : ℕ) (location : Location) → IsImage cells → IsHeld cells address n location → 0 < n → IsBlock cells address n location.index
IsBlock-held cells address n location image held some = record { fits = held-fits cells address n location image held some; each = held.index; within = held.within }

-- the answer at a row that is held and has the right
held-first : (cells : List Cell) (address n : ℕ) (location : Location) → IsHeld cells address n location → 0 < n → index_at cells address ≡ Some location.index
held-first cells address n location held some =
    let here : address + 0 ≡ address = omega arith in
    let same : location.index + 0 ≡ location.index = omega arith in
    rw (here, same) at (held.index 0 some)

block_at-held : (can : ℕ → Bool) (cells : List Cell) (address n : ℕ) (location : Location) → IsImage cells → IsHeld cells address n location → 0 < n
    → ((k : ℕ) → k < n → can (address + k) ≡ true) → block_at can cells address n ≡ Some location.index
block_at-held can cells address n location image held some all =
    block_at-all can cells address n (held-fits cells address n location image held some) (each_allowed-all can address n all) ∙ held-first cells address n location held some

block_at-held_none : (can : ℕ → Bool) (cells : List Cell) (address n : ℕ) → 0 < n → can (address + 0) ≡ false → block_at can cells address n ≡ None
block_at-held_none can cells address n some refused =
    let here : address + 0 ≡ address = omega arith in
    block_at-refused can cells address n (each_allowed_next can address n some ∙ and_left _ _ (rw here at refused))

-- the cells of a span have its rights
right-same : (right : Right) (span : Span) (address byte : ℕ)
    → cell_right right (record { address = address; byte = byte; read = span.read; write = span.write; exec = span.exec }) ≡ span_right right span
right-same Read span address byte = refl
right-same Write span address byte = refl
right-same Execute span address byte = refl

pub allowed_block_at-held : (right : Right) (cells : List Cell) (address n : ℕ) (location : Location) → IsImage cells → IsHeld cells address n location → 0 < n
    → span_right right location.span ≡ true → allowed_block_at right cells address n ≡ Some location.index
allowed_block_at-held right cells address n location image held some has =
    block_at-held (allowed_at right cells) cells address n location image held some
    (λ k less. allowed_at-Some right cells (address + k) _ (held.cell k less) ∙ right-same right location.span _ _ ∙ has)

pub allowed_block_at-held_none : (right : Right) (cells : List Cell) (address n : ℕ) (location : Location) → IsHeld cells address n location → 0 < n
    → span_right right location.span ≡ false → allowed_block_at right cells address n ≡ None
allowed_block_at-held_none right cells address n location held some refused =
    block_at-held_none (allowed_at right cells) cells address n some
    (allowed_at-Some right cells (address + 0) _ (held.cell 0 some) ∙ right-same right location.span _ _ ∙ refused)

each_found : (cells : List Cell) (address n : ℕ) (found : Option ℕ) → ((index : ℕ) → found ≡ Some index → IsBlock cells address n index) → IfSome found (IsBlock cells address n)
each_found cells address n None run = tt
each_found cells address n (Some index) run = run index refl

pub IsBlock-allowed : (right : Right) (cells : List Cell) (address n : ℕ) (found : Option ℕ) → IsImage cells → found ≡ allowed_block_at right cells address n
    → IfSome found (IsBlock cells address n)
IsBlock-allowed right cells address n found image is =
    each_found cells address n found
    (λ index some. IsBlock-from (allowed_at right cells) cells address n index (λ at has. allowed_at-index_at right cells at has) image (sym is ∙ some))
