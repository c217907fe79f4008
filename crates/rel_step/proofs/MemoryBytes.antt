-- The bytes that the machine reads of memory.
use Rattle.std.proofs.Common.{◌≡◌, ℕ, zero, suc, ◌+◌, ◌<◌, ◌^◌, Bool, true, false, ◌&&◌, List, Option, Some, None, refl, sym, ◌∙◌, ap, arith, slice_index}
use Rattle.std.specs.Option.{is_some, option_map_or}
use Rattle.std.proofs.lemmas.Bool.{false≢true}
use Rattle.std.proofs.lemmas.List.{get_or-map}
use Rattle.rv_image.specs.declared.right.Right.{Right}
use Rattle.rv_image.specs.Cell.{Cell}
use Rattle.rv_image.specs.Image.{IsImage, index_at, allowed_at}
use Rattle.rv_image.proofs.Laws.{allowed_at-index_at, allowed_at-None}
use Rattle.rv_machine.specs.Step.{wrapped, byte_value, all_allowed}
use Rattle.rel_memory.specs.Contents.{Contents, IsAccessible, byte_in}
use Rattle.rel_step.specs.declared.here.Here.{Here}
use Rattle.rel_step.specs.Runs.{state_of}
use Rattle.rel_step.proofs.ByteLaws.{bytes_by, no_cell, index_address}

-- an address with a right is accessible
pub accessible : (kind : Right) (m : Contents) (a : ℕ) → allowed_at kind m.image a ≡ true → IsAccessible m a
accessible kind m a can none = absurd (false≢true (sym (allowed_at-None kind m.image a none) ∙ can))

both_true : (a b : Bool) → (a && b) ≡ true → (a ≡ true) × (b ≡ true)
both_true true b h = (refl, h)
both_true false b h = absurd (false≢true h)

wrapped_none : (a : ℕ) → a < 2 ^ 32 → wrapped (a + 0) ≡ a
wrapped_none a small = omega arith

wrapped_more : (a k : ℕ) → wrapped (wrapped (a + 1) + k) ≡ wrapped (a + suc k)
wrapped_more a k = omega arith

wrapped_small : (a : ℕ) → wrapped a < 2 ^ 32
wrapped_small a = omega arith

-- where an access is allowed, each of its bytes has the right
pub all_allowed_at : (can : ℕ → Bool) (n a k : ℕ) → all_allowed can a n ≡ true → k < n → a < 2 ^ 32 → can (wrapped (a + k)) ≡ true
unfolding all_allowed
all_allowed_at can zero a k h lt small = absurd (omega arith)
all_allowed_at can (suc n) a zero h lt small = ap can (wrapped_none a small) ∙ (both_true (can a) (all_allowed can (wrapped (a + 1)) n) h).0
all_allowed_at can (suc n) a (suc k) h lt small =
    ap can (sym (wrapped_more a k)) ∙ all_allowed_at can n (wrapped (a + 1)) k (both_true (can a) (all_allowed can (wrapped (a + 1)) n) h).1 (omega arith) (wrapped_small (a + 1))

index_of : (o : Option ℕ) → is_some o ≡ true → (k : ℕ) × (o ≡ Some k)
index_of None h = absurd (false≢true h)
index_of (Some k) h = (k, refl)

-- bytes in the order of their addresses, of which one is read by its address
by_address : (image : List Cell) (f : ℕ → ℕ) (a k : ℕ) → IsImage image → index_at image a ≡ Some k → option_map_or (slice_index (bytes_by image f)) (index_at image a) 0 ≡ f a
by_address image f a k is at =
    let (below, address) = index_address image a k no_cell is at in
    ap (λ o. option_map_or (slice_index (bytes_by image f)) o 0) at ∙ get_or-map (λ (cell : Cell). f cell.address) image k no_cell 0 below ∙ ap f address

-- the byte of a run's state at an address with a right
pub byte_is : (kind : Right) (right : Bool) (v : ℕ → ℕ) (here : Here) (a : ℕ) → IsImage here.memory.image → allowed_at kind here.memory.image a ≡ true
    → byte_value here.memory.image (state_of right v here) a ≡ byte_in right v here.memory a
byte_is kind right v here a is can =
    let (k, at) = index_of (index_at here.memory.image a) (allowed_at-index_at kind here.memory.image a can) in
    by_address here.memory.image (byte_in right v here.memory) a k is at
