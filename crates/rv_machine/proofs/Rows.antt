-- Loads and stores of bytes at indices in a row.
use Rattle.std.proofs.Common.{◌≡◌, ℕ, zero, suc, ◌+◌, ◌*◌, ◌/◌, ◌%◌, ◌^◌, ◌≤◌, Bool, true, ◌&&◌, List, Some, length, refl, ap, ◌∙◌, arith, length-set, slice_index, slice_set}
use Rattle.rv_image.specs.Cell.{Cell}
use Rattle.rv_image.specs.Image.{index_at}
use Rattle.rv_image.specs.Block.{each_allowed, block_at, IsBlock}
use Rattle.rv_image.proofs.BlockLaws.{block_at-each}
use Rattle.rv_machine.specs.Row.{row_value, row_written}
use Rattle.rv_machine.specs.State.{State}
use Rattle.rv_machine.specs.Step.{wrapped, loaded_value, bytes_stored, all_allowed}

pub row_value_one : (bytes : List ℕ) (index : ℕ) → row_value bytes index 1 ≡ slice_index bytes index
unfolding row_value
row_value_one bytes index = omega arith

pub row_value_two : (bytes : List ℕ) (index : ℕ) → row_value bytes index 2 ≡ slice_index bytes index + 256 * slice_index bytes (index + 1)
unfolding row_value
row_value_two bytes index = let e : index + 1 ≡ suc index = omega arith in rw e (omega arith)

pub row_value_four : (bytes : List ℕ) (index : ℕ) → row_value bytes index 4
    ≡ slice_index bytes index + 2 ^ 8 * slice_index bytes (index + 1) + 2 ^ 16 * slice_index bytes (index + 2) + 2 ^ 24 * slice_index bytes (index + 3)
unfolding row_value
row_value_four bytes index =
    let one : index + 1 ≡ suc index = omega arith in
    let two : index + 2 ≡ suc (suc index) = omega arith in
    let three : index + 3 ≡ suc (suc (suc index)) = omega arith in
    rw (one, two, three) (omega arith)

pub row_written_one : (bytes : List ℕ) (index v : ℕ) → row_written bytes index 1 v ≡ slice_set bytes index (v % 256)
unfolding row_written
row_written_one bytes index v = refl

pub row_written_two : (bytes : List ℕ) (index v : ℕ) → row_written bytes index 2 v ≡ slice_set (slice_set bytes index (v % 256)) (index + 1) (v / 256 % 256)
unfolding row_written
row_written_two bytes index v = let e : index + 1 ≡ suc index = omega arith in rw e refl

pub row_written_four : (bytes : List ℕ) (index v : ℕ) → row_written bytes index 4 v ≡ row_written (row_written bytes index 2 v) (index + 2) 2 (v / 65536)
unfolding row_written
row_written_four bytes index v =
    let two : index + 2 ≡ suc (suc index) = omega arith in
    let high : v / 65536 ≡ v / 256 / 256 = omega arith in
    rw (two, high) refl

pub length_row_written : (bytes : List ℕ) (index n v : ℕ) → length (row_written bytes index n v) ≡ length bytes
unfolding row_written
length_row_written bytes index zero v = refl
length_row_written bytes index (suc n) v = length_row_written (slice_set bytes index (v % 256)) (suc index) n (v / 256) ∙ simp length-set

-- the indices of a row after the first one
IsBlock-next : (image : List Cell) (a n index : ℕ) → IsBlock image a (suc n) index → IsBlock image (suc a) n (suc index)
IsBlock-next image a n index run = record {
  fits = let fits = run.fits in omega arith;
  each = λ k less.
      let at : suc a + k ≡ a + suc k = omega arith in
      let to : suc index + k ≡ index + suc k = omega arith in
      rw (at, to) (run.each (suc k) (omega arith));
  within = let within = run.within in omega arith;
}

IsBlock-first : (image : List Cell) (a n index : ℕ) → IsBlock image a (suc n) index → index_at image a ≡ Some index
IsBlock-first image a n index run =
    let at : a + 0 ≡ a = omega arith in
    let to : index + 0 ≡ index = omega arith in
    rw (at, to) at (run.each 0 (omega arith))

-- an address of a row that fits memory isn't wrapped where more of the row follow
pub all_allowed_row : (can : ℕ → Bool) (a n : ℕ) → a + n ≤ 2 ^ 32 → all_allowed can a n ≡ each_allowed can a n
unfolding all_allowed each_allowed
all_allowed_row can a zero fits = refl
all_allowed_row can a (suc zero) fits = refl
all_allowed_row can a (suc (suc n)) fits =
    let next : wrapped (a + 1) ≡ suc a = omega arith in
    let rest = all_allowed_row can (suc a) (suc n) (omega arith) in
    rw next (ap (λ (b : Bool). can a && b) rest)

-- a row that has an answer has the right
pub all_allowed_run : (can : ℕ → Bool) (image : List Cell) (a n index : ℕ) → block_at can image a n ≡ Some index → IsBlock image a n index → all_allowed can a n ≡ true
all_allowed_run can image a n index found run = all_allowed_row can a n run.fits ∙ block_at-each can image a n index found

pub loaded_run : (image : List Cell) (s : State) (a n index : ℕ) → IsBlock image a n index → loaded_value image s a n ≡ row_value s.bytes index n
unfolding loaded_value row_value
loaded_run image s a zero index run = refl
loaded_run image s a (suc zero) index run = rw (IsBlock-first image a zero index run) refl
loaded_run image s a (suc (suc n)) index run =
    let next : wrapped (a + 1) ≡ suc a = let fits = run.fits in omega arith in
    let rest = loaded_run image s (suc a) (suc n) (suc index) (IsBlock-next image a (suc n) index run) in
    rw (IsBlock-first image a (suc n) index run, next) (ap (λ (v : ℕ). slice_index s.bytes index + 256 * v) rest)

pub stored_run : (image : List Cell) (bytes : List ℕ) (a n v index : ℕ) → IsBlock image a n index → bytes_stored image bytes a n v ≡ row_written bytes index n v
unfolding bytes_stored row_written
stored_run image bytes a zero v index run = refl
stored_run image bytes a (suc zero) v index run = rw (IsBlock-first image a zero index run) refl
stored_run image bytes a (suc (suc n)) v index run =
    let next : wrapped (a + 1) ≡ suc a = let fits = run.fits in omega arith in
    rw (IsBlock-first image a (suc n) index run, next) (stored_run image (slice_set bytes index (v % 256)) (suc a) (suc n) (v / 256) (suc index) (IsBlock-next image a (suc n) index run))
