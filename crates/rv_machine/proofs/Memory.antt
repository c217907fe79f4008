-- Loads and stores, one byte after another.
use Rattle.std.proofs.Common.{◌≡◌, ℕ, zero, suc, ◌+◌, ◌-◌, ◌*◌, ◌/◌, ◌%◌, ◌<◌, Bool, ◌&&◌, List, Option, Some, None, length, refl, arith, length-set, slice_set}
use Rattle.std.specs.Option.{option_map_or}
use Rattle.rv_image.specs.Cell.{Cell}
use Rattle.rv_image.specs.Image.{index_at}
use Rattle.rv_machine.specs.State.{State}
use Rattle.rv_machine.specs.Step.{wrapped, byte_value, byte_stored, loaded_value, bytes_stored, all_allowed}

pub all_allowed_next : (can : ℕ → Bool) (a n : ℕ) → 0 < n → all_allowed can a n ≡ (can a && all_allowed can (wrapped (a + 1)) (n - 1))
unfolding all_allowed
all_allowed_next can a zero positive = absurd (omega arith)
all_allowed_next can a (suc n) positive = let e : suc n - 1 ≡ n = omega arith in rw e

pub bytes_stored_next : (image : List Cell) (bytes : List ℕ) (a n v : ℕ) → 0 < n → bytes_stored image bytes a n v ≡ bytes_stored image (byte_stored image bytes a (v % 256)) (wrapped (a + 1)) (n - 1) (v / 256)
unfolding bytes_stored
bytes_stored_next image bytes a zero v positive = absurd (omega arith)
bytes_stored_next image bytes a (suc n) v positive = let e : suc n - 1 ≡ n = omega arith in rw e

length_stored_at : (bytes : List ℕ) (place : Option ℕ) (v : ℕ) → length (option_map_or (λ index. slice_set bytes index v) place bytes) ≡ length bytes
length_stored_at bytes None v = refl
length_stored_at bytes (Some index) v = simp length-set

pub length_stored : (image : List Cell) (bytes : List ℕ) (a v : ℕ) → length (byte_stored image bytes a v) ≡ length bytes
length_stored image bytes a v = length_stored_at bytes (index_at image a) v

pub loaded_one : (image : List Cell) (s : State) (a : ℕ) → loaded_value image s a 1 ≡ byte_value image s a
unfolding loaded_value
loaded_one image s a = omega arith

pub loaded_two : (image : List Cell) (s : State) (a : ℕ) → loaded_value image s a 2 ≡ byte_value image s a + 256 * byte_value image s (wrapped (a + 1))
unfolding loaded_value
loaded_two image s a = omega arith

wrapped_twice : (a : ℕ) → wrapped (wrapped (a + 1) + 1) ≡ wrapped (a + 2)
wrapped_twice a = omega arith

pub loaded_four : (image : List Cell) (s : State) (a : ℕ) → loaded_value image s a 4 ≡ loaded_value image s a 2 + 65536 * loaded_value image s (wrapped (a + 2)) 2
unfolding loaded_value
loaded_four image s a = rw (← wrapped_twice a) (omega arith)
