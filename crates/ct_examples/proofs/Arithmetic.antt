-- One step of the machine for operations of the M extension and a shift, with a1 and a2 as operands and the result in a3.
use Rattle.std.proofs.Common.{◌≡◌, ℕ, List, [], ◌∷◌, None, true, false, replicate, set, refl}
use Rattle.std.specs.Prelude.{slice_index}
use Rattle.ct_words.specs.Words.{alu_value}
use Rattle.rv_decode.specs.Instructions.{instruction_of}
use Rattle.rv_image.specs.Cell.{cells_from}
use Rattle.rv_image.specs.Image.{cell_at, allowed_at, loaded_at, word_at, executable_word_at, fetch_at}
use Rattle.rv_machine.specs.State.{State}
use Rattle.rv_machine.specs.Step.{perform, decoded_step, fetched_step, live_step, step}
use Rattle.rv_machine.specs.Trail.{state_after}

-- a start at 0x10054 with these values in a1 and a2
abbrev start_with : List ℕ → ℕ → ℕ → State
start_with bytes left right = record { pc = 0x10054; registers = set (set (replicate 32 0) 11 left) 12 right; bytes = bytes; ending = None }

-- what a3 holds after the one instruction of these bytes
abbrev result_of : List ℕ → ℕ → ℕ → ℕ
result_of bytes left right = slice_index (state_after (cells_from 0x10054 true false true bytes) (0 ∷ []) (start_with bytes left right) 1).registers 13

-- div a3, a1, a2
quotient_overflow : result_of (0xb3 ∷ 0xc6 ∷ 0xc5 ∷ 0x02 ∷ []) 0x80000000 0xffffffff ≡ 0x80000000
unfolding state_after step live_step fetched_step decoded_step perform fetch_at executable_word_at allowed_at word_at loaded_at cell_at cells_from instruction_of alu_value
quotient_overflow = refl

-- rem a3, a1, a2
remainder_overflow : result_of (0xb3 ∷ 0xe6 ∷ 0xc5 ∷ 0x02 ∷ []) 0x80000000 0xffffffff ≡ 0
unfolding state_after step live_step fetched_step decoded_step perform fetch_at executable_word_at allowed_at word_at loaded_at cell_at cells_from instruction_of alu_value
remainder_overflow = refl

-- remu a3, a1, a2
remainder_by_zero : result_of (0xb3 ∷ 0xf6 ∷ 0xc5 ∷ 0x02 ∷ []) 7 0 ≡ 7
unfolding state_after step live_step fetched_step decoded_step perform fetch_at executable_word_at allowed_at word_at loaded_at cell_at cells_from instruction_of alu_value
remainder_by_zero = refl

-- divu a3, a1, a2
quotient_by_zero : result_of (0xb3 ∷ 0xd6 ∷ 0xc5 ∷ 0x02 ∷ []) 7 0 ≡ 0xffffffff
unfolding state_after step live_step fetched_step decoded_step perform fetch_at executable_word_at allowed_at word_at loaded_at cell_at cells_from instruction_of alu_value
quotient_by_zero = refl

-- mulhsu a3, a1, a2
mixed_product : result_of (0xb3 ∷ 0xa6 ∷ 0xc5 ∷ 0x02 ∷ []) 0xffffffff 0xffffffff ≡ 0xffffffff
unfolding state_after step live_step fetched_step decoded_step perform fetch_at executable_word_at allowed_at word_at loaded_at cell_at cells_from instruction_of alu_value
mixed_product = refl

-- mulh a3, a1, a2
signed_product : result_of (0xb3 ∷ 0x96 ∷ 0xc5 ∷ 0x02 ∷ []) 0x80000000 0x80000000 ≡ 0x40000000
unfolding state_after step live_step fetched_step decoded_step perform fetch_at executable_word_at allowed_at word_at loaded_at cell_at cells_from instruction_of alu_value
signed_product = refl

-- sll a3, a1, a2
long_shift : result_of (0xb3 ∷ 0x96 ∷ 0xc5 ∷ 0x00 ∷ []) 5 32 ≡ 5
unfolding state_after step live_step fetched_step decoded_step perform fetch_at executable_word_at allowed_at word_at loaded_at cell_at cells_from instruction_of alu_value
long_shift = refl
