-- Runs of a routine that branches on a0, one of a load at a0, and one that reads ra before it is written.
use Rattle.std.proofs.Common.{◌≡◌, ℕ, List, [], ◌∷◌, ◌++◌, Some, None, true, false, replicate, set, refl}
use Rattle.ct_words.specs.Words.{test_value}
use Rattle.rv_decode.specs.Instructions.{instruction_of}
use Rattle.rv_image.specs.Cell.{Cell, cells_from}
use Rattle.rv_image.specs.Image.{cell_at, allowed_at, loaded_at, word_at, executable_word_at, fetch_at}
use Rattle.rv_machine.specs.declared.touch.Touch.TheVariants as touches
use Rattle.rv_machine.specs.declared.«record».Record.{Record}
use Rattle.rv_machine.specs.State.{State}
use Rattle.rv_machine.specs.Step.{all_allowed, load, perform, decoded_step, fetched_step, live_step, step}
use Rattle.rv_machine.specs.Trail.{state_after, trail}

-- code at 0x10054 that may be read and executed
abbrev image_of : List ℕ → List Cell
image_of bytes = cells_from 0x10054 true false true bytes

-- a start at 0x10054 with this value in a0
abbrev start_with : List ℕ → ℕ → State
start_with bytes value = record { pc = 0x10054; registers = set (replicate 32 0) 10 value; bytes = bytes; ending = None }

-- jalr zero, 0(ra)
abbrev back : List ℕ
back = 0x67 ∷ 0x80 ∷ 0x00 ∷ 0x00 ∷ []

-- beq a0, zero, 8, and two returns
abbrev branching : List ℕ
branching = 0x63 ∷ 0x04 ∷ 0x05 ∷ 0x00 ∷ (back ++ back)

-- lbu a0, 0(a0), and a return
abbrev loading : List ℕ
loading = 0x03 ∷ 0x45 ∷ 0x05 ∷ 0x00 ∷ back

abbrev goes : ℕ → ℕ → Record
goes pc next = record { pc = pc; touch = touches.Nothing; next = Some next }

taken : trail (image_of branching) (0 ∷ []) (start_with branching 0) 3 ≡ goes 0x10054 0x1005c ∷ goes 0x1005c 0 ∷ []
unfolding trail state_after step live_step fetched_step decoded_step perform fetch_at executable_word_at allowed_at word_at loaded_at cell_at cells_from instruction_of test_value
taken = refl

not_taken : trail (image_of branching) (0 ∷ []) (start_with branching 1) 3 ≡ goes 0x10054 0x10058 ∷ goes 0x10058 0 ∷ []
unfolding trail state_after step live_step fetched_step decoded_step perform fetch_at executable_word_at allowed_at word_at loaded_at cell_at cells_from instruction_of test_value
not_taken = refl

refused_load : trail (image_of loading) (0 ∷ []) (start_with loading 1) 3 ≡ record { pc = 0x10054; touch = touches.Load 1; next = None } ∷ []
unfolding trail state_after step live_step fetched_step decoded_step perform load all_allowed fetch_at executable_word_at allowed_at word_at loaded_at cell_at cells_from instruction_of
refused_load = refl
