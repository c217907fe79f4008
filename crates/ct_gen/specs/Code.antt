-- Generated code: s0 and s2 point to bytes in memory, those at s0 are secret, and s1 gathers a value.
use Rattle.std.specs.Prelude.{ℕ, zero, suc, true, false, List, [], ◌∷◌, ◌++◌, map}
use Rattle.ct_words.specs.declared.alu_op.AluOp.TheVariants.{Add, Xor, And, Sll, Mul}
use Rattle.rv_decode.specs.declared.instr.Instr.{Instr}
use Rattle.rv_decode.specs.declared.instr.Instr.TheVariants.{Jalr, Load, Store, OpImm, Op}
use Rattle.rv_decode.specs.Encoding.{word_of}
use Rattle.ct_gen.specs.declared.block.Block.{Block}
use Rattle.ct_gen.specs.declared.block.Block.TheVariants.{Mix, Keep, Scale, Follow}
use Rattle.ct_gen.specs.Blocks.{next_block, generator_after}

-- the registers by their names in the ABI
abbrev pub zero_register : ℕ
zero_register = 0

abbrev pub ra : ℕ
ra = 1

abbrev pub t0 : ℕ
t0 = 5

abbrev pub t1 : ℕ
t1 = 6

abbrev pub t2 : ℕ
t2 = 7

abbrev pub s0 : ℕ
s0 = 8

abbrev pub s1 : ℕ
s1 = 9

abbrev pub s2 : ℕ
s2 = 18

-- LBU, LW and SW
abbrev pub load_byte : ℕ → ℕ → ℕ → Instr
load_byte rd rs1 offset = Load rd rs1 offset 1 false

abbrev pub load_word : ℕ → ℕ → ℕ → Instr
load_word rd rs1 offset = Load rd rs1 offset 4 true

abbrev pub store_word : ℕ → ℕ → ℕ → Instr
store_word rs1 rs2 offset = Store rs1 rs2 offset 4

-- the instructions of a block
unfoldable pub block_code : Block → List Instr
-- lbu t0, offset(s0); xor s1, s1, t0; addi s1, s1, offset
block_code (Mix offset) = load_byte t0 s0 offset ∷ Op Xor s1 s1 t0 ∷ OpImm Add s1 s1 offset ∷ []
-- sw s1, offset(s2); lw t1, offset(s2); add s1, s1, t1
block_code (Keep offset) = store_word s2 s1 offset ∷ load_word t1 s2 offset ∷ Op Add s1 s1 t1 ∷ []
-- slli t2, s1, amount; mul s1, s1, t2
block_code (Scale amount) = OpImm Sll t2 s1 amount ∷ Op Mul s1 s1 t2 ∷ []
-- lbu t0, offset(s0); andi t0, t0, 3; add t0, t0, s2; lbu t1, 0(t0)
block_code (Follow offset) = load_byte t0 s0 offset ∷ OpImm And t0 t0 3 ∷ Op Add t0 t0 s2 ∷ load_byte t1 t0 0 ∷ []

-- jalr zero, 0(ra)
abbrev pub return_code : List Instr
return_code = Jalr zero_register ra 0 ∷ []

-- the words of instructions
abbrev pub words_of : List Instr → List ℕ
words_of instrs = map word_of instrs

-- the words of the first blocks from a number on
unfoldable pub blocks_code : ℕ → ℕ → List ℕ
blocks_code number zero = []
blocks_code number (suc blocks) = blocks_code number blocks ++ words_of (block_code (next_block (generator_after number blocks)))

-- the code of a number and a size: so many blocks, and a return
unfoldable pub code_of : ℕ → ℕ → List ℕ
code_of number size = blocks_code number size ++ words_of return_code
