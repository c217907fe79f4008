-- The word of an instruction.
use Rattle.std.specs.Prelude.{ℕ, ◌+◌, ◌*◌, ◌^◌, ◌==◌, Bool, true, false, if◌then◌else◌}
use Rattle.ct_words.specs.declared.alu_op.AluOp.{AluOp}
use Rattle.ct_words.specs.declared.alu_op.AluOp.TheVariants.{Sll, Srl, Sra}
use Rattle.rv_decode.specs.declared.instr.Instr.{Instr}
use Rattle.rv_decode.specs.declared.instr.Instr.TheVariants.{Lui, Auipc, Jal, Jalr, Branch, Load, Store, OpImm, Op, Fence, Call, Break}
use Rattle.rv_decode.specs.Fields.{bits}
use Rattle.rv_decode.specs.Table.{branch_funct3, op_funct3, op_funct7}

-- the word with these fields: opcode, rd, funct3, rs1, rs2, funct7
abbrev pub r_word : ℕ → ℕ → ℕ → ℕ → ℕ → ℕ → ℕ
r_word opcode rd f3 rs1 rs2 f7 = f7 * 2 ^ 25 + rs2 * 2 ^ 20 + rs1 * 2 ^ 15 + f3 * 2 ^ 12 + rd * 2 ^ 7 + opcode

-- the same with an immediate in its place, by its bit ranges, in the formats I, S, B, U and J
abbrev pub i_word : ℕ → ℕ → ℕ → ℕ → ℕ → ℕ
i_word opcode rd f3 rs1 imm = r_word opcode rd f3 rs1 (bits imm 4 0) (bits imm 11 5)

abbrev pub s_word : ℕ → ℕ → ℕ → ℕ → ℕ → ℕ
s_word opcode f3 rs1 rs2 imm = r_word opcode (bits imm 4 0) f3 rs1 rs2 (bits imm 11 5)

abbrev pub b_word : ℕ → ℕ → ℕ → ℕ → ℕ → ℕ
b_word opcode f3 rs1 rs2 imm =
    r_word opcode (bits imm 4 1 * 2 + bits imm 11 11) f3 rs1 rs2 (bits imm 12 12 * 2 ^ 6 + bits imm 10 5)

abbrev pub u_word : ℕ → ℕ → ℕ → ℕ
u_word opcode rd imm = r_word opcode rd (bits imm 14 12) (bits imm 19 15) (bits imm 24 20) (bits imm 31 25)

abbrev pub j_word : ℕ → ℕ → ℕ → ℕ
j_word opcode rd imm =
    r_word opcode rd (bits imm 14 12) (bits imm 19 15) (bits imm 4 1 * 2 + bits imm 11 11) (bits imm 20 20 * 2 ^ 6 + bits imm 10 5)

-- funct3 of a load and of a store
abbrev pub load_funct3 : ℕ → Bool → ℕ
load_funct3 bytes true = if bytes == 1 then 0 else (if bytes == 2 then 1 else 2)
load_funct3 bytes false = if bytes == 1 then 4 else 5

abbrev pub store_funct3 : ℕ → ℕ
store_funct3 bytes = if bytes == 1 then 0 else (if bytes == 2 then 1 else 2)

-- an operation with an immediate: a shift has funct7 beside the amount
abbrev pub op_imm_word : AluOp → ℕ → ℕ → ℕ → ℕ
op_imm_word Sll rd rs1 imm = r_word 0x13 rd 1 rs1 (bits imm 4 0) 0
op_imm_word Srl rd rs1 imm = r_word 0x13 rd 5 rs1 (bits imm 4 0) 0
op_imm_word Sra rd rs1 imm = r_word 0x13 rd 5 rs1 (bits imm 4 0) 0x20
op_imm_word op rd rs1 imm = i_word 0x13 rd (op_funct3 op) rs1 imm

-- the word of an instruction that some word stands for
unfoldable pub word_of : Instr → ℕ
word_of (Lui rd imm) = u_word 0x37 rd imm
word_of (Auipc rd imm) = u_word 0x17 rd imm
word_of (Jal rd offset) = j_word 0x6f rd offset
word_of (Jalr rd rs1 offset) = i_word 0x67 rd 0 rs1 offset
word_of (Branch cond rs1 rs2 offset) = b_word 0x63 (branch_funct3 cond) rs1 rs2 offset
word_of (Load rd rs1 offset bytes signed) = i_word 0x03 rd (load_funct3 bytes signed) rs1 offset
word_of (Store rs1 rs2 offset bytes) = s_word 0x23 (store_funct3 bytes) rs1 rs2 offset
word_of (OpImm op rd rs1 imm) = op_imm_word op rd rs1 imm
word_of (Op op rd rs1 rs2) = r_word 0x33 rd (op_funct3 op) rs1 rs2 (op_funct7 op)
word_of (Fence word) = word
word_of Call = 0x00000073
word_of Break = 0x00100073
