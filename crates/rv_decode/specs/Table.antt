-- The words of the instructions of RV32I and M, by the fields of the RISC-V unprivileged manual.
use Rattle.std.specs.Prelude.{◌≡◌, ◌⊎◌, ℕ, Bool, true, false}
use Rattle.ct_words.specs.declared.alu_op.AluOp.{AluOp}
use Rattle.ct_words.specs.declared.alu_op.AluOp.TheVariants.{Add, Sub, Sll, Slt, Sltu, Xor, Srl, Sra, Or, And, Mul, Mulh, Mulhsu, Mulhu, Div, Divu, Rem, Remu}
use Rattle.ct_words.specs.declared.cond.Cond.{Cond}
use Rattle.ct_words.specs.declared.cond.Cond.TheVariants.{Eq, Ne, Lt, Ge, Ltu, Geu}
use Rattle.rv_decode.specs.declared.instr.Instr.{Instr}
use Rattle.rv_decode.specs.declared.instr.Instr.TheVariants.{Lui, Auipc, Jal, Jalr, Branch, Load, Store, OpImm, Op, Fence, Call, Break}
use Rattle.rv_decode.specs.Fields.{opcode, rd, funct3, rs1, rs2, funct7, i_immediate, s_immediate, b_immediate, u_immediate, j_immediate}

-- funct3 of a branch
abbrev pub branch_funct3 : Cond → ℕ
branch_funct3 Eq = 0
branch_funct3 Ne = 1
branch_funct3 Lt = 4
branch_funct3 Ge = 5
branch_funct3 Ltu = 6
branch_funct3 Geu = 7

-- LB, LH, LW, LBU, LHU, by funct3
abbrev pub IsLoad : ℕ → ℕ → Bool → Type 0
IsLoad f3 bytes signed =
    ((f3 ≡ 0) × (bytes ≡ 1) × (signed ≡ true))
    ⊎ ((f3 ≡ 1) × (bytes ≡ 2) × (signed ≡ true))
    ⊎ ((f3 ≡ 2) × (bytes ≡ 4) × (signed ≡ true))
    ⊎ ((f3 ≡ 4) × (bytes ≡ 1) × (signed ≡ false))
    ⊎ ((f3 ≡ 5) × (bytes ≡ 2) × (signed ≡ false))

-- SB, SH, SW, by funct3
abbrev pub IsStore : ℕ → ℕ → Type 0
IsStore f3 bytes = ((f3 ≡ 0) × (bytes ≡ 1)) ⊎ ((f3 ≡ 1) × (bytes ≡ 2)) ⊎ ((f3 ≡ 2) × (bytes ≡ 4))

-- funct3, funct7 and the amount of a shift by an immediate
abbrev pub IsShift : ℕ → ℕ → ℕ → ℕ → Type 0
IsShift word f3 f7 amount = (funct3 word ≡ f3) × (funct7 word ≡ f7) × (amount ≡ rs2 word)

-- funct3 and the immediate of another operation with an immediate
abbrev pub IsImmediate : ℕ → ℕ → ℕ → Type 0
IsImmediate word f3 imm = (funct3 word ≡ f3) × (imm ≡ i_immediate word)

-- ADDI, SLTI, SLTIU, XORI, ORI, ANDI, SLLI, SRLI, SRAI
abbrev pub IsOpImm : ℕ → AluOp → ℕ → Type 0
IsOpImm word Add imm = IsImmediate word 0 imm
IsOpImm word Slt imm = IsImmediate word 2 imm
IsOpImm word Sltu imm = IsImmediate word 3 imm
IsOpImm word Xor imm = IsImmediate word 4 imm
IsOpImm word Or imm = IsImmediate word 6 imm
IsOpImm word And imm = IsImmediate word 7 imm
IsOpImm word Sll imm = IsShift word 1 0 imm
IsOpImm word Srl imm = IsShift word 5 0 imm
IsOpImm word Sra imm = IsShift word 5 0x20 imm
IsOpImm word _ imm = ⊥

-- funct7 of an operation on two registers: 1 of each operation of M
abbrev pub op_funct7 : AluOp → ℕ
op_funct7 Add = 0
op_funct7 Sub = 0x20
op_funct7 Sll = 0
op_funct7 Slt = 0
op_funct7 Sltu = 0
op_funct7 Xor = 0
op_funct7 Srl = 0
op_funct7 Sra = 0x20
op_funct7 Or = 0
op_funct7 And = 0
op_funct7 _ = 1

-- funct3 of an operation on two registers
abbrev pub op_funct3 : AluOp → ℕ
op_funct3 Add = 0
op_funct3 Sub = 0
op_funct3 Sll = 1
op_funct3 Slt = 2
op_funct3 Sltu = 3
op_funct3 Xor = 4
op_funct3 Srl = 5
op_funct3 Sra = 5
op_funct3 Or = 6
op_funct3 And = 7
op_funct3 Mul = 0
op_funct3 Mulh = 1
op_funct3 Mulhsu = 2
op_funct3 Mulhu = 3
op_funct3 Div = 4
op_funct3 Divu = 5
op_funct3 Rem = 6
op_funct3 Remu = 7

-- the word stands for the instruction
abbrev pub StandsFor : ℕ → Instr → Type 0
StandsFor word (Lui d imm) = (opcode word ≡ 0x37) × (d ≡ rd word) × (imm ≡ u_immediate word)
StandsFor word (Auipc d imm) = (opcode word ≡ 0x17) × (d ≡ rd word) × (imm ≡ u_immediate word)
StandsFor word (Jal d offset) = (opcode word ≡ 0x6f) × (d ≡ rd word) × (offset ≡ j_immediate word)
StandsFor word (Jalr d a offset) =
    (opcode word ≡ 0x67) × (funct3 word ≡ 0) × (d ≡ rd word) × (a ≡ rs1 word) × (offset ≡ i_immediate word)
StandsFor word (Branch cond a b offset) =
    (opcode word ≡ 0x63) × (funct3 word ≡ branch_funct3 cond) × (a ≡ rs1 word) × (b ≡ rs2 word) × (offset ≡ b_immediate word)
StandsFor word (Load d a offset bytes signed) =
    (opcode word ≡ 0x03) × IsLoad (funct3 word) bytes signed × (d ≡ rd word) × (a ≡ rs1 word) × (offset ≡ i_immediate word)
StandsFor word (Store a b offset bytes) =
    (opcode word ≡ 0x23) × IsStore (funct3 word) bytes × (a ≡ rs1 word) × (b ≡ rs2 word) × (offset ≡ s_immediate word)
StandsFor word (OpImm op d a imm) = (opcode word ≡ 0x13) × IsOpImm word op imm × (d ≡ rd word) × (a ≡ rs1 word)
StandsFor word (Op op d a b) =
    (opcode word ≡ 0x33) × (funct7 word ≡ op_funct7 op) × (funct3 word ≡ op_funct3 op)
    × (d ≡ rd word) × (a ≡ rs1 word) × (b ≡ rs2 word)
StandsFor word (Fence whole) = (opcode word ≡ 0x0f) × (funct3 word ≡ 0) × (whole ≡ word)
StandsFor word Call = word ≡ 0x00000073
StandsFor word Break = word ≡ 0x00100073
