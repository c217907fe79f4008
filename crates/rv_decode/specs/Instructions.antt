-- The function that reads a word as an instruction of RV32I and M.
use Rattle.std.specs.Prelude.{◌≡◌, ◌<◌, ◌^◌, ℕ, Bool, true, false, ◌==◌, Option, Some, None, if◌then◌else◌}
use Rattle.std.specs.Option.{option_map}
use Rattle.ct_words.specs.declared.alu_op.AluOp.{AluOp}
use Rattle.ct_words.specs.declared.alu_op.AluOp.TheVariants.{Add, Sub, Sll, Slt, Sltu, Xor, Srl, Sra, Or, And, Mul, Mulh, Mulhsu, Mulhu, Div, Divu, Rem, Remu}
use Rattle.ct_words.specs.declared.cond.Cond.{Cond}
use Rattle.ct_words.specs.declared.cond.Cond.TheVariants.{Eq, Ne, Lt, Ge, Ltu, Geu}
use Rattle.ct_words.specs.Words.{IsAccessSize}
use Rattle.rv_decode.specs.declared.instr.Instr.{Instr}
use Rattle.rv_decode.specs.declared.instr.Instr.TheVariants.{Lui, Auipc, Jal, Jalr, Branch, Load, Store, OpImm, Op, Fence, Call, Break}
use Rattle.rv_decode.specs.Fields.{opcode, rd, funct3, rs1, rs2, funct7, i_immediate, s_immediate, b_immediate, u_immediate, j_immediate}

-- the condition of a branch, by funct3
abbrev pub branch_cond : ℕ → Option Cond
branch_cond f3 =
    if f3 == 0 then Some Eq else
    (if f3 == 1 then Some Ne else
    (if f3 == 4 then Some Lt else
    (if f3 == 5 then Some Ge else
    (if f3 == 6 then Some Ltu else
    (if f3 == 7 then Some Geu else None)))))

-- how many bytes a load reads and whether it extends their sign, by funct3
abbrev pub load_kind : ℕ → Option (ℕ × Bool)
load_kind f3 =
    if f3 == 0 then Some (1, true) else
    (if f3 == 1 then Some (2, true) else
    (if f3 == 2 then Some (4, true) else
    (if f3 == 4 then Some (1, false) else
    (if f3 == 5 then Some (2, false) else None))))

-- how many bytes a store writes, by funct3
abbrev pub store_size : ℕ → Option ℕ
store_size f3 =
    if f3 == 0 then Some 1 else
    (if f3 == 1 then Some 2 else
    (if f3 == 2 then Some 4 else None))

-- an operation with an immediate that is no shift, by funct3
abbrev pub immediate_op : ℕ → Option AluOp
immediate_op f3 =
    if f3 == 0 then Some Add else
    (if f3 == 2 then Some Slt else
    (if f3 == 3 then Some Sltu else
    (if f3 == 4 then Some Xor else
    (if f3 == 6 then Some Or else
    (if f3 == 7 then Some And else None)))))

-- a shift by an immediate, by funct7 and funct3
abbrev pub shift_op : ℕ → ℕ → Option AluOp
shift_op f7 f3 =
    if f7 == 0 then (if f3 == 1 then Some Sll else (if f3 == 5 then Some Srl else None)) else
    (if f7 == 0x20 then (if f3 == 5 then Some Sra else None) else None)

-- an operation on two registers with funct7 0, by funct3
abbrev pub base_op : ℕ → Option AluOp
base_op f3 =
    if f3 == 0 then Some Add else
    (if f3 == 1 then Some Sll else
    (if f3 == 2 then Some Slt else
    (if f3 == 3 then Some Sltu else
    (if f3 == 4 then Some Xor else
    (if f3 == 5 then Some Srl else
    (if f3 == 6 then Some Or else
    (if f3 == 7 then Some And else None)))))))

-- the same with funct7 0x20
abbrev pub other_op : ℕ → Option AluOp
other_op f3 = if f3 == 0 then Some Sub else (if f3 == 5 then Some Sra else None)

-- the same with funct7 1, which are the operations of M
abbrev pub multiply_op : ℕ → Option AluOp
multiply_op f3 =
    if f3 == 0 then Some Mul else
    (if f3 == 1 then Some Mulh else
    (if f3 == 2 then Some Mulhsu else
    (if f3 == 3 then Some Mulhu else
    (if f3 == 4 then Some Div else
    (if f3 == 5 then Some Divu else
    (if f3 == 6 then Some Rem else
    (if f3 == 7 then Some Remu else None)))))))

-- an operation on two registers, by funct7 and funct3
abbrev pub register_op : ℕ → ℕ → Option AluOp
register_op f7 f3 =
    if f7 == 0 then base_op f3 else
    (if f7 == 0x20 then other_op f3 else
    (if f7 == 1 then multiply_op f3 else None))

-- the instruction of a word, by its opcode
abbrev pub jalr_of : ℕ → Option Instr
jalr_of word = if funct3 word == 0 then Some (Jalr (rd word) (rs1 word) (i_immediate word)) else None

abbrev pub branch_of : ℕ → Option Instr
branch_of word = option_map (λ cond. Branch cond (rs1 word) (rs2 word) (b_immediate word)) (branch_cond (funct3 word))

abbrev pub load_of : ℕ → Option Instr
load_of word = option_map (λ kind. Load (rd word) (rs1 word) (i_immediate word) kind.0 kind.1) (load_kind (funct3 word))

abbrev pub store_of : ℕ → Option Instr
store_of word = option_map (λ bytes. Store (rs1 word) (rs2 word) (s_immediate word) bytes) (store_size (funct3 word))

abbrev pub shift_of : ℕ → Option Instr
shift_of word = option_map (λ op. OpImm op (rd word) (rs1 word) (rs2 word)) (shift_op (funct7 word) (funct3 word))

abbrev pub immediate_of : ℕ → Option Instr
immediate_of word =
    if funct3 word == 1 then shift_of word else
    (if funct3 word == 5 then shift_of word else
    option_map (λ op. OpImm op (rd word) (rs1 word) (i_immediate word)) (immediate_op (funct3 word)))

abbrev pub register_of : ℕ → Option Instr
register_of word = option_map (λ op. Op op (rd word) (rs1 word) (rs2 word)) (register_op (funct7 word) (funct3 word))

abbrev pub fence_of : ℕ → Option Instr
fence_of word = if funct3 word == 0 then Some (Fence word) else None

abbrev pub system_of : ℕ → Option Instr
system_of word = if word == 0x00000073 then Some Call else (if word == 0x00100073 then Some Break else None)

-- the instruction that a word stands for, or none
unfoldable pub instruction_of : ℕ → Option Instr
instruction_of word =
    if opcode word == 0x37 then Some (Lui (rd word) (u_immediate word)) else
    (if opcode word == 0x17 then Some (Auipc (rd word) (u_immediate word)) else
    (if opcode word == 0x6f then Some (Jal (rd word) (j_immediate word)) else
    (if opcode word == 0x67 then jalr_of word else
    (if opcode word == 0x63 then branch_of word else
    (if opcode word == 0x03 then load_of word else
    (if opcode word == 0x23 then store_of word else
    (if opcode word == 0x13 then immediate_of word else
    (if opcode word == 0x33 then register_of word else
    (if opcode word == 0x0f then fence_of word else
    (if opcode word == 0x73 then system_of word else None))))))))))

-- some word stands for the instruction
pub record IsDecoded (instr : Instr) : Type 0 where
  pub word : ℕ
  pub small : word < 2 ^ 32
  pub decoded : instruction_of word ≡ Some instr

-- register numbers are below 32, immediates and offsets are words, and an access has 1, 2 or 4 bytes
abbrev pub InRange : Instr → Type 0
InRange (Lui rd imm) = (rd < 32) × (imm < 2 ^ 32)
InRange (Auipc rd imm) = (rd < 32) × (imm < 2 ^ 32)
InRange (Jal rd offset) = (rd < 32) × (offset < 2 ^ 32)
InRange (Jalr rd rs1 offset) = (rd < 32) × (rs1 < 32) × (offset < 2 ^ 32)
InRange (Branch cond rs1 rs2 offset) = (rs1 < 32) × (rs2 < 32) × (offset < 2 ^ 32)
InRange (Load rd rs1 offset bytes signed) = (rd < 32) × (rs1 < 32) × (offset < 2 ^ 32) × IsAccessSize bytes
InRange (Store rs1 rs2 offset bytes) = (rs1 < 32) × (rs2 < 32) × (offset < 2 ^ 32) × IsAccessSize bytes
InRange (OpImm op rd rs1 imm) = (rd < 32) × (rs1 < 32) × (imm < 2 ^ 32)
InRange (Op op rd rs1 rs2) = (rd < 32) × (rs1 < 32) × (rs2 < 32)
InRange (Fence word) = word < 2 ^ 32
InRange Call = Unit {0}
InRange Break = Unit {0}
