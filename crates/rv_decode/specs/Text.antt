-- The text of an instruction.
use Rattle.std.specs.Prelude.{ℕ, zero, suc, ◌+◌, ◌/◌, ◌%◌, ◌^◌, List, [], ◌∷◌, ◌++◌, Bool, true, false, slice_index_or, if◌then◌else◌, ◌==◌, codes}
use Rattle.std.specs.Fmt.{digit_glyph, signed_decimal}
use Rattle.ct_words.specs.declared.alu_op.AluOp.{AluOp}
use Rattle.ct_words.specs.declared.alu_op.AluOp.TheVariants.{Add, Sub, Sll, Slt, Sltu, Xor, Srl, Sra, Or, And, Mul, Mulh, Mulhsu, Mulhu, Div, Divu, Rem, Remu}
use Rattle.ct_words.specs.declared.cond.Cond.{Cond}
use Rattle.ct_words.specs.declared.cond.Cond.TheVariants.{Eq, Ne, Lt, Ge, Ltu, Geu}
use Rattle.ct_words.specs.Words.{signed}
use Rattle.rv_decode.specs.declared.instr.Instr.{Instr}
use Rattle.rv_decode.specs.declared.instr.Instr.TheVariants.{Lui, Auipc, Jal, Jalr, Branch, Load, Store, OpImm, Op, Fence, Call, Break}

-- the last k hexadecimal digits of n, in lower case
unfoldable pub hex_digits : ℕ → ℕ → List ℕ
hex_digits zero n = []
hex_digits (suc k) n = hex_digits k (n / 16) ++ digit_glyph false (n % 16) ∷ []

-- an address: eight digits
abbrev pub address_text : ℕ → List ℕ
address_text n = codes "0x" ++ hex_digits 8 n

-- a word as a signed number
abbrev pub signed_text : ℕ → List ℕ
signed_text word = signed_decimal (signed word)

-- the registers' names in the ABI, from x0 on
abbrev pub register_names : List (List ℕ)
register_names =
    codes "zero" ∷ codes "ra" ∷ codes "sp" ∷ codes "gp" ∷ codes "tp" ∷ codes "t0" ∷ codes "t1" ∷ codes "t2"
    ∷ codes "s0" ∷ codes "s1" ∷ codes "a0" ∷ codes "a1" ∷ codes "a2" ∷ codes "a3" ∷ codes "a4" ∷ codes "a5"
    ∷ codes "a6" ∷ codes "a7" ∷ codes "s2" ∷ codes "s3" ∷ codes "s4" ∷ codes "s5" ∷ codes "s6" ∷ codes "s7"
    ∷ codes "s8" ∷ codes "s9" ∷ codes "s10" ∷ codes "s11" ∷ codes "t3" ∷ codes "t4" ∷ codes "t5" ∷ codes "t6" ∷ []

-- a register's name
abbrev pub register_text : ℕ → List ℕ
register_text register = slice_index_or register_names register []

-- the names of the instructions
abbrev pub branch_name : Cond → List ℕ
branch_name Eq = codes "beq"
branch_name Ne = codes "bne"
branch_name Lt = codes "blt"
branch_name Ge = codes "bge"
branch_name Ltu = codes "bltu"
branch_name Geu = codes "bgeu"

-- b, h or w for 1, 2 or 4 bytes
abbrev pub size_letter : ℕ → List ℕ
size_letter bytes = if bytes == 1 then codes "b" else (if bytes == 2 then codes "h" else codes "w")

abbrev pub load_name : ℕ → Bool → List ℕ
load_name bytes true = codes "l" ++ size_letter bytes
load_name bytes false = codes "l" ++ size_letter bytes ++ codes "u"

abbrev pub store_name : ℕ → List ℕ
store_name bytes = codes "s" ++ size_letter bytes

abbrev pub register_op_name : AluOp → List ℕ
register_op_name Add = codes "add"
register_op_name Sub = codes "sub"
register_op_name Sll = codes "sll"
register_op_name Slt = codes "slt"
register_op_name Sltu = codes "sltu"
register_op_name Xor = codes "xor"
register_op_name Srl = codes "srl"
register_op_name Sra = codes "sra"
register_op_name Or = codes "or"
register_op_name And = codes "and"
register_op_name Mul = codes "mul"
register_op_name Mulh = codes "mulh"
register_op_name Mulhsu = codes "mulhsu"
register_op_name Mulhu = codes "mulhu"
register_op_name Div = codes "div"
register_op_name Divu = codes "divu"
register_op_name Rem = codes "rem"
register_op_name Remu = codes "remu"

-- an operation with an immediate; no other operation has that form
abbrev pub immediate_op_name : AluOp → List ℕ
immediate_op_name Add = codes "addi"
immediate_op_name Sll = codes "slli"
immediate_op_name Slt = codes "slti"
immediate_op_name Sltu = codes "sltiu"
immediate_op_name Xor = codes "xori"
immediate_op_name Srl = codes "srli"
immediate_op_name Sra = codes "srai"
immediate_op_name Or = codes "ori"
immediate_op_name And = codes "andi"
immediate_op_name _ = []

-- `lui rd, 0x12345`
abbrev pub upper_text : List ℕ → ℕ → ℕ → List ℕ
upper_text name rd imm = name ++ (codes " " ++ (register_text rd ++ (codes ", 0x" ++ hex_digits 5 (imm / 2 ^ 12))))

-- `lw rd, imm(rs1)`
abbrev pub access_text : List ℕ → ℕ → ℕ → ℕ → List ℕ
access_text name register offset base =
    name ++ (codes " " ++ (register_text register ++ (codes ", " ++ (signed_text offset ++ (codes "(" ++ (register_text base ++ codes ")"))))))

-- `beq rs1, rs2, 0x00010054`, `addi rd, rs1, imm`, `add rd, rs1, rs2`
abbrev pub operands_text : List ℕ → ℕ → ℕ → List ℕ → List ℕ
operands_text name first second third =
    name ++ (codes " " ++ (register_text first ++ (codes ", " ++ (register_text second ++ (codes ", " ++ third)))))

-- `jal rd, 0x00010054`
abbrev pub jump_text : List ℕ → ℕ → ℕ → List ℕ
jump_text name rd target = name ++ (codes " " ++ (register_text rd ++ (codes ", " ++ address_text target)))

-- the address that an instruction at pc jumps to
abbrev pub target_text : ℕ → ℕ → List ℕ
target_text pc offset = address_text ((pc + offset) % 2 ^ 32)

-- the text of an instruction at pc
unfoldable pub text_value : Instr → ℕ → List ℕ
text_value (Lui rd imm) pc = upper_text (codes "lui") rd imm
text_value (Auipc rd imm) pc = upper_text (codes "auipc") rd imm
text_value (Jal rd offset) pc = codes "jal " ++ (register_text rd ++ (codes ", " ++ target_text pc offset))
text_value (Jalr rd rs1 offset) pc = access_text (codes "jalr") rd offset rs1
text_value (Branch cond rs1 rs2 offset) pc = operands_text (branch_name cond) rs1 rs2 (target_text pc offset)
text_value (Load rd rs1 offset bytes signed) pc = access_text (load_name bytes signed) rd offset rs1
text_value (Store rs1 rs2 offset bytes) pc = access_text (store_name bytes) rs2 offset rs1
text_value (OpImm op rd rs1 imm) pc = operands_text (immediate_op_name op) rd rs1 (signed_text imm)
text_value (Op op rd rs1 rs2) pc = operands_text (register_op_name op) rd rs1 (register_text rs2)
text_value (Fence word) pc = codes "fence"
text_value Call pc = codes "ecall"
text_value Break pc = codes "ebreak"
