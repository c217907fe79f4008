-- The function that reads a word gives an instruction exactly where the table has the row.
use Rattle.std.proofs.Common.{◌≡◌, ℕ, Bool, true, false, arith, refl, inl, inr, subst}
use Rattle.std.specs.Prelude.{IfSome, Option, Some, None, if◌then◌else◌, ◌==◌}
use Rattle.std.specs.Option.{option_map}
use Rattle.ct_words.specs.declared.alu_op.AluOp.{AluOp}
use Rattle.ct_words.specs.declared.alu_op.AluOp.TheVariants.{Add, Sub, Sll, Slt, Sltu, Xor, Srl, Sra, Or, And, Mul, Mulh, Mulhsu, Mulhu, Div, Divu, Rem, Remu}
use Rattle.ct_words.specs.declared.cond.Cond.{Cond}
use Rattle.ct_words.specs.declared.cond.Cond.TheVariants.{Eq, Ne, Lt, Ge, Ltu, Geu}
use Rattle.rv_decode.specs.declared.instr.Instr.{Instr}
use Rattle.rv_decode.specs.declared.instr.Instr.TheVariants.{Lui, Auipc, Jal, Jalr, Branch, Load, Store, OpImm, Op, Fence, Call, Break}
use Rattle.rv_decode.specs.Fields.{opcode, funct3, funct7, rd, rs1, rs2, i_immediate, s_immediate, b_immediate, u_immediate, j_immediate}
use Rattle.std.proofs.lemmas.Bool.{eqb-true}
use Rattle.rv_decode.specs.Instructions.{instruction_of, branch_cond, load_kind, store_size, immediate_op, shift_op, base_op, other_op, multiply_op, register_op, jalr_of, branch_of, load_of, store_of, shift_of, immediate_of, register_of, fence_of, system_of}
use Rattle.rv_decode.specs.Table.{StandsFor, IsLoad, IsStore, IsOpImm, branch_funct3, op_funct7, op_funct3}

branch_given : (word : ℕ) (cond : Cond) → opcode word ≡ 0x63 → funct3 word ≡ branch_funct3 cond
    → instruction_of word ≡ Some (Branch cond (rs1 word) (rs2 word) (b_immediate word))
unfolding instruction_of
branch_given word Eq o f = rw (o, f)
branch_given word Ne o f = rw (o, f)
branch_given word Lt o f = rw (o, f)
branch_given word Ge o f = rw (o, f)
branch_given word Ltu o f = rw (o, f)
branch_given word Geu o f = rw (o, f)

load_given : (word bytes : ℕ) (is_signed : Bool) → opcode word ≡ 0x03 → IsLoad (funct3 word) bytes is_signed
    → instruction_of word ≡ Some (Load (rd word) (rs1 word) (i_immediate word) bytes is_signed)
unfolding instruction_of
load_given word bytes is_signed o (inl k) = rw (o, k.0, k.1, k.2)
load_given word bytes is_signed o (inr (inl k)) = rw (o, k.0, k.1, k.2)
load_given word bytes is_signed o (inr (inr (inl k))) = rw (o, k.0, k.1, k.2)
load_given word bytes is_signed o (inr (inr (inr (inl k)))) = rw (o, k.0, k.1, k.2)
load_given word bytes is_signed o (inr (inr (inr (inr k)))) = rw (o, k.0, k.1, k.2)

store_given : (word bytes : ℕ) → opcode word ≡ 0x23 → IsStore (funct3 word) bytes
    → instruction_of word ≡ Some (Store (rs1 word) (rs2 word) (s_immediate word) bytes)
unfolding instruction_of
store_given word bytes o (inl k) = rw (o, k.0, k.1)
store_given word bytes o (inr (inl k)) = rw (o, k.0, k.1)
store_given word bytes o (inr (inr k)) = rw (o, k.0, k.1)

immediate_given : (word : ℕ) (op : AluOp) (imm : ℕ) → opcode word ≡ 0x13 → IsOpImm word op imm
    → instruction_of word ≡ Some (OpImm op (rd word) (rs1 word) imm)
unfolding instruction_of
immediate_given word Add imm o k = rw (o, k.0, k.1)
immediate_given word Slt imm o k = rw (o, k.0, k.1)
immediate_given word Sltu imm o k = rw (o, k.0, k.1)
immediate_given word Xor imm o k = rw (o, k.0, k.1)
immediate_given word Or imm o k = rw (o, k.0, k.1)
immediate_given word And imm o k = rw (o, k.0, k.1)
immediate_given word Sll imm o k = rw (o, k.0, k.1, k.2)
immediate_given word Srl imm o k = rw (o, k.0, k.1, k.2)
immediate_given word Sra imm o k = rw (o, k.0, k.1, k.2)
immediate_given word _ imm o k = absurd k

register_given : (word : ℕ) (op : AluOp) → opcode word ≡ 0x33 → funct7 word ≡ op_funct7 op → funct3 word ≡ op_funct3 op
    → instruction_of word ≡ Some (Op op (rd word) (rs1 word) (rs2 word))
unfolding instruction_of
register_given word Add o f7 f3 = rw (o, f7, f3)
register_given word Sub o f7 f3 = rw (o, f7, f3)
register_given word Sll o f7 f3 = rw (o, f7, f3)
register_given word Slt o f7 f3 = rw (o, f7, f3)
register_given word Sltu o f7 f3 = rw (o, f7, f3)
register_given word Xor o f7 f3 = rw (o, f7, f3)
register_given word Srl o f7 f3 = rw (o, f7, f3)
register_given word Sra o f7 f3 = rw (o, f7, f3)
register_given word Or o f7 f3 = rw (o, f7, f3)
register_given word And o f7 f3 = rw (o, f7, f3)
register_given word Mul o f7 f3 = rw (o, f7, f3)
register_given word Mulh o f7 f3 = rw (o, f7, f3)
register_given word Mulhsu o f7 f3 = rw (o, f7, f3)
register_given word Mulhu o f7 f3 = rw (o, f7, f3)
register_given word Div o f7 f3 = rw (o, f7, f3)
register_given word Divu o f7 f3 = rw (o, f7, f3)
register_given word Rem o f7 f3 = rw (o, f7, f3)
register_given word Remu o f7 f3 = rw (o, f7, f3)

-- where the table has the row, the function gives the instruction
pub given : (word : ℕ) (instr : Instr) → StandsFor word instr → instruction_of word ≡ Some instr
unfolding instruction_of
given word (Lui d imm) k = rw (k.0, k.1, k.2)
given word (Auipc d imm) k = rw (k.0, k.1, k.2)
given word (Jal d offset) k = rw (k.0, k.1, k.2)
given word (Jalr d a offset) k = rw (k.0, k.1, k.2, k.3, k.4)
given word (Branch cond a b offset) k = rw (k.2, k.3, k.4) (branch_given word cond k.0 k.1)
given word (Load d a offset bytes is_signed) k = rw (k.2, k.3, k.4) (load_given word bytes is_signed k.0 k.1)
given word (Store a b offset bytes) k = rw (k.2, k.3, k.4) (store_given word bytes k.0 k.1)
given word (OpImm op d a imm) k = rw (k.2, k.3) (immediate_given word op imm k.0 k.1)
given word (Op op d a b) k = rw (k.3, k.4, k.5) (register_given word op k.0 k.1 k.2)
given word (Fence whole) k = rw (k.0, k.1, k.2)
given word Call k = rw k
given word Break k = rw k

-- an instruction, if there is one, has its row
record Listed (word : ℕ) (o : Option Instr) : Type 0 where
  listed : IfSome o (StandsFor word)

none : {word : ℕ} → Listed word None
none = record { listed = tt }

tested : (word a b : ℕ) (x y : Option Instr) → (a ≡ b → Listed word x) → Listed word y → Listed word (if a == b then x else y)
tested word a b x y hx hy = by_test (a == b) refl
  where
    by_test : (t : Bool) → (a == b) ≡ t → Listed word (if t then x else y)
    by_test true e = hx (eqb-true a b e)
    by_test false e = hy

mapped : {A : Type 0} (word : ℕ) (f : A → Instr) (o : Option A) (Q : A → Type 0)
    → IfSome o Q → ((a : A) → Q a → StandsFor word (f a)) → Listed word (option_map f o)
mapped word f None Q q h = none
mapped word f (Some a) Q q h = record { listed = h a q }

branch_row : (f : ℕ) → IfSome (branch_cond f) (λ cond. f ≡ branch_funct3 cond)
branch_row f = grind arith

load_row : (f : ℕ) → IfSome (load_kind f) (λ kind. IsLoad f kind.0 kind.1)
load_row f = grind arith

store_row : (f : ℕ) → IfSome (store_size f) (λ bytes. IsStore f bytes)
store_row f = grind arith

base_row : (f7 f3 : ℕ) → f7 ≡ 0 → IfSome (base_op f3) (λ op. (f7 ≡ op_funct7 op) × (f3 ≡ op_funct3 op))
base_row f7 f3 h = grind arith

other_row : (f7 f3 : ℕ) → f7 ≡ 0x20 → IfSome (other_op f3) (λ op. (f7 ≡ op_funct7 op) × (f3 ≡ op_funct3 op))
other_row f7 f3 h = grind arith

multiply_row : (f7 f3 : ℕ) → f7 ≡ 1 → IfSome (multiply_op f3) (λ op. (f7 ≡ op_funct7 op) × (f3 ≡ op_funct3 op))
multiply_row f7 f3 h = grind arith

if_equal : {A : Type 0} (Q : A → Type 0) (a b : ℕ) (x y : Option A) → (a ≡ b → IfSome x Q) → IfSome y Q → IfSome (if a == b then x else y) Q
if_equal Q a b x y hx hy = by_test (a == b) refl
  where
    by_test : (t : Bool) → (a == b) ≡ t → IfSome (if t then x else y) Q
    by_test true e = hx (eqb-true a b e)
    by_test false e = hy

register_row : (f7 f3 : ℕ) → IfSome (register_op f7 f3) (λ op. (f7 ≡ op_funct7 op) × (f3 ≡ op_funct3 op))
register_row f7 f3 =
    let Q : AluOp → Type 0 = λ op. (f7 ≡ op_funct7 op) × (f3 ≡ op_funct3 op) in
    if_equal Q f7 0 (base_op f3) _ (base_row f7 f3)
    (if_equal Q f7 0x20 (other_op f3) _ (other_row f7 f3)
    (if_equal Q f7 1 (multiply_op f3) None (multiply_row f7 f3) tt))

-- the rows of operations with an immediate
immediate_row : (word : ℕ) → IfSome (immediate_op (funct3 word)) (λ op. IsOpImm word op (i_immediate word))
immediate_row word = grind arith

shift_row : (word : ℕ) → IfSome (shift_op (funct7 word) (funct3 word)) (λ op. IsOpImm word op (rs2 word))
shift_row word = grind arith

jalr_listed : (word : ℕ) → opcode word ≡ 0x67 → Listed word (jalr_of word)
jalr_listed word o = tested word (funct3 word) 0 (Some (Jalr (rd word) (rs1 word) (i_immediate word))) None
    (λ f. record { listed = (o, f, refl, refl, refl) }) none

branch_listed : (word : ℕ) → opcode word ≡ 0x63 → Listed word (branch_of word)
branch_listed word o = mapped word (λ cond. Branch cond (rs1 word) (rs2 word) (b_immediate word)) (branch_cond (funct3 word))
    (λ cond. funct3 word ≡ branch_funct3 cond) (branch_row (funct3 word)) (λ cond f. (o, f, refl, refl, refl))

load_listed : (word : ℕ) → opcode word ≡ 0x03 → Listed word (load_of word)
load_listed word o = mapped word (λ kind. Load (rd word) (rs1 word) (i_immediate word) kind.0 kind.1) (load_kind (funct3 word))
    (λ kind. IsLoad (funct3 word) kind.0 kind.1) (load_row (funct3 word)) (λ kind f. (o, f, refl, refl, refl))

store_listed : (word : ℕ) → opcode word ≡ 0x23 → Listed word (store_of word)
store_listed word o = mapped word (λ bytes. Store (rs1 word) (rs2 word) (s_immediate word) bytes) (store_size (funct3 word))
    (λ bytes. IsStore (funct3 word) bytes) (store_row (funct3 word)) (λ bytes f. (o, f, refl, refl, refl))

shift_listed : (word : ℕ) → opcode word ≡ 0x13 → Listed word (shift_of word)
shift_listed word o = mapped word (λ op. OpImm op (rd word) (rs1 word) (rs2 word)) (shift_op (funct7 word) (funct3 word))
    (λ op. IsOpImm word op (rs2 word)) (shift_row word) (λ op f. (o, f, refl, refl))

immediate_listed : (word : ℕ) → opcode word ≡ 0x13 → Listed word (immediate_of word)
immediate_listed word o =
    tested word (funct3 word) 1 (shift_of word) _ (λ f. shift_listed word o)
    (tested word (funct3 word) 5 (shift_of word) _ (λ f. shift_listed word o)
    (mapped word (λ op. OpImm op (rd word) (rs1 word) (i_immediate word)) (immediate_op (funct3 word))
    (λ op. IsOpImm word op (i_immediate word)) (immediate_row word) (λ op f. (o, f, refl, refl))))

register_listed : (word : ℕ) → opcode word ≡ 0x33 → Listed word (register_of word)
register_listed word o = mapped word (λ op. Op op (rd word) (rs1 word) (rs2 word)) (register_op (funct7 word) (funct3 word))
    (λ op. (funct7 word ≡ op_funct7 op) × (funct3 word ≡ op_funct3 op)) (register_row (funct7 word) (funct3 word))
    (λ op f. (o, f.0, f.1, refl, refl, refl))

fence_listed : (word : ℕ) → opcode word ≡ 0x0f → Listed word (fence_of word)
fence_listed word o = tested word (funct3 word) 0 (Some (Fence word)) None (λ f. record { listed = (o, f, refl) }) none

system_listed : (word : ℕ) → Listed word (system_of word)
system_listed word =
    tested word word 0x00000073 (Some Call) _ (λ w. record { listed = w })
    (tested word word 0x00100073 (Some Break) None (λ w. record { listed = w }) none)

instruction_listed : (word : ℕ) → Listed word (instruction_of word)
unfolding instruction_of
instruction_listed word =
    tested word (opcode word) 0x37 (Some (Lui (rd word) (u_immediate word))) _ (λ o. record { listed = (o, refl, refl) })
    (tested word (opcode word) 0x17 (Some (Auipc (rd word) (u_immediate word))) _ (λ o. record { listed = (o, refl, refl) })
    (tested word (opcode word) 0x6f (Some (Jal (rd word) (j_immediate word))) _ (λ o. record { listed = (o, refl, refl) })
    (tested word (opcode word) 0x67 (jalr_of word) _ (jalr_listed word)
    (tested word (opcode word) 0x63 (branch_of word) _ (branch_listed word)
    (tested word (opcode word) 0x03 (load_of word) _ (load_listed word)
    (tested word (opcode word) 0x23 (store_of word) _ (store_listed word)
    (tested word (opcode word) 0x13 (immediate_of word) _ (immediate_listed word)
    (tested word (opcode word) 0x33 (register_of word) _ (register_listed word)
    (tested word (opcode word) 0x0f (fence_of word) _ (fence_listed word)
    (tested word (opcode word) 0x73 (system_of word) None (λ o. system_listed word) none))))))))))

listed_some : (word : ℕ) (o : Option Instr) (instr : Instr) → Listed word o → o ≡ Some instr → StandsFor word instr
listed_some word o instr h e = let P : Option Instr → Type 0 = λ p. IfSome p (StandsFor word) in subst P e h.listed

-- where the function gives an instruction, the table has its row
pub only : (word : ℕ) (instr : Instr) → instruction_of word ≡ Some instr → StandsFor word instr
only word instr e = listed_some word (instruction_of word) instr (instruction_listed word) e

-- no word has two rows
pub one : (word : ℕ) (i j : Instr) → StandsFor word i → StandsFor word j → i ≡ j
one word i j hi hj = let p = given word i hi in let q = given word j hj in cc
