-- The word of an instruction is the word that stands for it.
use Rattle.std.proofs.Common.{◌≡◌, ℕ, ◌*◌, ◌+◌, ◌<◌, ◌^◌, Bool, arith, sym, ap, ◌∙◌, inl, inr, subst}
use Rattle.rv_decode.specs.Fields.{bits, opcode, funct3, funct7, rd, rs1, rs2, i_immediate, s_immediate, b_immediate, u_immediate, j_immediate}
use Rattle.std.specs.Prelude.{Option, Some, IfSome}
use Rattle.ct_words.specs.declared.alu_op.AluOp.{AluOp}
use Rattle.ct_words.specs.declared.alu_op.AluOp.TheVariants.{Add, Sll, Slt, Sltu, Xor, Srl, Sra, Or, And}
use Rattle.rv_decode.specs.declared.instr.Instr.{Instr}
use Rattle.rv_decode.specs.declared.instr.Instr.TheVariants.{Lui, Auipc, Jal, Jalr, Branch, Load, Store, OpImm, Op, Fence, Call, Break}
use Rattle.rv_decode.specs.Instructions.{instruction_of, InRange, IsDecoded}
use Rattle.rv_decode.specs.Table.{StandsFor, IsLoad, IsStore, IsOpImm, branch_funct3, op_funct3, op_funct7}
use Rattle.rv_decode.specs.Encoding.{r_word, i_word, s_word, b_word, u_word, j_word, load_funct3, store_funct3, op_imm_word, word_of}
use Rattle.rv_decode.proofs.Agreement.{only}
use Rattle.rv_decode.proofs.Ranges.{instruction_in_range}

-- a word is made of its fields
whole : (word : ℕ) → word < 2 ^ 32 → r_word (opcode word) (rd word) (funct3 word) (rs1 word) (rs2 word) (funct7 word) ≡ word
whole word small = omega arith

i_low : (word : ℕ) → bits (i_immediate word) 4 0 ≡ rs2 word
i_low word = grind arith

i_high : (word : ℕ) → bits (i_immediate word) 11 5 ≡ funct7 word
i_high word = grind arith

s_low : (word : ℕ) → bits (s_immediate word) 4 0 ≡ rd word
s_low word = grind arith

s_high : (word : ℕ) → bits (s_immediate word) 11 5 ≡ funct7 word
s_high word = grind arith

b_low : (word : ℕ) → bits (b_immediate word) 4 1 * 2 + bits (b_immediate word) 11 11 ≡ rd word
b_low word = grind arith

b_high : (word : ℕ) → bits (b_immediate word) 12 12 * 2 ^ 6 + bits (b_immediate word) 10 5 ≡ funct7 word
b_high word = grind arith

u_funct3 : (word : ℕ) → bits (u_immediate word) 14 12 ≡ funct3 word
u_funct3 word = omega arith

u_rs1 : (word : ℕ) → bits (u_immediate word) 19 15 ≡ rs1 word
u_rs1 word = omega arith

u_rs2 : (word : ℕ) → bits (u_immediate word) 24 20 ≡ rs2 word
u_rs2 word = omega arith

u_funct7 : (word : ℕ) → bits (u_immediate word) 31 25 ≡ funct7 word
u_funct7 word = omega arith

j_funct3 : (word : ℕ) → bits (j_immediate word) 14 12 ≡ funct3 word
j_funct3 word = grind arith

j_rs1 : (word : ℕ) → bits (j_immediate word) 19 15 ≡ rs1 word
j_rs1 word = grind arith

j_rs2 : (word : ℕ) → bits (j_immediate word) 4 1 * 2 + bits (j_immediate word) 11 11 ≡ rs2 word
j_rs2 word = grind arith

j_funct7 : (word : ℕ) → bits (j_immediate word) 20 20 * 2 ^ 6 + bits (j_immediate word) 10 5 ≡ funct7 word
j_funct7 word = grind arith

-- fields that are a word's give the word
r_is : (word o d f3 a b f7 : ℕ) → word < 2 ^ 32 → opcode word ≡ o → d ≡ rd word → funct3 word ≡ f3 → a ≡ rs1 word → b ≡ rs2 word → funct7 word ≡ f7
    → r_word o d f3 a b f7 ≡ word
r_is word o d f3 a b f7 small ho hd hf3 ha hb hf7 = rw (← ho, hd, ← hf3, ha, hb, ← hf7) (whole word small)

i_is : (word o d f3 a imm : ℕ) → word < 2 ^ 32 → opcode word ≡ o → d ≡ rd word → funct3 word ≡ f3 → a ≡ rs1 word → imm ≡ i_immediate word
    → i_word o d f3 a imm ≡ word
i_is word o d f3 a imm small ho hd hf3 ha hi = rw hi
    (r_is word o d f3 a (bits (i_immediate word) 4 0) (bits (i_immediate word) 11 5) small ho hd hf3 ha (i_low word) (sym (i_high word)))

s_is : (word o f3 a b imm : ℕ) → word < 2 ^ 32 → opcode word ≡ o → funct3 word ≡ f3 → a ≡ rs1 word → b ≡ rs2 word → imm ≡ s_immediate word
    → s_word o f3 a b imm ≡ word
s_is word o f3 a b imm small ho hf3 ha hb hi = rw hi
    (r_is word o (bits (s_immediate word) 4 0) f3 a b (bits (s_immediate word) 11 5) small ho (s_low word) hf3 ha hb (sym (s_high word)))

b_is : (word o f3 a b imm : ℕ) → word < 2 ^ 32 → opcode word ≡ o → funct3 word ≡ f3 → a ≡ rs1 word → b ≡ rs2 word → imm ≡ b_immediate word
    → b_word o f3 a b imm ≡ word
b_is word o f3 a b imm small ho hf3 ha hb hi = rw hi
    (r_is word o (bits (b_immediate word) 4 1 * 2 + bits (b_immediate word) 11 11) f3 a b
    (bits (b_immediate word) 12 12 * 2 ^ 6 + bits (b_immediate word) 10 5) small ho (b_low word) hf3 ha hb (sym (b_high word)))

u_is : (word o d imm : ℕ) → word < 2 ^ 32 → opcode word ≡ o → d ≡ rd word → imm ≡ u_immediate word → u_word o d imm ≡ word
u_is word o d imm small ho hd hi = rw hi
    (r_is word o d (bits (u_immediate word) 14 12) (bits (u_immediate word) 19 15) (bits (u_immediate word) 24 20)
    (bits (u_immediate word) 31 25) small ho hd (sym (u_funct3 word)) (u_rs1 word) (u_rs2 word) (sym (u_funct7 word)))

j_is : (word o d imm : ℕ) → word < 2 ^ 32 → opcode word ≡ o → d ≡ rd word → imm ≡ j_immediate word → j_word o d imm ≡ word
j_is word o d imm small ho hd hi = rw hi
    (r_is word o d (bits (j_immediate word) 14 12) (bits (j_immediate word) 19 15)
    (bits (j_immediate word) 4 1 * 2 + bits (j_immediate word) 11 11)
    (bits (j_immediate word) 20 20 * 2 ^ 6 + bits (j_immediate word) 10 5) small ho hd (sym (j_funct3 word)) (j_rs1 word) (j_rs2 word) (sym (j_funct7 word)))

load_is : (f3 bytes : ℕ) (is_signed : Bool) → IsLoad f3 bytes is_signed → f3 ≡ load_funct3 bytes is_signed
load_is f3 bytes is_signed (inl k) = rw (k.0, k.1, k.2)
load_is f3 bytes is_signed (inr (inl k)) = rw (k.0, k.1, k.2)
load_is f3 bytes is_signed (inr (inr (inl k))) = rw (k.0, k.1, k.2)
load_is f3 bytes is_signed (inr (inr (inr (inl k)))) = rw (k.0, k.1, k.2)
load_is f3 bytes is_signed (inr (inr (inr (inr k)))) = rw (k.0, k.1, k.2)

store_is : (f3 bytes : ℕ) → IsStore f3 bytes → f3 ≡ store_funct3 bytes
store_is f3 bytes (inl k) = rw (k.0, k.1)
store_is f3 bytes (inr (inl k)) = rw (k.0, k.1)
store_is f3 bytes (inr (inr k)) = rw (k.0, k.1)

amount_is : (word imm : ℕ) → imm ≡ rs2 word → bits imm 4 0 ≡ rs2 word
amount_is word imm k = omega arith

op_imm_is : (word : ℕ) (op : AluOp) (d a imm : ℕ) → word < 2 ^ 32 → opcode word ≡ 0x13 → IsOpImm word op imm → d ≡ rd word → a ≡ rs1 word
    → op_imm_word op d a imm ≡ word
op_imm_is word Add d a imm small o k hd ha = i_is word 0x13 d 0 a imm small o hd k.0 ha k.1
op_imm_is word Slt d a imm small o k hd ha = i_is word 0x13 d 2 a imm small o hd k.0 ha k.1
op_imm_is word Sltu d a imm small o k hd ha = i_is word 0x13 d 3 a imm small o hd k.0 ha k.1
op_imm_is word Xor d a imm small o k hd ha = i_is word 0x13 d 4 a imm small o hd k.0 ha k.1
op_imm_is word Or d a imm small o k hd ha = i_is word 0x13 d 6 a imm small o hd k.0 ha k.1
op_imm_is word And d a imm small o k hd ha = i_is word 0x13 d 7 a imm small o hd k.0 ha k.1
op_imm_is word Sll d a imm small o k hd ha = r_is word 0x13 d 1 a (bits imm 4 0) 0 small o hd k.0 ha (amount_is word imm k.2) k.1
op_imm_is word Srl d a imm small o k hd ha = r_is word 0x13 d 5 a (bits imm 4 0) 0 small o hd k.0 ha (amount_is word imm k.2) k.1
op_imm_is word Sra d a imm small o k hd ha = r_is word 0x13 d 5 a (bits imm 4 0) 0x20 small o hd k.0 ha (amount_is word imm k.2) k.1
op_imm_is word _ d a imm small o k hd ha = absurd k

row_word : (word : ℕ) (instr : Instr) → word < 2 ^ 32 → StandsFor word instr → word_of instr ≡ word
unfolding word_of
row_word word (Lui d imm) small k = u_is word 0x37 d imm small k.0 k.1 k.2
row_word word (Auipc d imm) small k = u_is word 0x17 d imm small k.0 k.1 k.2
row_word word (Jal d offset) small k = j_is word 0x6f d offset small k.0 k.1 k.2
row_word word (Jalr d a offset) small k = i_is word 0x67 d 0 a offset small k.0 k.2 k.1 k.3 k.4
row_word word (Branch cond a b offset) small k = b_is word 0x63 (branch_funct3 cond) a b offset small k.0 k.1 k.2 k.3 k.4
row_word word (Load d a offset bytes is_signed) small k =
    i_is word 0x03 d (load_funct3 bytes is_signed) a offset small k.0 k.2 (load_is (funct3 word) bytes is_signed k.1) k.3 k.4
row_word word (Store a b offset bytes) small k =
    s_is word 0x23 (store_funct3 bytes) a b offset small k.0 (store_is (funct3 word) bytes k.1) k.2 k.3 k.4
row_word word (OpImm op d a imm) small k = op_imm_is word op d a imm small k.0 k.1 k.2 k.3
row_word word (Op op d a b) small k = r_is word 0x33 d (op_funct3 op) a b (op_funct7 op) small k.0 k.3 k.2 k.4 k.5 k.1
row_word word (Fence whole_word) small k = k.2
row_word word Call small k = sym k
row_word word Break small k = sym k

-- the word of the instruction that a word stands for is that word
pub word_of_is : (word : ℕ) (instr : Instr) → word < 2 ^ 32 → instruction_of word ≡ Some instr → word_of instr ≡ word
word_of_is word instr small e = row_word word instr small (only word instr e)

pub word_of_decodes : (instr : Instr) → IsDecoded instr → instruction_of (word_of instr) ≡ Some instr
word_of_decodes instr d = ap instruction_of (word_of_is d.word instr d.small d.decoded) ∙ d.decoded

pub decoded_in_range : (instr : Instr) → IsDecoded instr → InRange instr
decoded_in_range instr d =
    let P : Option Instr → Type 0 = λ o. IfSome o InRange in subst P d.decoded (instruction_in_range d.word d.small)
