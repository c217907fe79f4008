-- Each instruction of a block is one that a word stands for.
use Rattle.std.proofs.Common.{◌≡◌, ℕ, ◌<◌, ◌^◌, ◌%◌, ◌/◌, Bool, true, false, All, arith, refl, sym, subst, inl, inr, lit<}
use Rattle.std.proofs.lemmas.List.Elements.{All-from_recursion}
use Rattle.ct_words.specs.declared.alu_op.AluOp.{AluOp}
use Rattle.ct_words.specs.declared.alu_op.AluOp.TheVariants.{Add, Xor, And, Sll, Mul}
use Rattle.rv_decode.specs.Fields.{opcode, funct3, funct7, rd, rs1, rs2, i_immediate, s_immediate}
use Rattle.rv_decode.specs.declared.instr.Instr.TheVariants.{Jalr, Load, Store, OpImm, Op}
use Rattle.rv_decode.specs.Instructions.{IsDecoded}
use Rattle.rv_decode.specs.Table.{IsLoad, IsStore, op_funct3, op_funct7}
use Rattle.rv_decode.specs.Encoding.{r_word}
use Rattle.rv_decode.proofs.Agreement.{given}
use Rattle.ct_gen.specs.declared.block.Block.{Block}
use Rattle.ct_gen.specs.declared.block.Block.TheVariants.{Mix, Keep, Scale, Follow}
use Rattle.ct_gen.specs.Blocks.{IsBlock}
use Rattle.ct_gen.specs.Code.{block_code, return_code}

-- the fields of a word of the format R
record HasFields (word o d f3 a b f7 : ℕ) : Type 0 where
  small : word < 2 ^ 32
  is_opcode : opcode word ≡ o
  is_rd : d ≡ rd word
  is_funct3 : funct3 word ≡ f3
  is_rs1 : a ≡ rs1 word
  is_rs2 : b ≡ rs2 word
  is_funct7 : funct7 word ≡ f7

r_fields : (o d f3 a b f7 : ℕ) → o < 128 → d < 32 → f3 < 8 → a < 32 → b < 32 → f7 < 128 → HasFields (r_word o d f3 a b f7) o d f3 a b f7
r_fields o d f3 a b f7 ho hd hf3 ha hb hf7 = record {
  small = omega arith;
  is_opcode = omega arith;
  is_rd = omega arith;
  is_funct3 = omega arith;
  is_rs1 = omega arith;
  is_rs2 = omega arith;
  is_funct7 = omega arith;
}

-- an immediate of 12 bits that isn't negative is the same as a word
i_positive : (word imm : ℕ) → imm < 2048 → rs2 word ≡ imm % 32 → funct7 word ≡ imm / 32 % 128 → imm ≡ i_immediate word
i_positive word imm small low high = grind arith

s_positive : (word imm : ℕ) → imm < 2048 → rd word ≡ imm % 32 → funct7 word ≡ imm / 32 % 128 → imm ≡ s_immediate word
s_positive word imm small low high = grind arith

load_decoded : (d a imm f3 bytes : ℕ) (is_signed : Bool) → d < 32 → a < 32 → imm < 2048 → f3 < 8 → IsLoad f3 bytes is_signed → IsDecoded (Load d a imm bytes is_signed)
load_decoded d a imm f3 bytes is_signed hd ha hi hf kind =
    let w = r_word 0x03 d f3 a (imm % 32) (imm / 32 % 128) in
    let h = r_fields 0x03 d f3 a (imm % 32) (imm / 32 % 128) (omega arith) hd hf ha (omega arith) (omega arith) in
    let P : ℕ → Type 0 = λ f. IsLoad f bytes is_signed in
    record {
      word = w;
      small = h.small;
      decoded = given w (Load d a imm bytes is_signed) (h.is_opcode, subst P (sym h.is_funct3) kind, h.is_rd, h.is_rs1, i_positive w imm hi (sym h.is_rs2) h.is_funct7);
    }

store_decoded : (a b imm f3 bytes : ℕ) → a < 32 → b < 32 → imm < 2048 → f3 < 8 → IsStore f3 bytes → IsDecoded (Store a b imm bytes)
store_decoded a b imm f3 bytes ha hb hi hf kind =
    let w = r_word 0x23 (imm % 32) f3 a b (imm / 32 % 128) in
    let h = r_fields 0x23 (imm % 32) f3 a b (imm / 32 % 128) (omega arith) (omega arith) hf ha hb (omega arith) in
    let P : ℕ → Type 0 = λ f. IsStore f bytes in
    record {
      word = w;
      small = h.small;
      decoded = given w (Store a b imm bytes) (h.is_opcode, subst P (sym h.is_funct3) kind, h.is_rs1, h.is_rs2, s_positive w imm hi (sym h.is_rd) h.is_funct7);
    }

jump_decoded : (d a imm : ℕ) → d < 32 → a < 32 → imm < 2048 → IsDecoded (Jalr d a imm)
jump_decoded d a imm hd ha hi =
    let w = r_word 0x67 d 0 a (imm % 32) (imm / 32 % 128) in
    let h = r_fields 0x67 d 0 a (imm % 32) (imm / 32 % 128) (omega arith) hd (omega arith) ha (omega arith) (omega arith) in
    record {
      word = w;
      small = h.small;
      decoded = given w (Jalr d a imm) (h.is_opcode, h.is_funct3, h.is_rd, h.is_rs1, i_positive w imm hi (sym h.is_rs2) h.is_funct7);
    }

add_decoded : (d a imm : ℕ) → d < 32 → a < 32 → imm < 2048 → IsDecoded (OpImm Add d a imm)
add_decoded d a imm hd ha hi =
    let w = r_word 0x13 d 0 a (imm % 32) (imm / 32 % 128) in
    let h = r_fields 0x13 d 0 a (imm % 32) (imm / 32 % 128) (omega arith) hd (omega arith) ha (omega arith) (omega arith) in
    record {
      word = w;
      small = h.small;
      decoded = given w (OpImm Add d a imm) (h.is_opcode, (h.is_funct3, i_positive w imm hi (sym h.is_rs2) h.is_funct7), h.is_rd, h.is_rs1);
    }

and_decoded : (d a imm : ℕ) → d < 32 → a < 32 → imm < 2048 → IsDecoded (OpImm And d a imm)
and_decoded d a imm hd ha hi =
    let w = r_word 0x13 d 7 a (imm % 32) (imm / 32 % 128) in
    let h = r_fields 0x13 d 7 a (imm % 32) (imm / 32 % 128) (omega arith) hd (omega arith) ha (omega arith) (omega arith) in
    record {
      word = w;
      small = h.small;
      decoded = given w (OpImm And d a imm) (h.is_opcode, (h.is_funct3, i_positive w imm hi (sym h.is_rs2) h.is_funct7), h.is_rd, h.is_rs1);
    }

shift_decoded : (d a amount : ℕ) → d < 32 → a < 32 → amount < 32 → IsDecoded (OpImm Sll d a amount)
shift_decoded d a amount hd ha hb =
    let w = r_word 0x13 d 1 a amount 0 in
    let h = r_fields 0x13 d 1 a amount 0 (omega arith) hd (omega arith) ha hb (omega arith) in
    record {
      word = w;
      small = h.small;
      decoded = given w (OpImm Sll d a amount) (h.is_opcode, (h.is_funct3, h.is_funct7, h.is_rs2), h.is_rd, h.is_rs1);
    }

op_decoded : (op : AluOp) (d a b : ℕ) → d < 32 → a < 32 → b < 32 → op_funct3 op < 8 → op_funct7 op < 128 → IsDecoded (Op op d a b)
op_decoded op d a b hd ha hb small3 small7 =
    let w = r_word 0x33 d (op_funct3 op) a b (op_funct7 op) in
    let h = r_fields 0x33 d (op_funct3 op) a b (op_funct7 op) (omega arith) hd small3 ha hb small7 in
    record {
      word = w;
      small = h.small;
      decoded = given w (Op op d a b) (h.is_opcode, h.is_funct7, h.is_funct3, h.is_rd, h.is_rs1, h.is_rs2);
    }

lbu : (d a imm : ℕ) → d < 32 → a < 32 → imm < 2048 → IsDecoded (Load d a imm 1 false)
lbu d a imm hd ha hi = load_decoded d a imm 4 1 false hd ha hi (omega arith) (inr (inr (inr (inl (refl, refl, refl)))))

lw : (d a imm : ℕ) → d < 32 → a < 32 → imm < 2048 → IsDecoded (Load d a imm 4 true)
lw d a imm hd ha hi = load_decoded d a imm 2 4 true hd ha hi (omega arith) (inr (inr (inl (refl, refl, refl))))

sw : (a b imm : ℕ) → a < 32 → b < 32 → imm < 2048 → IsDecoded (Store a b imm 4)
sw a b imm ha hb hi = store_decoded a b imm 2 4 ha hb hi (omega arith) (inr (inr (refl, refl)))

pub block_decoded : (block : Block) → IsBlock block → All IsDecoded (block_code block)
unfolding block_code
block_decoded (Mix offset) h =
    All-from_recursion IsDecoded (block_code (Mix offset)) (
      lbu 5 8 offset (lit< tt) (lit< tt) (omega arith),
      (op_decoded Xor 9 9 5 (lit< tt) (lit< tt) (lit< tt) (lit< tt) (lit< tt), (add_decoded 9 9 offset (lit< tt) (lit< tt) (omega arith), tt)),
    )
block_decoded (Keep offset) h =
    All-from_recursion IsDecoded (block_code (Keep offset)) (
      sw 18 9 offset (lit< tt) (lit< tt) (omega arith),
      (lw 6 18 offset (lit< tt) (lit< tt) (omega arith), (op_decoded Add 9 9 6 (lit< tt) (lit< tt) (lit< tt) (lit< tt) (lit< tt), tt)),
    )
block_decoded (Scale amount) h =
    All-from_recursion IsDecoded (block_code (Scale amount))
    (shift_decoded 7 9 amount (lit< tt) (lit< tt) h, (op_decoded Mul 9 9 7 (lit< tt) (lit< tt) (lit< tt) (lit< tt) (lit< tt), tt))
block_decoded (Follow offset) h =
    All-from_recursion IsDecoded (block_code (Follow offset)) (
      lbu 5 8 offset (lit< tt) (lit< tt) (omega arith),
      (
        and_decoded 5 5 3 (lit< tt) (lit< tt) (lit< tt),
        (op_decoded Add 5 5 18 (lit< tt) (lit< tt) (lit< tt) (lit< tt) (lit< tt), (lbu 6 5 0 (lit< tt) (lit< tt) (lit< tt), tt)),
      ),
    )

pub return_decoded : All IsDecoded return_code
return_decoded = All-from_recursion IsDecoded return_code (jump_decoded 0 1 0 (lit< tt) (lit< tt) (lit< tt), tt)
