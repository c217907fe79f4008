-- An instruction that a word stands for has its parts in their ranges.
use Rattle.std.proofs.Common.{ℕ, ◌<◌, ◌^◌, Bool, true, false, arith}
use Rattle.std.specs.Prelude.{IfSome, Option, Some, None, if◌then◌else◌, ◌==◌}
use Rattle.std.specs.Option.{option_map}
use Rattle.rv_decode.specs.declared.instr.Instr.{Instr}
use Rattle.rv_decode.specs.declared.instr.Instr.TheVariants.{Lui, Auipc, Jal, Branch, OpImm, Op, Fence, Call, Break}
use Rattle.rv_decode.specs.Fields.{opcode, funct3, rd, rs1, rs2, i_immediate, s_immediate, b_immediate, u_immediate, j_immediate}
use Rattle.rv_decode.specs.Instructions.{instruction_of, InRange, immediate_op, jalr_of, branch_of, load_of, store_of, immediate_of, shift_of, register_of, fence_of, system_of}

-- an instruction, if there is one, is in range
record Ranged (o : Option Instr) : Type 0 where
  ranged : IfSome o InRange

either : (test : Bool) (x y : Option Instr) → Ranged x → Ranged y → Ranged (if test then x else y)
either true x y hx hy = hx
either false x y hx hy = hy

none : Ranged None
none = record { ranged = tt }

some : (i : Instr) → InRange i → Ranged (Some i)
some i h = record { ranged = h }

mapped : {A : Type 0} (f : A → Instr) (o : Option A) → ((a : A) → InRange (f a)) → Ranged (option_map f o)
mapped f None h = none
mapped f (Some a) h = some (f a) (h a)

i_lt : (word : ℕ) → i_immediate word < 2 ^ 32
i_lt word = grind arith

s_lt : (word : ℕ) → s_immediate word < 2 ^ 32
s_lt word = grind arith

b_lt : (word : ℕ) → b_immediate word < 2 ^ 32
b_lt word = grind arith

u_lt : (word : ℕ) → u_immediate word < 2 ^ 32
u_lt word = omega arith

j_lt : (word : ℕ) → j_immediate word < 2 ^ 32
j_lt word = grind arith

rd_lt : (word : ℕ) → rd word < 32
rd_lt word = omega arith

rs1_lt : (word : ℕ) → rs1 word < 32
rs1_lt word = omega arith

rs2_lt : (word : ℕ) → rs2 word < 32
rs2_lt word = omega arith

jalr_ranged : (word : ℕ) → Ranged (jalr_of word)
jalr_ranged word = either _ _ _ (some _ (rd_lt word, rs1_lt word, i_lt word)) none

branch_ranged : (word : ℕ) → Ranged (branch_of word)
branch_ranged word = mapped (λ cond. Branch cond (rs1 word) (rs2 word) (b_immediate word)) _ (λ cond. (rs1_lt word, rs2_lt word, b_lt word))

load_ranged : (word : ℕ) → Ranged (load_of word)
load_ranged word = record { ranged = grind (arith, rd_lt word, rs1_lt word, i_lt word) }

store_ranged : (word : ℕ) → Ranged (store_of word)
store_ranged word = record { ranged = grind (arith, rs1_lt word, rs2_lt word, s_lt word) }

shift_ranged : (word : ℕ) → Ranged (shift_of word)
shift_ranged word = mapped (λ op. OpImm op (rd word) (rs1 word) (rs2 word)) _ (λ op. (rd_lt word, rs1_lt word, omega arith))

immediate_ranged : (word : ℕ) → Ranged (immediate_of word)
immediate_ranged word =
    either (funct3 word == 1) _ _ (shift_ranged word)
    (either (funct3 word == 5) _ _ (shift_ranged word)
    (mapped (λ op. OpImm op (rd word) (rs1 word) (i_immediate word)) (immediate_op (funct3 word)) (λ op. (rd_lt word, rs1_lt word, i_lt word))))

register_ranged : (word : ℕ) → Ranged (register_of word)
register_ranged word = mapped (λ op. Op op (rd word) (rs1 word) (rs2 word)) _ (λ op. (rd_lt word, rs1_lt word, rs2_lt word))

fence_ranged : (word : ℕ) → word < 2 ^ 32 → Ranged (fence_of word)
fence_ranged word small = either _ _ _ (some (Fence word) small) none

system_ranged : (word : ℕ) → Ranged (system_of word)
system_ranged word = either _ _ _ (some Call tt) (either _ _ _ (some Break tt) none)

instruction_ranged : (word : ℕ) → word < 2 ^ 32 → Ranged (instruction_of word)
unfolding instruction_of
instruction_ranged word small =
    either (opcode word == 0x37) _ _ (some (Lui (rd word) (u_immediate word)) (rd_lt word, u_lt word))
    (either (opcode word == 0x17) _ _ (some (Auipc (rd word) (u_immediate word)) (rd_lt word, u_lt word))
    (either (opcode word == 0x6f) _ _ (some (Jal (rd word) (j_immediate word)) (rd_lt word, j_lt word))
    (either (opcode word == 0x67) _ _ (jalr_ranged word)
    (either (opcode word == 0x63) _ _ (branch_ranged word)
    (either (opcode word == 0x03) _ _ (load_ranged word)
    (either (opcode word == 0x23) _ _ (store_ranged word)
    (either (opcode word == 0x13) _ _ (immediate_ranged word)
    (either (opcode word == 0x33) _ _ (register_ranged word)
    (either (opcode word == 0x0f) _ _ (fence_ranged word small)
    (either (opcode word == 0x73) _ _ (system_ranged word) none))))))))))

pub instruction_in_range : (word : ℕ) → word < 2 ^ 32 → IfSome (instruction_of word) InRange
instruction_in_range word small = (instruction_ranged word small).ranged
