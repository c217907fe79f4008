-- Instructions that touch no memory, and go on.
use Rattle.std.proofs.Common.{◌≡◌, ◌≢◌, ℕ, ◌≤◌, Bool, true, List, refl, arith}
use Rattle.rv_decode.specs.declared.instr.Instr.{Instr}
use Rattle.rv_decode.specs.declared.instr.Instr.TheVariants.{Lui, Auipc, Jal, Jalr, Branch, Load, Store, OpImm, Op, Fence, Call, Break}
use Rattle.bv_expr.specs.declared.q_node.QNode.{QNode}
use Rattle.bv_expr.specs.Growth.{Extends}
use Rattle.rel_step.specs.declared.here.Here.{Here}
use Rattle.rel_step.specs.Runs.{step_nodes}
use Rattle.rel_step.specs.Plain.{is_plain}
use Rattle.rel_step.proofs.Growing.{Extends-wider}

pub plain_of : (i : Instr) → ((rd rs1 offset bytes : ℕ) (signed : Bool) → i ≡ Load rd rs1 offset bytes signed → ⊥) → ((rs1 rs2 offset bytes : ℕ) → i ≡ Store rs1 rs2 offset bytes → ⊥) → i ≢ Call → i ≢ Break → is_plain i ≡ true
plain_of (Lui rd imm) l s c b = refl
plain_of (Auipc rd imm) l s c b = refl
plain_of (Jal rd offset) l s c b = refl
plain_of (Jalr rd rs1 offset) l s c b = refl
plain_of (Branch cond rs1 rs2 offset) l s c b = refl
plain_of (OpImm op rd rs1 imm) l s c b = refl
plain_of (Op op rd rs1 rs2) l s c b = refl
plain_of (Fence word) l s c b = refl
plain_of (Load rd rs1 offset bytes signed) l s c b = absurd (l rd rs1 offset bytes signed refl)
plain_of (Store rs1 rs2 offset bytes) l s c b = absurd (s rs1 rs2 offset bytes refl)
plain_of Call l s c b = absurd (c refl)
plain_of Break l s c b = absurd (b refl)

pub within_step : (old new : List QNode) (n : ℕ) (here : Here) → Extends old new n → n ≤ 16384 → Extends old new (step_nodes here)
within_step old new n here more few = Extends-wider old new n (step_nodes here) more (omega (arith, few))
