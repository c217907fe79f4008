-- The steps that instructions without an access of memory do.
use Rattle.std.proofs.Common.{◌≡◌, ◌≢◌, ℕ, ◌+◌, ◌/◌, ◌*◌, ◌%◌, ◌^◌, if◌then◌else◌, Bool, true, false, List, Some, refl, sym, ◌∙◌, ap, subst, arith}
use Rattle.std.specs.Prelude.{slice_get, bit_and}
use Rattle.std.proofs.lemmas.Nat.Bits.{and_high_mask}
use Rattle.ct_words.specs.Words.{alu_value, test_value, flag}
use Rattle.ct_words.specs.declared.alu_op.AluOp.{AluOp}
use Rattle.ct_words.specs.declared.alu_op.AluOp.TheVariants as ops
use Rattle.ct_words.specs.declared.cond.Cond.{Cond}
use Rattle.rv_decode.specs.declared.instr.Instr.{Instr}
use Rattle.rv_decode.specs.declared.instr.Instr.TheVariants.{Lui, Auipc, Jal, Jalr, Branch, OpImm, Op, Fence}
use Rattle.rv_machine.specs.declared.touch.Touch.TheVariants as touches
use Rattle.rv_machine.specs.State.{register_value, register_written}
use Rattle.rv_machine.specs.Step.{goes, perform, wrapped, even, address_of}
use Rattle.bv_expr.specs.declared.q_node.QNode.{QNode}
use Rattle.bv_expr.specs.Growth.{Extends}
use Rattle.rel_store.specs.Sides.{side_id, HasSides}
use Rattle.rel_store.specs.declared.rel_value.RelValue.{RelValue}
use Rattle.rel_step.specs.declared.here.Here.{Here}
use Rattle.rel_step.specs.declared.planned.Moved.{Moved}
use Rattle.rel_step.specs.declared.planned.Moved.TheVariants.{Nothing}
use Rattle.rel_step.specs.declared.stride.Stride.{Stride}
use Rattle.rel_step.specs.Runs.{Always, IsHere, state_of, performs}
use Rattle.rel_step.specs.Plans.{IsPlanned}
use Rattle.rel_step.specs.Onward.{IsOnward, Puts, IsJump, IsBranch}
use Rattle.rel_step.proofs.Growing.{HasSides-grows, HasMoved-grows}
use Rattle.rel_step.proofs.Operands.{register_is}
use Rattle.rel_step.proofs.Going.{DoGo, show_plain, moves, planned_onward}
use Rattle.rel_step.proofs.Sided.{jump_stride, branch_stride, forked}

Puts-grows : (old new : List QNode) (n rd : ℕ) (word : (ℕ → ℕ) → Bool → ℕ) (moved : Moved) → Extends old new n → Puts old rd word moved → Puts new rd word moved
Puts-grows old new n rd word moved more h = record {
  parts = HasMoved-grows old new n moved more h.parts;
  puts = λ right image s env v bytes is. h.puts right image s env v bytes (more.values env v is);
}

-- each run puts a word into a register and goes on
abbrev DoPut : List QNode → Here → Instr → ℕ → ((ℕ → ℕ) → Bool → ℕ) → ((ℕ → ℕ) → Bool → ℕ) → Type 0
DoPut nodes here instr rd word next = (right : Bool) → Always nodes (λ v. performs here instr v right ≡ goes (register_written (state_of right v here) rd (word v right)) touches.Nothing (next v right))

put_go : (nodes : List QNode) (here : Here) (instr : Instr) (rd : ℕ) (word next : (ℕ → ℕ) → Bool → ℕ) (moved : Moved) → Puts nodes rd word moved → DoPut nodes here instr rd word next → DoGo nodes here instr moved next
put_go nodes here instr rd word next moved p h right env v bytes is =
    h right env v bytes is ∙ ap (λ s. goes s touches.Nothing (next v right)) (sym (p.puts right here.memory.image (state_of right v here) env v bytes is))

onward_at : (nodes : List QNode) (pc to k : ℕ) (stride : Stride) → to ≡ k → IsOnward nodes pc to stride → IsOnward nodes pc k stride
onward_at nodes pc to k stride e on = let P : ℕ → Type 0 = λ t. IsOnward nodes pc t stride in subst P e on

puts_onward : (mid new : List QNode) (n : ℕ) (here : Here) (instr : Instr) (rd to k : ℕ) (word : (ℕ → ℕ) → Bool → ℕ) (stride : Stride) (moved : Moved)
    → Puts mid rd word moved → Extends mid new n → IsOnward new here.pc to stride → to ≡ k → DoPut new here instr rd word (λ v right. k) → IsPlanned new here instr (record { stride = stride; moved = moved })
puts_onward mid new n here instr rd to k word stride moved p more on e h =
    let q = Puts-grows mid new n rd word moved more p in
    planned_onward new here instr k (record { stride = stride; moved = moved }) q.parts (put_go new here instr rd word (λ v right. k) moved q h) (onward_at new here.pc to k stride e on)

pub planned_lui : (mid new : List QNode) (n : ℕ) (here : Here) (rd imm to : ℕ) (stride : Stride) (moved : Moved)
    → Puts mid rd (λ v right. imm) moved → Extends mid new n → IsOnward new here.pc to stride → to ≡ wrapped (here.pc + 4) → IsPlanned new here (Lui rd imm) (record { stride = stride; moved = moved })
unfolding perform
planned_lui mid new n here rd imm to stride moved p more on e =
    puts_onward mid new n here (Lui rd imm) rd to (wrapped (here.pc + 4)) (λ v right. imm) stride moved p more on e (λ right env v bytes is. refl)

pub planned_auipc : (mid new : List QNode) (n : ℕ) (here : Here) (rd imm word to : ℕ) (stride : Stride) (moved : Moved)
    → Puts mid rd (λ v right. word) moved → word ≡ wrapped (here.pc + imm) → Extends mid new n → IsOnward new here.pc to stride → to ≡ wrapped (here.pc + 4) → IsPlanned new here (Auipc rd imm) (record { stride = stride; moved = moved })
unfolding perform
planned_auipc mid new n here rd imm word to stride moved p w more on e =
    puts_onward mid new n here (Auipc rd imm) rd to (wrapped (here.pc + 4)) (λ v right. word) stride moved p more on e
    (λ right env v bytes is. ap (λ x. goes (register_written (state_of right v here) rd x) touches.Nothing (wrapped (here.pc + 4))) (sym w))

pub planned_jal : (mid new : List QNode) (n : ℕ) (here : Here) (rd offset word to : ℕ) (stride : Stride) (moved : Moved)
    → Puts mid rd (λ v right. word) moved → word ≡ wrapped (here.pc + 4) → Extends mid new n → IsOnward new here.pc to stride → to ≡ wrapped (here.pc + offset) → IsPlanned new here (Jal rd offset) (record { stride = stride; moved = moved })
unfolding perform
planned_jal mid new n here rd offset word to stride moved p w more on e =
    puts_onward mid new n here (Jal rd offset) rd to (wrapped (here.pc + offset)) (λ v right. word) stride moved p more on e
    (λ right env v bytes is. ap (λ x. goes (register_written (state_of right v here) rd x) touches.Nothing (wrapped (here.pc + offset))) (sym w))

pub planned_fence : (new : List QNode) (here : Here) (word to : ℕ) (stride : Stride) → IsOnward new here.pc to stride → to ≡ wrapped (here.pc + 4) → IsPlanned new here (Fence word) (record { stride = stride; moved = Nothing })
unfolding perform
planned_fence new here word to stride on e =
    planned_onward new here (Fence word) (wrapped (here.pc + 4)) (record { stride = stride; moved = Nothing }) tt (λ right env v bytes is. refl) (onward_at new here.pc to (wrapped (here.pc + 4)) stride e on)

pub planned_immediate : (old mid new : List QNode) (m n : ℕ) (here : Here) (op : AluOp) (rd rs1 imm to : ℕ) (a : RelValue) (stride : Stride) (moved : Moved)
    → IsHere old here → slice_get here.registers rs1 ≡ Some a → Extends old mid m → Puts mid rd (λ v right. alu_value op (v (side_id right a)) imm) moved → Extends mid new n
    → IsOnward new here.pc to stride → to ≡ wrapped (here.pc + 4) → IsPlanned new here (OpImm op rd rs1 imm) (record { stride = stride; moved = moved })
unfolding perform
planned_immediate old mid new m n here op rd rs1 imm to a stride moved h ea first p more on e =
    puts_onward mid new n here (OpImm op rd rs1 imm) rd to (wrapped (here.pc + 4)) (λ v right. alu_value op (v (side_id right a)) imm) stride moved p more on e
    (λ right env v bytes is. ap (λ x. goes (register_written (state_of right v here) rd (alu_value op x imm)) touches.Nothing (wrapped (here.pc + 4)))
    (register_is old here rs1 a h ea right env v bytes (first.values env v (more.values env v is))))

pub planned_operation : (old mid new : List QNode) (m n : ℕ) (here : Here) (op : AluOp) (rd rs1 rs2 to : ℕ) (a b : RelValue) (stride : Stride) (moved : Moved)
    → IsHere old here → slice_get here.registers rs1 ≡ Some a → slice_get here.registers rs2 ≡ Some b → Extends old mid m → Puts mid rd (λ v right. alu_value op (v (side_id right a)) (v (side_id right b))) moved
    → Extends mid new n → IsOnward new here.pc to stride → to ≡ wrapped (here.pc + 4) → IsPlanned new here (Op op rd rs1 rs2) (record { stride = stride; moved = moved })
unfolding perform
planned_operation old mid new m n here op rd rs1 rs2 to a b stride moved h ea eb first p more on e =
    puts_onward mid new n here (Op op rd rs1 rs2) rd to (wrapped (here.pc + 4)) (λ v right. alu_value op (v (side_id right a)) (v (side_id right b))) stride moved p more on e
    (λ right env v bytes is.
    ap (λ x. goes (register_written (state_of right v here) rd (alu_value op x (register_value (state_of right v here) rs2))) touches.Nothing (wrapped (here.pc + 4)))
    (register_is old here rs1 a h ea right env v bytes (first.values env v (more.values env v is)))
    ∙ ap (λ y. goes (register_written (state_of right v here) rd (alu_value op (v (side_id right a)) y)) touches.Nothing (wrapped (here.pc + 4)))
    (register_is old here rs2 b h eb right env v bytes (first.values env v (more.values env v is))))

-- bit 0 is cleared by a mask
even_is : (x : ℕ) → bit_and ((x) % 2 ^ 32) 0xfffffffe ≡ even (wrapped x)
even_is x = and_high_mask 32 1 (omega arith) (x % 2 ^ 32) (omega arith) ∙ halves (x % 2 ^ 32)
  where
    halves : (y : ℕ) → y / 2 ^ 1 * 2 ^ 1 ≡ even y
    halves y = omega arith

pub masked : (a b : ℕ) → alu_value ops.And (alu_value ops.Add a b) 0xfffffffe ≡ even (wrapped (a + b))
unfolding alu_value
masked a b = even_is (a + b)

pub planned_jalr : (old mid far new : List QNode) (k m n : ℕ) (here : Here) (rd rs1 offset word : ℕ) (a target : RelValue) (stride : Stride) (moved : Moved)
    → IsHere old here → slice_get here.registers rs1 ≡ Some a → Extends old mid k → Puts mid rd (λ v right. word) moved → word ≡ wrapped (here.pc + 4) → Extends mid far m
    → HasSides far 32 target → ((right : Bool) → Always far (λ v. v (side_id right target) ≡ even (wrapped (v (side_id right a) + offset)))) → Extends far new n
    → IsJump new here.pc target stride → IsPlanned new here (Jalr rd rs1 offset) (record { stride = stride; moved = moved })
unfolding perform
planned_jalr old mid far new k m n here rd rs1 offset word a target stride moved h ea first p w second has value third jump = record {
  stride = jump_stride new here.pc target (performs here (Jalr rd rs1 offset)) next stride (show_plain new here (Jalr rd rs1 offset) moved next go) (HasSides-grows far new n 32 target third has)
      (λ right env v bytes is. value right env v bytes (third.values env v is)
      ∙ ap (λ x. even (wrapped (x + offset))) (sym (register_is old here rs1 a h ea right env v bytes (first.values env v (second.values env v (third.values env v is))))))
      jump;
  moved = moves new here (Jalr rd rs1 offset) moved next put.parts go;
}
  where
    next : (ℕ → ℕ) → Bool → ℕ
    next v right = even (address_of (state_of right v here) rs1 offset)

    put : Puts new rd (λ v right. word) moved
    put = Puts-grows far new n rd (λ v right. word) moved third (Puts-grows mid far m rd (λ v right. word) moved second p)

    go : DoGo new here (Jalr rd rs1 offset) moved next
    go = put_go new here (Jalr rd rs1 offset) rd (λ v right. word) next moved put (λ right env v bytes is. ap (λ x. goes (register_written (state_of right v here) rd x) touches.Nothing (next v right)) (sym w))

pub planned_level : (new : List QNode) (here : Here) (c : Cond) (rs1 rs2 offset to : ℕ) (stride : Stride) → IsOnward new here.pc to stride → to ≡ wrapped (here.pc + 4) → wrapped (here.pc + offset) ≡ wrapped (here.pc + 4)
    → IsPlanned new here (Branch c rs1 rs2 offset) (record { stride = stride; moved = Nothing })
unfolding perform
planned_level new here c rs1 rs2 offset to stride on e same =
    planned_onward new here (Branch c rs1 rs2 offset) (wrapped (here.pc + 4)) (record { stride = stride; moved = Nothing }) tt
    (λ right env v bytes is. ap (λ x. goes (state_of right v here) touches.Nothing x) (by (test_value c (register_value (state_of right v here) rs1) (register_value (state_of right v here) rs2))))
    (onward_at new here.pc to (wrapped (here.pc + 4)) stride e on)
  where
    by : (b : Bool) → (if b then wrapped (here.pc + offset) else wrapped (here.pc + 4)) ≡ wrapped (here.pc + 4)
    by true = same
    by false = refl

pub planned_fork : (old mid new : List QNode) (m n : ℕ) (here : Here) (c : Cond) (rs1 rs2 offset there past : ℕ) (a b taken : RelValue) (stride : Stride)
    → IsHere old here → slice_get here.registers rs1 ≡ Some a → slice_get here.registers rs2 ≡ Some b → Extends old mid m
    → HasSides mid 1 taken → ((right : Bool) → Always mid (λ v. v (side_id right taken) ≡ flag (test_value c (v (side_id right a)) (v (side_id right b))))) → Extends mid new n
    → wrapped (here.pc + offset) ≢ wrapped (here.pc + 4) → there ≡ wrapped (here.pc + offset) → past ≡ wrapped (here.pc + 4) → IsBranch new here.pc taken there past stride
    → IsPlanned new here (Branch c rs1 rs2 offset) (record { stride = stride; moved = Nothing })
unfolding perform
planned_fork old mid new m n here c rs1 rs2 offset there past a b taken stride h ea eb first has value second apart ey en branch = record {
  stride = branch_stride new here.pc target other taken (performs here (Branch c rs1 rs2 offset)) takes stride (show_plain new here (Branch c rs1 rs2 offset) Nothing next go) (HasSides-grows mid new n 1 taken second has)
      (λ right env v bytes is. value right env v bytes (second.values env v is)
      ∙ ap (λ x. flag (test_value c x (v (side_id right b)))) (sym (register_is old here rs1 a h ea right env v bytes (first.values env v (second.values env v is))))
      ∙ ap (λ y. flag (test_value c (register_value (state_of right v here) rs1) y)) (sym (register_is old here rs2 b h eb right env v bytes (first.values env v (second.values env v is)))))
      apart
      (let B : ℕ → Type 0 = λ x. IsBranch new here.pc taken x other stride in let C : ℕ → Type 0 = λ y. IsBranch new here.pc taken there y stride in subst B ey (subst C en branch));
  moved = moves new here (Branch c rs1 rs2 offset) Nothing next tt go;
}
  where
    target : ℕ
    target = wrapped (here.pc + offset)

    other : ℕ
    other = wrapped (here.pc + 4)

    takes : (ℕ → ℕ) → Bool → Bool
    takes v right = test_value c (register_value (state_of right v here) rs1) (register_value (state_of right v here) rs2)

    next : (ℕ → ℕ) → Bool → ℕ
    next v right = forked target other (takes v right)

    go : DoGo new here (Branch c rs1 rs2 offset) Nothing next
    go right env v bytes is = refl
