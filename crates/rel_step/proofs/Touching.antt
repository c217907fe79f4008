-- What the machine does in loads and stores.
use Rattle.std.proofs.Common.{◌≡◌, ℕ, ◌+◌, ◌<◌, ◌^◌, if◌then◌else◌, Bool, true, false, List, length, Some, refl, sym, ap, subst, arith}
use Rattle.std.specs.Prelude.{slice_get}
use Rattle.std.specs.Global.{Vec}
use Rattle.rv_image.specs.declared.right.Right.{Right}
use Rattle.rv_image.specs.declared.right.Right.TheVariants as rights
use Rattle.rv_image.specs.Image.{allowed_at}
use Rattle.rv_decode.specs.declared.instr.Instr.TheVariants.{Load, Store}
use Rattle.rv_machine.specs.declared.touch.Touch.{Touch}
use Rattle.rv_machine.specs.declared.touch.Touch.TheVariants as touches
use Rattle.rv_machine.specs.State.{State}
use Rattle.rv_machine.specs.Step.{perform, load, store, goes, faults, following, wrapped, address_of, all_allowed}
use Rattle.bv_expr.specs.declared.q_node.QNode.{QNode}
use Rattle.bv_expr.specs.Growth.{Extends}
use Rattle.rel_store.specs.Sides.{side_id}
use Rattle.rel_step.specs.declared.addresses.Reach.{Reach}
use Rattle.rel_step.specs.declared.here.Here.{Here}
use Rattle.rel_step.specs.declared.planned.Moved.{Moved}
use Rattle.rel_step.specs.declared.stride.Stride.{Stride}
use Rattle.rel_step.specs.Plans.{IsPlanned}
use Rattle.rel_step.specs.Accesses.{accessed, IsReach, IsAccess, Changes, with_loaded, with_stored}
use Rattle.rel_store.specs.declared.rel_value.RelValue.{RelValue}
use Rattle.rel_memory.specs.declared.contents.Written.{Written}
use Rattle.rel_step.specs.declared.planned.Moved.TheVariants.{Bytes}
use Rattle.bv_expr.proofs.Growing.{Extends-then}
use Rattle.rel_step.specs.Runs.{Always, IsHere}
use Rattle.rel_step.specs.Accesses.{AreBytesWritten}
use Rattle.rel_step.proofs.Growing.{HasMoved-grows}
use Rattle.rel_step.proofs.Addressing.{IsReach-grows, reach_small}
use Rattle.rel_step.proofs.Writing.{stored_is}
use Rattle.rel_step.proofs.Accessing.{Touches, access_planned}

one_load : (a b : ℕ) → touches.Load a ≡ touches.Load b → a ≡ b
one_load a b e = cc

one_store : (a b : ℕ) → touches.Store a ≡ touches.Store b → a ≡ b
one_store a b e = cc

-- a step that goes on where it is allowed
either_seen : (b : Bool) (s t : State) (touch : Touch) → t.pc ≡ s.pc → (if b then goes t touch (following s) else faults s touch).seen ≡ Some (accessed s.pc (following s) touch b)
either_seen true s t touch e = ap (λ pc. Some (accessed pc (following s) touch true)) e
either_seen false s t touch e = refl

either_after : (b : Bool) (s t : State) (touch : Touch) → b ≡ true → (if b then goes t touch (following s) else faults s touch).after ≡ record t { pc = following s }
either_after b s t touch e = ap (λ c. (if c then goes t touch (following s) else faults s touch).after) e

pub load_touches : (here : Here) (rd rs1 offset bytes : ℕ) (signed : Bool) → Touches here (Load rd rs1 offset bytes signed) touches.Load rights.Read rs1 offset bytes (with_loaded here rd bytes signed)
unfolding perform load
load_touches here rd rs1 offset bytes signed = record {
  one = one_load;
  seen = λ s. either_seen (all_allowed (allowed_at rights.Read here.memory.image) (address_of s rs1 offset) bytes) s (with_loaded here rd bytes signed s (address_of s rs1 offset)) (touches.Load (address_of s rs1 offset)) refl;
  after = λ s may. either_after (all_allowed (allowed_at rights.Read here.memory.image) (address_of s rs1 offset) bytes) s (with_loaded here rd bytes signed s (address_of s rs1 offset)) (touches.Load (address_of s rs1 offset)) may;
}

pub store_touches : (here : Here) (rs1 rs2 offset bytes : ℕ) → Touches here (Store rs1 rs2 offset bytes) touches.Store rights.Write rs1 offset bytes (with_stored here rs2 bytes)
unfolding perform store
store_touches here rs1 rs2 offset bytes = record {
  one = one_store;
  seen = λ s. either_seen (all_allowed (allowed_at rights.Write here.memory.image) (address_of s rs1 offset) bytes) s (with_stored here rs2 bytes s (address_of s rs1 offset)) (touches.Store (address_of s rs1 offset)) refl;
  after = λ s may. either_after (all_allowed (allowed_at rights.Write here.memory.image) (address_of s rs1 offset) bytes) s (with_stored here rs2 bytes s (address_of s rs1 offset)) (touches.Store (address_of s rs1 offset)) may;
}

Changes-grows : (old new : List QNode) (n : ℕ) (here : Here) (kind : Right) (at bytes : ℕ) (changed : State → ℕ → State) (moved : Moved) → Extends old new n → Changes old here kind at bytes changed moved → Changes new here kind at bytes changed moved
Changes-grows old new n here kind at bytes changed moved more is = record {
  parts = HasMoved-grows old new n moved more is.parts;
  states = λ right env v b val may. is.states right env v b (more.values env v val) may;
}

Changes-at : (nodes : List QNode) (here : Here) (kind : Right) (at other bytes : ℕ) (changed : State → ℕ → State) (moved : Moved) → at ≡ other → Changes nodes here kind at bytes changed moved → Changes nodes here kind other bytes changed moved
Changes-at nodes here kind at other bytes changed moved e is = let P : ℕ → Type 0 = λ i. Changes nodes here kind i bytes changed moved in subst P e is

pub planned_load : (a b c : List QNode) (m n : ℕ) (here : Here) (rd rs1 offset bytes at : ℕ) (signed : Bool) (reach : Reach) (stride : Stride) (moved : Moved) → Extends a b m → Extends b c n
    → IsReach a here rights.Read rs1 offset bytes reach → at ≡ side_id false reach.address → Changes b here rights.Read at bytes (with_loaded here rd bytes signed) moved
    → IsAccess c here.pc (wrapped (here.pc + 4)) reach stride → IsPlanned c here (Load rd rs1 offset bytes signed) (record { stride = stride; moved = moved })
planned_load a b c m n here rd rs1 offset bytes at signed reach stride moved first second reaches e changes is =
    access_planned c here (Load rd rs1 offset bytes signed) touches.Load rights.Read rs1 offset bytes (with_loaded here rd bytes signed) reach stride moved
    (load_touches here rd rs1 offset bytes signed)
    (IsReach-grows b c n here rights.Read rs1 offset bytes reach second (IsReach-grows a b m here rights.Read rs1 offset bytes reach first reaches))
    is
    (Changes-at c here rights.Read at (side_id false reach.address) bytes (with_loaded here rd bytes signed) moved e (Changes-grows b c n here rights.Read at bytes (with_loaded here rd bytes signed) moved second changes))

small_at : (nodes : List QNode) (at other : ℕ) → at ≡ other → Always nodes (λ v. v other < 2 ^ 32) → Always nodes (λ v. v at < 2 ^ 32)
small_at nodes at other e h = let P : ℕ → Type 0 = λ i. Always nodes (λ v. v i < 2 ^ 32) in subst P (sym e) h

pub planned_store : (o a b c : List QNode) (k m n : ℕ) (here : Here) (rs1 rs2 offset bytes at : ℕ) (reach : Reach) (stride : Stride) (word : RelValue) (ones : Vec Written) → IsHere o here → slice_get here.registers rs2 ≡ Some word
    → Extends o a k → Extends a b m → Extends b c n
    → IsReach a here rights.Write rs1 offset bytes reach → at ≡ side_id false reach.address → AreBytesWritten b at word ones.items → length ones.items ≡ bytes
    → IsAccess c here.pc (wrapped (here.pc + 4)) reach stride → IsPlanned c here (Store rs1 rs2 offset bytes) (record { stride = stride; moved = Bytes ones })
planned_store o a b c k m n here rs1 rs2 offset bytes at reach stride word ones was has first second third reaches e are count is =
    let later = IsReach-grows a b m here rights.Write rs1 offset bytes reach second reaches in
    let more = Extends-then o a b k m (k + m) first second (omega arith) in
    let changes = stored_is o b (k + m) here rs2 at bytes word ones was has more (small_at b at (side_id false reach.address) e (reach_small b here rights.Write rs1 offset bytes reach later)) are count in
    access_planned c here (Store rs1 rs2 offset bytes) touches.Store rights.Write rs1 offset bytes (with_stored here rs2 bytes) reach stride (Bytes ones)
    (store_touches here rs1 rs2 offset bytes)
    (IsReach-grows b c n here rights.Write rs1 offset bytes reach third later)
    is
    (Changes-at c here rights.Write at (side_id false reach.address) bytes (with_stored here rs2 bytes) (Bytes ones) e (Changes-grows b c n here rights.Write at bytes (with_stored here rs2 bytes) (Bytes ones) third changes))
