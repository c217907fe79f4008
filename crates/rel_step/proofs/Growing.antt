-- What holds of an arena holds of one that it grows to.
use Rattle.std.proofs.Common.{ℕ, ◌≤◌, List, arith}
use Rattle.std.proofs.lemmas.List.Elements.{All-weaker}
use Rattle.bv_expr.specs.declared.q_node.QNode.{QNode}
use Rattle.bv_expr.specs.Nodes.{HasWidth}
use Rattle.bv_expr.specs.Growth.{Extends}
use Rattle.bv_expr.proofs.Widths.{HasWidth-later}
use Rattle.rel_store.specs.Sides.{side_id, HasSides}
use Rattle.rel_store.specs.declared.rel_value.RelValue.{RelValue}
use Rattle.rel_memory.specs.Contents.{Contents, IsMemory, IsWritten}
use Rattle.rel_memory.specs.declared.contents.Written.{Written}
use Rattle.rel_step.specs.declared.here.Here.{Here}
use Rattle.rel_step.specs.declared.planned.Moved.{Moved}
use Rattle.rel_step.specs.declared.planned.Moved.TheVariants.{Nothing, Register, Bytes}
use Rattle.rel_step.specs.Runs.{Always, IsHere}
use Rattle.rel_step.specs.Plans.{HasMoved}

pub Extends-wider : (old new : List QNode) (n k : ℕ) → Extends old new n → n ≤ k → Extends old new k
Extends-wider old new n k more le = record { least = more.least; most = omega (arith, more.most, le); stays = more.stays; widths = more.widths; values = more.values }

pub Always-grows : (old new : List QNode) (n : ℕ) (P : (ℕ → ℕ) → Type 0) → Extends old new n → Always old P → Always new P
Always-grows old new n P more h env v bytes is = h env v bytes (more.values env v is)

pub HasWidth-grows : (old new : List QNode) (n i w : ℕ) → Extends old new n → HasWidth old i w → HasWidth new i w
HasWidth-grows old new n i w more h = HasWidth-later old new n i w more h

pub HasSides-grows : (old new : List QNode) (n w : ℕ) (value : RelValue) → Extends old new n → HasSides old w value → HasSides new w value
HasSides-grows old new n w value more h right = HasWidth-later old new n (side_id right value) w more (h right)

pub IsWritten-grows : (old new : List QNode) (n : ℕ) → Extends old new n → (one : Written) → IsWritten old one → IsWritten new one
IsWritten-grows old new n more one h = record {
  address = HasWidth-later old new n one.address.0 32 more h.address;
  held = HasSides-grows old new n 8 one.held more h.held;
}

pub HasMoved-grows : (old new : List QNode) (n : ℕ) (moved : Moved) → Extends old new n → HasMoved old moved → HasMoved new moved
HasMoved-grows old new n Nothing more h = tt
HasMoved-grows old new n (Register rd given) more h = (h.0, HasSides-grows old new n 32 given more h.1)
HasMoved-grows old new n (Bytes ones) more h = All-weaker (IsWritten old) (IsWritten new) (IsWritten-grows old new n more) ones.items h

pub IsMemory-grows : (old new : List QNode) (n : ℕ) (m : Contents) → Extends old new n → IsMemory old m → IsMemory new m
IsMemory-grows old new n m more h = record {
  image = h.image;
  kept = λ at one e. record { held = HasSides-grows old new n 8 one.held more ((h.kept at one e).held); before = (h.kept at one e).before };
  computed = All-weaker (IsWritten old) (IsWritten new) (IsWritten-grows old new n more) m.computed h.computed;
}

pub IsHere-grows : (old new : List QNode) (n : ℕ) (here : Here) → Extends old new n → IsHere old here → IsHere new here
IsHere-grows old new n here more h = record {
  pc = h.pc;
  count = h.count;
  words = All-weaker (HasSides old 32) (HasSides new 32) (λ value. HasSides-grows old new n 32 value more) here.registers h.words;
  zero_is = λ right env v bytes is. h.zero_is right env v bytes (more.values env v is);
  memory = IsMemory-grows old new n here.memory more h.memory;
}
