-- What stays as the arena grows.
use Rattle.std.proofs.Common.{◌≡◌, ℕ, ◌+◌, ◌-◌, ◌≤◌, List, [], length, get_or, arith}
use Rattle.bv_expr.specs.declared.q_node.QNode.{QNode}
use Rattle.bv_expr.specs.Growth.{Extends}
use Rattle.bv_expr.proofs.Growing.{Extends-then}
use Rattle.bv_expr.proofs.Widths.{HasWidth-later}
use Rattle.rel_store.proofs.SideLaws.{HasSides-later}
use Rattle.rel_store.specs.declared.rel_value.RelValue.{RelValue}
use Rattle.rel_memory.specs.Contents.{Contents, IsMemory, IsWritten}
use Rattle.rel_memory.specs.declared.contents.Written.{Written}
use Rattle.rel_memory.specs.declared.entry.Entry.{Entry}
use Rattle.rel_memory.specs.declared.entry.Entry.TheVariants.{Number, Computed}
use Rattle.rel_memory.specs.Log.{IsEntry}
use Rattle.rel_memory.specs.Selecting.{Grows, AreHeld, AreFirst}

pub Grows-of : (old new : List QNode) (n : ℕ) → Extends old new n → Grows old new
Grows-of old new n more = record { least = more.least; most = omega (arith, more.least); stays = more.stays; widths = more.widths; values = more.values }

pub Extends-of : (old new : List QNode) (n : ℕ) → Grows old new → length new ≤ length old + n → Extends old new n
Extends-of old new n more few = record { least = more.least; most = few; stays = more.stays; widths = more.widths; values = more.values }

pub Grows-then : (a b c : List QNode) → Grows a b → Grows b c → Grows a c
Grows-then a b c p q = Extends-then a b c (length b - length a) (length c - length b) (length c - length a) p q (omega (arith, p.least, q.least))

pub IsWritten-later : (old new : List QNode) (n : ℕ) (one : Written) → Extends old new n → IsWritten old one → IsWritten new one
IsWritten-later old new n one more was = record { address = HasWidth-later old new n one.address.0 32 more was.address; held = HasSides-later old new n 8 one.held more was.held }

pub IsEntry-later : (old new : List QNode) (n : ℕ) (one : Entry) → Extends old new n → IsEntry old one → IsEntry new one
IsEntry-later old new n (Number at) more was = tt
IsEntry-later old new n (Computed one) more was = IsWritten-later old new n one more was

pub IsMemory-later : (old new : List QNode) (n : ℕ) (m : Contents) → Extends old new n → IsMemory old m → IsMemory new m
IsMemory-later old new n m more memory = record {
  image = memory.image;
  kept = λ at one is. (let was = memory.kept at one is in record { held = HasSides-later old new n 8 one.held more was.held; before = was.before });
  computed = λ k d inside. IsWritten-later old new n (get_or m.computed k d) more (memory.computed k d inside);
}

pub AreHeld-later : (old new : List QNode) (n : ℕ) (values : List (ℕ × RelValue)) → Extends old new n → AreHeld old values → AreHeld new values
AreHeld-later old new n values more are = λ at held is. HasSides-later old new n 8 held more (are at held is)

pub AreFirst-later : (old new : List QNode) (n : ℕ) (m : Contents) (values : List (ℕ × RelValue)) → Extends old new n → AreFirst old m values → AreFirst new m values
AreFirst-later old new n m values more are = λ at held is. (let was = are at held is in record { width = HasSides-later old new n 8 held more was.width; byte = λ env v run right. was.byte env v (more.values env v run) right })

pub AreFirst-none : (nodes : List QNode) (m : Contents) (values : List (ℕ × RelValue)) → values ≡ [] → AreFirst nodes m values
AreFirst-none nodes m values none = rw none (λ at held is. absurd cc)
