-- What stays as the arena grows.
use Rattle.std.proofs.Common.{ℕ, List, All, arith}
use Rattle.std.proofs.lemmas.List.Elements.{All-weaker}
use Rattle.bv_expr.specs.Growth.{Extends}
use Rattle.bv_expr.specs.declared.q_node.QNode.{QNode}
use Rattle.untaint.specs.declared.equality.Equality.{Equality}
use Rattle.untaint.specs.Kept.{IsOf}

pub IsOf-later : (old new : List QNode) (n : ℕ) (one : Equality) → Extends old new n → IsOf old one → IsOf new one
IsOf-later old new n one more was = record { left = omega (arith, more.least, was.left); right = omega (arith, more.least, was.right) }

pub AreOf-later : (old new : List QNode) (n : ℕ) (kept : List Equality) → Extends old new n → All (IsOf old) kept → All (IsOf new) kept
AreOf-later old new n kept more was = All-weaker (IsOf old) (IsOf new) (λ one. IsOf-later old new n one more) kept was
