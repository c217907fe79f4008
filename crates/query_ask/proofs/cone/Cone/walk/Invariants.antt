use Rattle.std.proofs.Common.{◌≡◌, length}
use Rattle.bv_expr.specs.Walk.{left_of}
use Rattle.query_ask.specs.Copies.{is_copied}
use Rattle.query_ask.proofs.Steps.{Visiting}
use Rattle.query_ask.proofs.cone.Cone.walk.Given as goal

abbrev pub invariant-loop-next : goal.invariant-loop-next
invariant-loop-next l = record { vars : l.self.vars ≡ l.fn.self.vars; visiting : Visiting l.nodes l.fn.self.vars l.fn.self.origins.keys l.self.origins.keys l.self.copies.items l.below.items l.root l.next }

abbrev pub decreases-loop-next : goal.decreases-loop-next
decreases-loop-next l = left_of (length l.nodes) (is_copied l.self.origins.keys) l.next
