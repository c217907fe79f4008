use Rattle.std.proofs.Common.{◌≡◌, ◌+◌, ◌*◌, length}
use Rattle.cnf_form.proofs.EncodingLaws.{Walking, unseen}
use Rattle.cnf_form.proofs.encoding.encode.Given as goal

abbrev pub invariant-loop-gate : goal.invariant-loop-gate
invariant-loop-gate l = record { vars : l.cnf.vars ≡ length l.gates; walking : Walking l.gates l.roots l.cnf.clauses l.seen.items l.below.items }

abbrev pub decreases-loop-gate : goal.decreases-loop-gate
decreases-loop-gate l = 3 * unseen l.seen.items + length l.below.items
