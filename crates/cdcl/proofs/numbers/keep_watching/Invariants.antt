use Rattle.cdcl.proofs.KeepLaws.{IsKeeping}
use Rattle.cdcl.proofs.numbers.keep_watching.Given as goal

abbrev pub invariant-loop-place : goal.invariant-loop-place
invariant-loop-place l = IsKeeping l.pairs l.lit l.initial.items.items l.items.items l.place l.kept
