use Rattle.std.proofs.Common.{◌≢◌, ℕ, ◌<◌, slice_index_or}
use Rattle.rel_step.specs.declared.stride.NextIf.{NextIf}
use Rattle.rel_step.proofs.following.when_of.Given as goal

abbrev pub invariant-loop-one : goal.invariant-loop-one
invariant-loop-one l = (k : ℕ) (d : NextIf) → k < l.one-index → (slice_index_or l.one-items k d).next ≢ l.next
