use Rattle.std.proofs.Common.{◌≡◌, take}
use Rattle.std.specs.List.{Any}
use Rattle.rel_step.specs.declared.stride.NextIf.{NextIf}
use Rattle.path_run.proofs.replaying.is_listed.Given as goal

abbrev pub invariant-loop-one : goal.invariant-loop-one
invariant-loop-one l = Any (λ (one : NextIf). one.next ≡ l.next) (take l.one-index l.nexts) → ⊥
