use Rattle.std.proofs.Common.{◌≡◌, IfSome}
use Rattle.std.specs.Prelude.{Any}
use Rattle.rel_step.specs.declared.stride.NextIf.{NextIf}
use Rattle.rel_step.proofs.tests.listed.Given as goal

abbrev pub invariant-loop-one : goal.invariant-loop-one
invariant-loop-one l = IfSome l.found (λ next. Any (λ (one : NextIf). one.next ≡ next) l.nexts)
