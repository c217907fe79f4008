use Rattle.std.proofs.Common.{◌≡◌, ◌==◌, None, if◌then◌else◌, arith}
use Rattle.std.specs.Prelude.{IsSome}
use Rattle.std.proofs.lemmas.Bool.Decides.{nat_tests}
use Rattle.rv_machine.proofs.TrailLaws.{run_ended, unfinished_by, length_trail_next}
use Rattle.rv_machine.proofs.machine.Machine.run.Goals as goal

pub returns-then-is_some-2-clause-after : goal.returns-then-is_some-2-clause-after
returns-then-is_some-2-clause-after c =
    let ended : IsSome c.step-stepped.new.self.ending = cc in
    (run_ended _ _ _ _ _ _ _ c.steps.invariant.state c.step-stepped.ensures.after ended c.steps-test.true).0

pub returns-then-is_some-2-clause-steps : goal.returns-then-is_some-2-clause-steps
returns-then-is_some-2-clause-steps c =
    let ended : IsSome c.step-stepped.new.self.ending = cc in
    let last = (run_ended _ _ _ _ _ _ _ c.steps.invariant.state c.step-stepped.ensures.after ended c.steps-test.true).1 in
    rw (last, length_trail_next) (grind arith)

pub returns-then-is_some-2-clause-unfinished : goal.returns-then-is_some-2-clause-unfinished
returns-then-is_some-2-clause-unfinished c =
    let ended : IsSome c.step-stepped.new.self.ending = cc in
    let after = (run_ended _ _ _ _ _ _ _ c.steps.invariant.state c.step-stepped.ensures.after ended c.steps-test.true).0 in
    let told : c.step-stepped.result.end ≡ (if c.args.bound == 0 then None else c.step-stepped.new.self.ending) = grind (arith, nat_tests) in
    unfinished_by _ _ _ _ _ _ after told

pub returns-clause-unfinished : goal.returns-clause-unfinished
returns-clause-unfinished c =
    unfinished_by _ _ _ c.steps.self _ None (grind arith) (grind (arith, nat_tests))
