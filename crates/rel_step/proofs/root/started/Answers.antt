use Rattle.std.proofs.Common.{◌≡◌, ℕ, length, subst, arith}
use Rattle.rel_step.specs.Placing.{IsStarted}
use Rattle.rel_step.proofs.root.started.Goals as goal

pub returns : goal.returns
returns c =
    let e : c.loop-count.count ≡ length c.args.job.now.inputs = omega arith in
    subst (λ (n : ℕ). IsStarted c.args.job.now n c.loop-count.arena c.loop-count.here) e c.loop-count.invariant
