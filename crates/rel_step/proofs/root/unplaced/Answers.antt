use Rattle.std.proofs.Common.{arith}
use Rattle.rel_step.proofs.RootLaws.{IsStarted-first}
use Rattle.rel_step.proofs.root.unplaced.Goals as goal

pub returns : goal.returns
returns c =
    let memory = c.in_ok-memory.ensures in
    rw c.entry_of-pc.ensures (IsStarted-first c.args.job.now _ _ _ _ c.requires c.in_ok-registers.ensures.no_input (omega arith) c.size-size.ensures.image c.in_ok-registers.ensures.set memory.image memory.nothing memory.numbers memory.later (memory.memory _))
