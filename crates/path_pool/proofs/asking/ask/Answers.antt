use Rattle.std.proofs.Common.{◌≡◌, Some}
use Rattle.path_tree.specs.PoolMachine.{next_up}
use Rattle.path_pool.proofs.WaitingLaws.{next_within, told_to_wait}
use Rattle.path_pool.proofs.asking.ask.Goals as goal

pub path_of-requires : goal.path_of-requires
path_of-requires c =
    let next : next_up c.args.bag.now.pool ≡ Some c.in-Some.number = cc in
    next_within c.args.bag.now.pool c.in-Some.number c.law.ensures.placed next

pub returns-in-NotNow : goal.returns-in-NotNow
returns-in-NotNow c =
    (told_to_wait c.args.bag.now.pool c.in-NotNow.out c.in-NotNow.ensures.reply, c.in-NotNow.ensures.leaves)
