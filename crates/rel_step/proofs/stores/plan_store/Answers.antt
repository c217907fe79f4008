use Rattle.std.proofs.Common.{false}
use Rattle.bv_range.proofs.Walks.{AreRight-later}
use Rattle.rel_step.proofs.Growing.{HasWidth-grows, HasSides-grows}
use Rattle.rel_step.proofs.Operands.{register_sides}
use Rattle.rel_step.proofs.Addressing.{side_width_now, size_few}
use Rattle.rel_step.proofs.Touching.{planned_store}
use Rattle.rel_step.proofs.stores.plan_store.Goals as goal

pub all_written-requires-clause-at : goal.all_written-requires-clause-at
all_written-requires-clause-at g c = side_width_now c.reach_of.new.arena 32 false c.in_ok-reached.reached.address c.left-at.result c.left-at.ensures c.in_ok-reached.ensures.reach.address

pub all_written-requires-clause-word : goal.all_written-requires-clause-word
all_written-requires-clause-word g c =
    HasSides-grows c.args.arena.now c.reach_of.new.arena _ 32 c.get-word.result c.in_ok-reached.ensures.extends
    (register_sides c.args.arena.now c.args.here.now c.args.rs2 c.get-word.result c.requires.here c.get-word.ensures)

pub all_written-requires-clause-size : goal.all_written-requires-clause-size
all_written-requires-clause-size g c = size_few c.args.bytes c.requires.size

pub access-requires-clause-address : goal.access-requires-clause-address
access-requires-clause-address g c = HasSides-grows c.reach_of.new.arena c.all_written.new.arena _ 32 c.in_ok-reached.reached.address c.in_ok-ones.ensures.extends c.in_ok-reached.ensures.reach.address

pub access-requires-clause-allowed : goal.access-requires-clause-allowed
access-requires-clause-allowed g c = HasWidth-grows c.reach_of.new.arena c.all_written.new.arena _ c.in_ok-reached.reached.allowed.0 1 c.in_ok-ones.ensures.extends c.in_ok-reached.ensures.reach.allowed

pub returns-in_err-ones-clause-ranges : goal.returns-in_err-ones-clause-ranges
returns-in_err-ones-clause-ranges g c = AreRight-later c.reach_of.new.arena c.all_written.new.arena c.reach_of.new.ranges _ c.in_err-ones.ensures.extends c.in_ok-reached.ensures.ranges

pub returns-in_err-stride-clause-ranges : goal.returns-in_err-stride-clause-ranges
returns-in_err-stride-clause-ranges g c =
    AreRight-later c.all_written.new.arena c.access.new.arena c.reach_of.new.ranges 2 c.in_err-stride.ensures.extends
    (AreRight-later c.reach_of.new.arena c.all_written.new.arena c.reach_of.new.ranges _ c.in_ok-ones.ensures.extends c.in_ok-reached.ensures.ranges)

pub returns-clause-ranges : goal.returns-clause-ranges
returns-clause-ranges g c =
    AreRight-later c.all_written.new.arena c.access.new.arena c.reach_of.new.ranges 2 c.in_ok-stride.ensures.extends
    (AreRight-later c.reach_of.new.arena c.all_written.new.arena c.reach_of.new.ranges _ c.in_ok-ones.ensures.extends c.in_ok-reached.ensures.ranges)

pub returns-clause-planned : goal.returns-clause-planned
returns-clause-planned g c =
    planned_store c.args.arena.now c.reach_of.new.arena c.all_written.new.arena c.access.new.arena _ _ 2 c.args.here.now c.args.rs1 c.args.rs2 c.args.offset c.args.bytes c.left-at.result.0 c.in_ok-reached.reached c.in_ok-stride.stride c.get-word.result c.in_ok-ones.ones
    c.requires.here c.get-word.ensures c.in_ok-reached.ensures.extends c.in_ok-ones.ensures.extends c.in_ok-stride.ensures.extends c.in_ok-reached.ensures.reach c.left-at.ensures c.in_ok-ones.ensures.written c.in_ok-ones.ensures.count c.in_ok-stride.ensures.access
