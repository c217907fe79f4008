use Rattle.std.proofs.Common.{false}
use Rattle.bv_range.proofs.Walks.{AreRight-later}
use Rattle.rel_step.proofs.Growing.{IsHere-grows, HasWidth-grows, HasSides-grows}
use Rattle.rel_step.proofs.Addressing.{side_width_now}
use Rattle.rel_step.proofs.Touching.{planned_load}
use Rattle.rel_step.proofs.loads.plan_load.Goals as goal

pub put_loaded-requires-clause-here : goal.put_loaded-requires-clause-here
put_loaded-requires-clause-here g c = IsHere-grows c.args.arena.now c.reach_of.new.arena _ c.args.here.now c.in_ok-reached.ensures.extends c.requires.here

pub put_loaded-requires-clause-at : goal.put_loaded-requires-clause-at
put_loaded-requires-clause-at g c = side_width_now c.reach_of.new.arena 32 false c.in_ok-reached.reached.address c.left-at.result c.left-at.ensures c.in_ok-reached.ensures.reach.address

pub access-requires-clause-address : goal.access-requires-clause-address
access-requires-clause-address g c = HasSides-grows c.reach_of.new.arena c.put_loaded.new.arena _ 32 c.in_ok-reached.reached.address c.in_ok-moved.ensures.extends c.in_ok-reached.ensures.reach.address

pub access-requires-clause-allowed : goal.access-requires-clause-allowed
access-requires-clause-allowed g c = HasWidth-grows c.reach_of.new.arena c.put_loaded.new.arena _ c.in_ok-reached.reached.allowed.0 1 c.in_ok-moved.ensures.extends c.in_ok-reached.ensures.reach.allowed

pub returns-in_err-stride-clause-ranges : goal.returns-in_err-stride-clause-ranges
returns-in_err-stride-clause-ranges g c = AreRight-later c.put_loaded.new.arena c.access.new.arena c.put_loaded.new.ranges 2 c.in_err-stride.ensures.extends c.in_ok-moved.ensures.ranges

pub returns-clause-ranges : goal.returns-clause-ranges
returns-clause-ranges g c = AreRight-later c.put_loaded.new.arena c.access.new.arena c.put_loaded.new.ranges 2 c.in_ok-stride.ensures.extends c.in_ok-moved.ensures.ranges

pub returns-clause-planned : goal.returns-clause-planned
returns-clause-planned g c =
    planned_load c.reach_of.new.arena c.put_loaded.new.arena c.access.new.arena _ 2 c.args.here.now c.args.rd c.args.rs1 c.args.offset c.args.bytes c.left-at.result.0 c.args.signed c.in_ok-reached.reached c.in_ok-stride.stride c.in_ok-moved.moved
    c.in_ok-moved.ensures.extends c.in_ok-stride.ensures.extends c.in_ok-reached.ensures.reach c.left-at.ensures c.in_ok-moved.ensures.changes c.in_ok-stride.ensures.access
