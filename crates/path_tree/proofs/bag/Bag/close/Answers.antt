use Rattle.std.proofs.Common.{◌≡◌, [], Some, sym, arith, rules}
use Rattle.std.proofs.lemmas.List.{append-nil}
use Rattle.path_tree.specs.PoolMachine.{holder}
use Rattle.path_tree.specs.Bag.{contents}
use Rattle.path_tree.proofs.RoomLaws.{room-out, kept-closed}
use Rattle.path_tree.proofs.bag.Bag.close.Goals as goal

pub push_reserved-requires : goal.push_reserved-requires
push_reserved-requires c =
    let b = c.self.inside in
    let before = contents b.history.items b.paths.items b.waiting.items b.seats.items b.done.items in
    let needs : holder before.pool c.args.number ≡ Some c.args.seat = search rules in
    let room = room-out before c.args.seat c.args.number _ _ _ needs c.self.invariant.0 c.self.invariant.1 in
    omega (arith, room.2, b.done.ok.0)

pub push_reserved-requires-2 : goal.push_reserved-requires-2
push_reserved-requires-2 c =
    let b = c.self.inside in
    let before = contents b.history.items b.paths.items b.waiting.items b.seats.items b.done.items in
    let needs : holder before.pool c.args.number ≡ Some c.args.seat = search rules in
    let room = room-out before c.args.seat c.args.number _ _ _ needs c.self.invariant.0 c.self.invariant.1 in
    omega (arith, room.0, b.history.ok.0)

pub invariant_of-self : goal.invariant_of-self
invariant_of-self c =
    let b = c.self.inside in
    let before = contents b.history.items b.paths.items b.waiting.items b.seats.items b.done.items in
    let needs : holder before.pool c.args.number ≡ Some c.args.seat = search rules in
    rw (c.push_reserved-2.ensures.items, c.push_reserved.ensures.items, c.push_reserved-2.ensures.capacity, c.push_reserved.ensures.capacity) (kept-closed before c.args.seat c.args.number _ _ _ needs c.self.invariant.0 c.self.invariant.1)

pub returns-clause-grows : goal.returns-clause-grows
returns-clause-grows c =
    rw (← c.self.view_is) (record { entries = (_, c.push_reserved-2.ensures.items); paths = ([], sym (append-nil c.self.inside.paths.items)) })
