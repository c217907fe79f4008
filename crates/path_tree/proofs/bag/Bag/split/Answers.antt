use Rattle.std.proofs.Common.{◌≡◌, ◌-◌, ◌∷◌, [], ◌++◌, length, Some, ap, ◌∙◌, arith, rules}
use Rattle.path_tree.specs.declared.entered.PoolCall.TheVariants.{Split}
use Rattle.path_tree.specs.PoolMachine.{holder}
use Rattle.path_tree.specs.Bag.{contents}
use Rattle.path_tree.proofs.RoomLaws.{kept-split}
use Rattle.path_tree.proofs.bag.Bag.split.Goals as goal

pub invariant_of-self-2 : goal.invariant_of-self-2
invariant_of-self-2 c =
    let b = c.self.inside in
    let before = contents b.history.items b.paths.items b.waiting.items b.seats.items b.done.items in
    let out : holder before.pool c.args.number ≡ Some c.args.seat = search rules in
    let first : c.len-paths.result ≡ length b.paths.items = omega (arith, c.len-paths.ensures, b.paths.ok.0) in
    let count : c.len-end.result - c.len-paths.result ≡ length c.args.kids.items = omega (arith, c.len-end.ensures, c.in_default-append.ensures.len, c.len-paths.ensures, c.args.kids.ok.0) in
    let call = Split c.args.number c.len-paths.result (c.len-end.result - c.len-paths.result) in
    let room = c.in_default.ensures in
    kept-split before c.args.seat c.args.number c.len-paths.result c.len-end.result c.args.kids.items _ _ _ _ _ _ _
    (out, omega (arith, c.requires, c.args.kids.ok.0), count, first)
    (c.push_reserved-2.ensures.items ∙ ap (λ entries. entries ++ record { seat = c.args.seat; call = call } ∷ []) room.history)
    c.in_default-append.ensures.items
    (rw room.waiting at c.push_numbers.ensures.items)
    (c.push_reserved.ensures.items ∙ ap (λ done. done ++ c.args.number ∷ []) room.done)
    c.self.invariant.0
    (omega (arith, room.for_history, c.push_reserved-2.ensures.capacity, b.history.ok.0, b.waiting.ok.0, b.seats.ok.0, c.len-seats.ensures, c.len-count.ensures, c.args.kids.ok.0))
    (omega (arith, room.for_waiting, c.push_numbers.ensures.capacity, b.paths.ok.0, c.len-paths.ensures, c.len-count.ensures, c.args.kids.ok.0))
    (omega (arith, room.for_done, c.push_reserved.ensures.capacity, b.paths.ok.0, c.len-paths.ensures, c.len-count.ensures, c.args.kids.ok.0))

pub returns-clause-grows : goal.returns-clause-grows
returns-clause-grows c =
    let call = Split c.args.number c.len-paths.result (c.len-end.result - c.len-paths.result) in
    rw (← c.self.view_is) (record {
      entries = (_, c.push_reserved-2.ensures.items ∙ ap (λ entries. entries ++ record { seat = c.args.seat; call = call } ∷ []) c.in_default.ensures.history);
      paths = (c.args.kids.items, c.in_default-append.ensures.items);
    })
