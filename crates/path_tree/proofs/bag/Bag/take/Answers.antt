use Rattle.std.proofs.Common.{◌≡◌, [], sym, refl, subst, ap, ◌∙◌, arith, rules}
use Rattle.std.proofs.lemmas.List.{append-nil}
use Rattle.std.proofs.lemmas.Option.{slice_get_within}
use Rattle.path_tree.specs.declared.seat.Seat.TheVariants.{Free}
use Rattle.path_tree.specs.PoolMachine.{Contents, MayTake, out_count}
use Rattle.path_tree.specs.Bag.{contents, reply}
use Rattle.path_tree.proofs.ListLaws.{last_of, none_left}
use Rattle.path_tree.proofs.RoomLaws.{room-free, kept-took, kept-finished}
use Rattle.path_tree.proofs.bag.Bag.take.Goals as goal

pub invariant_of-self : goal.invariant_of-self
invariant_of-self c =
    let b = c.self.inside in
    let before = contents b.history.items b.paths.items b.waiting.items b.seats.items b.done.items in
    let free : MayTake before.pool c.args.seat = subst (λ (x : Contents). MayTake x.pool c.args.seat) (sym c.self.view_is) c.requires in
    let last = last_of b.waiting.items c.pop.new.self.items c.in-Some.number c.in-Some.ensures.items in
    rw (c.push_reserved.ensures.items, last.1, c.push_reserved.ensures.capacity, c.pop.ensures.capacity) (kept-took before c.args.seat c.in-Some.number _ _ _ (free, last.0) c.self.invariant.0 c.self.invariant.1)

pub index_mut-requires-in-None : goal.index_mut-requires-in-None
index_mut-requires-in-None c =
    let b = c.self.inside in
    let before = contents b.history.items b.paths.items b.waiting.items b.seats.items b.done.items in
    let free : MayTake before.pool c.args.seat = subst (λ (x : Contents). MayTake x.pool c.args.seat) (sym c.self.view_is) c.requires in
    omega (arith, slice_get_within b.seats.items c.args.seat Free free, b.seats.ok.0)

pub push_reserved-requires-in-None : goal.push_reserved-requires-in-None
push_reserved-requires-in-None c =
    let b = c.self.inside in
    let before = contents b.history.items b.paths.items b.waiting.items b.seats.items b.done.items in
    let free : MayTake before.pool c.args.seat = subst (λ (x : Contents). MayTake x.pool c.args.seat) (sym c.self.view_is) c.requires in
    omega (arith, room-free before c.args.seat _ _ _ free c.self.invariant.1, b.history.ok.0)

pub invariant_of-self-in-None : goal.invariant_of-self-in-None
invariant_of-self-in-None c =
    let b = c.self.inside in
    let before = contents b.history.items b.paths.items b.waiting.items b.seats.items b.done.items in
    let free : MayTake before.pool c.args.seat = subst (λ (x : Contents). MayTake x.pool c.args.seat) (sym c.self.view_is) c.requires in
    let same : c.pop.new.self.items ≡ b.waiting.items = sym (c.in-None.ensures.items ∙ append-nil c.pop.new.self.items) in
    let nothing = none_left b.waiting.items (omega (arith, c.in-None.ensures.cases.0, b.waiting.ok.0)) in
    let none_out : out_count before.pool ≡ 0 = search rules in
    rw (c.push_reserved-in-None.ensures.items, same, c.push_reserved-in-None.ensures.capacity, c.pop.ensures.capacity) (kept-finished before c.args.seat _ _ _ (free, nothing, none_out) c.self.invariant.0 c.self.invariant.1)

pub returns-in-Some-clause-reply : goal.returns-in-Some-clause-reply
returns-in-Some-clause-reply c =
    let b = c.self.inside in
    let last = last_of b.waiting.items c.pop.new.self.items c.in-Some.number c.in-Some.ensures.items in
    rw (← c.self.view_is) (ap (λ o. reply o (out_count (contents b.history.items b.paths.items b.waiting.items b.seats.items b.done.items).pool)) (sym last.0))

pub returns-in-Some-clause-leaves : goal.returns-in-Some-clause-leaves
returns-in-Some-clause-leaves c =
    let b = c.self.inside in
    let before = contents b.history.items b.paths.items b.waiting.items b.seats.items b.done.items in
    let free : MayTake before.pool c.args.seat = subst (λ (x : Contents). MayTake x.pool c.args.seat) (sym c.self.view_is) c.requires in
    let last = last_of b.waiting.items c.pop.new.self.items c.in-Some.number c.in-Some.ensures.items in
    rw (← c.self.view_is) (record {
      needs = (free, last.0);
      change = rw (c.push_reserved.ensures.items, last.1) refl;
    })

pub returns-else-out-gt0-clause-grows : goal.returns-else-out-gt0-clause-grows
returns-else-out-gt0-clause-grows c =
    rw (← c.self.view_is) (record { entries = (_, c.push_reserved-in-None.ensures.items); paths = ([], sym (append-nil c.self.inside.paths.items)) })
