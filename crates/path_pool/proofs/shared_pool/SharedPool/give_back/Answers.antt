use Rattle.std.proofs.Common.{◌≡◌, [], ap, subst, ◌∙◌}
use Rattle.path_tree.specs.declared.seat.Seat.TheVariants.{Holds}
use Rattle.path_tree.specs.declared.entered.PoolCall.TheVariants.{GaveBack}
use Rattle.path_pool.specs.Calls.{doing}
use Rattle.path_pool.specs.Seats.{SeatView, HasMade}
use Rattle.path_pool.specs.Plays.{first_calls, seat_view}
use Rattle.path_pool.proofs.Turning.{begun_holds, has_made}
use Rattle.path_pool.proofs.shared_pool.SharedPool.give_back.Goals as goal

pub unreachable-requires : goal.unreachable-requires
unreachable-requires g c =
    let seat = c.seat.inside in
    let held : doing (first_calls seat.place.me.0.held) ≡ Holds c.args.number = ap (λ (v : SeatView). doing v.calls) c.seat.view_is ∙ c.requires.holds in
    c.in_default.ensures.leaves.not_out (begun_holds seat.number c.args.number seat.place.me c.begin-bag.new.place.me c.begin-bag.result c.begin-bag.ensures.begun c.law.ensures.legal c.law.ensures.placed held)

pub returns-clause-made : goal.returns-clause-made
returns-clause-made g c =
    let seat = c.seat.inside in
    let new = c.hand_on.new.place in
    subst (λ (v : SeatView). HasMade v (GaveBack c.args.number) [] (seat_view new.table_id seat.number new.me)) c.seat.view_is
    (has_made seat.place.table_id new.table_id seat.number seat.place.me c.begin-bag.new.place.me new.me c.begin-bag.result c.give_back.new.self (GaveBack c.args.number) [] (c.hand_on.ensures.same ∙ c.begin-bag.ensures.same) c.seat.invariant c.begin-bag.ensures.begun c.hand_on.ensures.handed c.law.ensures.legal c.in-Ok.ensures.leaves)
