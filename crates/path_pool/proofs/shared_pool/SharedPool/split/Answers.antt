use Rattle.std.proofs.Common.{◌≡◌, length, ap, subst, ◌∙◌}
use Rattle.path_tree.specs.declared.seat.Seat.TheVariants.{Holds}
use Rattle.path_tree.specs.declared.entered.PoolCall.TheVariants.{Split}
use Rattle.path_pool.specs.Calls.{doing}
use Rattle.path_pool.specs.Seats.{SeatView, HasMade}
use Rattle.path_pool.specs.Plays.{first_calls, seat_view}
use Rattle.path_pool.proofs.Turning.{begun_holds, has_made, left_view, refused_same}
use Rattle.path_pool.proofs.shared_pool.SharedPool.split.Goals as goal

pub returns-in-Ok : goal.returns-in-Ok
returns-in-Ok g c =
    let seat = c.seat.inside in
    let new = c.hand_on.new.place in
    let kids = c.args.kids.items in
    let call = Split c.args.number c.in-Ok.first (length kids) in
    record {
      divided = subst (λ (v : SeatView). HasMade v call kids (seat_view new.table_id seat.number new.me)) c.seat.view_is
          (has_made seat.place.table_id new.table_id seat.number seat.place.me c.begin-bag.new.place.me new.me c.begin-bag.result c.split.new.self call kids (c.hand_on.ensures.same ∙ c.begin-bag.ensures.same) c.seat.invariant c.begin-bag.ensures.begun c.hand_on.ensures.handed c.law.ensures.legal c.in-Ok.ensures.leaves);
    }

pub returns-in-Err : goal.returns-in-Err
returns-in-Err g c =
    let seat = c.seat.inside in
    let new = c.leave.new.place in
    let held : doing (first_calls seat.place.me.0.held) ≡ Holds c.args.number = ap (λ (v : SeatView). doing v.calls) c.seat.view_is ∙ c.requires.holds in
    let out = begun_holds seat.number c.args.number seat.place.me c.begin-bag.new.place.me c.begin-bag.result c.begin-bag.ensures.begun c.law.ensures.legal c.law.ensures.placed held in
    let same = left_view seat.place.table_id new.table_id seat.number seat.place.me c.begin-bag.new.place.me new.me c.begin-bag.result (c.leave.ensures.same ∙ c.begin-bag.ensures.same) c.seat.invariant c.begin-bag.ensures.begun c.leave.ensures.left in
    record {
      divided = refused_same c.args.seat.now (seat_view new.table_id seat.number new.me) c.begin-bag.result c.split.new.self seat.number c.args.number c.args.kids.items c.in-Err.refusal c.in-Err.ensures.leaves out (same ∙ c.seat.view_is);
    }
