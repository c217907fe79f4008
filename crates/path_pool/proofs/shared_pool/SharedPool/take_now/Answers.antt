use Rattle.std.proofs.Common.{◌≡◌, Ok, ap, subst, ◌∙◌}
use Rattle.path_tree.specs.declared.seat.Seat.TheVariants.{Free}
use Rattle.path_pool.specs.Calls.{doing}
use Rattle.path_pool.specs.Seats.{SeatView, HasPulled}
use Rattle.path_pool.specs.Plays.{first_calls, seat_view}
use Rattle.path_pool.proofs.Turning.{begun_may_take, pulled_is}
use Rattle.path_pool.proofs.shared_pool.SharedPool.take_now.Goals as goal

pub ask-requires : goal.ask-requires
ask-requires g c =
    let seat = c.seat.inside in
    let free : doing (first_calls seat.place.me.0.held) ≡ Free = ap (λ (v : SeatView). doing v.calls) c.seat.view_is ∙ c.requires.free in
    begun_may_take seat.number seat.place.me c.begin-bag.new.place.me c.begin-bag.result c.begin-bag.ensures.begun c.law.ensures.legal free

pub returns-in-Ok-Some : goal.returns-in-Ok-Some
returns-in-Ok-Some g c =
    let seat = c.seat.inside in
    let new = c.hand_on.new.place in
    let asked = rw c.in-Ok-Some.field-0-is at c.in-Ok-Some.ensures in
    record {
      tried = subst (λ (v : SeatView). HasPulled v (Ok c.in-Ok-Some.pulled) (seat_view new.table_id seat.number new.me)) c.seat.view_is
          (pulled_is seat.place.table_id new.table_id seat.number seat.place.me c.begin-bag.new.place.me new.me c.begin-bag.result c.ask.new.bag c.in-Ok-Some.pulled (c.hand_on.ensures.same ∙ c.begin-bag.ensures.same) c.seat.invariant c.begin-bag.ensures.begun c.hand_on.ensures.handed c.law.ensures.legal asked);
    }
