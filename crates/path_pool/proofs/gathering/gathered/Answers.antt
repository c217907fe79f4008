use Rattle.std.proofs.Common.{◌≡◌, ◌++◌, [], ◌∷◌, Some, ap, ◌∙◌, subst, arith, append_assoc}
use Rattle.std.proofs.lemmas.List.Elements.{All-pop}
use Rattle.path_pool.specs.Seats.{SeatView}
use Rattle.path_pool.specs.Plays.{Sat, HasGathered}
use Rattle.path_pool.proofs.Together.{may_join, gathers_more}
use Rattle.path_pool.proofs.gathering.gathered.Goals as goal

pub join_seat-requires : goal.join_seat-requires
join_seat-requires c =
    let i = c.seats.invariant in
    let g = i.gathered in
    let top = c.args.top.now in
    let first = c.seat.inside in
    let own = All-pop (λ (seat : SeatView). seat.pool ≡ top.table_id) c.seats.seats.items c.pop-in-seats.new.self.items (Some c.in-Some-pop.seat) c.in-Some-pop.ensures.items i.own in (
      ap (λ (seat : SeatView). seat.pool) c.seat.view_is ∙ own.1,
      i.same,
      ap (λ (m : Sat). m.1) g.3.is,
      omega arith,
      may_join top.key first.place.id c.seats.place.id first.number g.0 first.place.me c.seats.place.me c.seat.invariant g.3 g.2,
    )

pub seats-preserved : goal.seats-preserved
seats-preserved c =
    let i = c.seats.invariant in
    let g = i.gathered in
    let top = c.args.top.now in
    let first = c.seat.inside in
    let seat = c.in-Some-pop.seat in
    let own = All-pop (λ (seat : SeatView). seat.pool ≡ top.table_id) c.seats.seats.items c.pop-in-seats.new.self.items (Some seat) c.in-Some-pop.ensures.items i.own in
    record {
      same = c.join_seat.ensures.0 ∙ (ap (λ (one : SeatView). one.pool) c.seat.view_is ∙ own.1);
      own = own.0;
      gathered = (
        seat ∷ g.0,
        g.1 ∙ ap (λ xs. xs ++ g.0) c.in-Some-pop.ensures.items ∙ append_assoc c.pop-in-seats.new.self.items (seat ∷ []) g.0,
        omega arith,
        subst (λ (one : SeatView). HasGathered (one ∷ g.0) c.join_seat.new.seat.me) c.seat.view_is (gathers_more first.place.table_id first.number g.0 first.place.me c.seats.place.me c.join_seat.new.seat.me c.seat.invariant g.3 c.join_seat.ensures.2),
      );
    }
