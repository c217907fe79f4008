use Rattle.std.proofs.Common.{◌≡◌, ◌+◌, ◌-◌, List, [], ◌∷◌, ◌++◌, length, map, ap, ◌∙◌, arith}
use Rattle.std.specs.List.{range_with_len}
use Rattle.std.proofs.lemmas.List.{length-map}
use Rattle.std.proofs.lemmas.List.FromFn.{length-range_with_len}
use Rattle.atomic_table.specs.Seated.{TableId}
use Rattle.path_pool.specs.declared.view.View.{View}
use Rattle.path_pool.specs.Seats.{SeatView, first_view}
use Rattle.path_pool.specs.Plays.{Sat, given_part}
use Rattle.path_pool.proofs.Together.{may_cut, gives_others, views_push}
use Rattle.path_pool.proofs.gathering.seated.Goals as goal

pub split_seat-rest-requires : goal.split_seat-rest-requires
split_seat-rest-requires c =
    let i = c.loop-number.invariant in
    (i.same, omega arith, may_cut c.args.top.now.key c.args.seats c.loop-number.place.id c.loop-number.number c.loop-number.place.me.0 i.below (ap (λ (m : Sat). m.0) i.me))

pub push_reserved-requires : goal.push_reserved-requires
push_reserved-requires c =
    let i = c.loop-number.invariant in
    omega (arith, i.room, i.below, ap length i.made, length-map (range_with_len 0 c.loop-number.number) (first_view c.args.top.now.table_id c.args.seats), length-range_with_len 0 c.loop-number.number)

pub push_reserved-requires-2 : goal.push_reserved-requires-2
push_reserved-requires-2 c =
    let i = c.loop-number.invariant in
    omega (arith, i.room, i.below, ap length i.made, length-map (range_with_len 0 c.loop-number.number) (first_view c.args.top.now.table_id c.args.seats), length-range_with_len 0 c.loop-number.number)

pub loop-number-preserved : goal.loop-number-preserved
loop-number-preserved c =
    let i = c.loop-number.invariant in
    let number = c.loop-number.number in
    let split = c.split_seat-rest.ensures in
    record {
      same = split.3 ∙ i.same;
      me = split.4 ∙ ap (λ (v : View). (v, [])) (ap given_part (ap (λ (m : Sat). m.0) i.me) ∙ gives_others c.args.seats number i.below);
      made = c.push_reserved.ensures.items
          ∙ ap (λ (xs : List SeatView). xs ++ c.seat_of.result ∷ []) i.made
          ∙ ap (λ (seat : SeatView). map (first_view c.args.top.now.table_id c.args.seats) (range_with_len 0 number) ++ seat ∷ []) (c.seat_of.ensures ∙ ap (λ (id : TableId). first_view id c.args.seats number) (split.0 ∙ i.same))
          ∙ views_push c.args.top.now.table_id c.args.seats number;
      room = omega (arith, i.room, c.push_reserved.ensures.capacity);
      below = omega arith;
    }

pub returns : goal.returns
returns c =
    let i = c.loop-number.invariant in
    let number = c.loop-number.number in
    let all : number + 1 ≡ c.args.seats = omega (arith, i.below, c.loop-number-test.false) in
    let last : c.args.seats - 1 ≡ number = omega arith in
    let pool = c.args.top.now.table_id in
    c.push_reserved-2.ensures.items
    ∙ ap (λ (xs : List SeatView). xs ++ c.seat_of-2.result ∷ []) i.made
    ∙ ap (λ (seat : SeatView). map (first_view pool c.args.seats) (range_with_len 0 number) ++ seat ∷ []) (c.seat_of-2.ensures ∙ ap (λ (id : TableId). first_view id c.args.seats (c.args.seats - 1)) i.same ∙ ap (first_view pool c.args.seats) last)
    ∙ views_push pool c.args.seats number
    ∙ ap (λ n. map (first_view pool c.args.seats) (range_with_len 0 n)) all
