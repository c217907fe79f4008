-- What a turn leaves of a seat.
use Rattle.std.proofs.Common.{◌≡◌, ℕ, List, [], ◌∷◌, ◌++◌, length, Some, None, Ok, Err, sym, refl, ap, ◌∙◌, subst}
use Rattle.std.specs.Prelude.{slice_get}
use Rattle.std.proofs.lemmas.List.{append-nil, length-set}
use Rattle.atomic_table.specs.Seated.{TableId}
use Rattle.path_tree.specs.declared.path.Path.{Path}
use Rattle.path_tree.specs.declared.seat.Seat.TheVariants.{Free, Holds, Ended}
use Rattle.path_tree.specs.declared.entered.PoolCall.{PoolCall}
use Rattle.path_tree.specs.declared.entered.PoolCall.TheVariants.{Took, Finished, Split, Closed, GaveBack}
use Rattle.path_tree.specs.PoolMachine.{Pool, Contents, IsLegal, IsFront, moved, MayTake, ArePlaced, holder}
use Rattle.path_tree.specs.declared.refusal.SplitRefusal.{SplitRefusal}
use Rattle.path_tree.specs.declared.refusal.SplitRefusal.TheVariants as refusals
use Rattle.path_tree.specs.Bag.{Enters, HasSplit}
use Rattle.path_pool.specs.Calls.{calls_of, doing}
use Rattle.path_pool.specs.declared.pulled.Pulled.{Pulled}
use Rattle.path_pool.specs.declared.pulled.Pulled.TheVariants as pulls
use Rattle.path_pool.specs.Seats.{SeatView, HasMade, HasPulled, HasDivided}
use Rattle.path_pool.specs.Turns.{HasAsked}
use Rattle.path_pool.specs.Plays.{Sat, first_calls, resting, HasTurn, IsResting, IsBegun, IsNext, IsSeated, seat_view, rested, has_seen}
use Rattle.path_pool.proofs.Stepping.{front_further}
use Rattle.path_pool.proofs.SeatLaws.{may_take, holder_is, own_call, doing-push}

-- an event keeps as many seats
moved_seats : (pool : Pool) (seat : ℕ) (call : PoolCall) (kids : List Path) → length (moved pool seat call kids).seats ≡ length pool.seats
moved_seats pool seat (Took number) kids = length-set pool.seats seat (Holds number)
moved_seats pool seat Finished kids = length-set pool.seats seat Ended
moved_seats pool seat (Split number first count) kids = length-set pool.seats seat (Holds first)
moved_seats pool seat (Closed number) kids = length-set pool.seats seat Free
moved_seats pool seat (GaveBack number) kids = length-set pool.seats seat Ended

-- paths only come to those that there are
moved_paths : (pool : Pool) (seat : ℕ) (call : PoolCall) (kids : List Path) → (more : List Path) × ((moved pool seat call kids).paths ≡ pool.paths ++ more)
moved_paths pool seat (Took number) kids = ([], sym (append-nil pool.paths))
moved_paths pool seat Finished kids = ([], sym (append-nil pool.paths))
moved_paths pool seat (Split number first count) kids = (kids, refl)
moved_paths pool seat (Closed number) kids = ([], sym (append-nil pool.paths))
moved_paths pool seat (GaveBack number) kids = ([], sym (append-nil pool.paths))

entered_front : (before after : Contents) (number : ℕ) (call : PoolCall) (kids : List Path) → Enters before number call kids after → IsFront before after
entered_front before after number call kids enters =
    let more = moved_paths before.pool number call kids in
    record {
      entries = (record { seat = number; call = call } ∷ [], ap (λ (c : Contents). c.history) enters.change);
      paths = (more.0, ap (λ (c : Contents). c.pool.paths) enters.change ∙ more.1);
    }

-- an entry makes the next history
pub next_is : (before after : Contents) (number : ℕ) (call : PoolCall) (kids : List Path) → Enters before number call kids after → IsFront before after → IsNext before number call after
next_is before after number call kids enters front = record {
  entries = ap (λ (c : Contents). c.history) enters.change;
  front = front;
  counted = ap (λ (c : Contents). length c.pool.seats) enters.change ∙ moved_seats before.pool number call kids;
}

pub seated_rests : (number : ℕ) (m : Sat) → IsSeated number m → IsResting number m
seated_rests number m seated = record { calls = first_calls m.0.held; seen = m.0.seen; older = []; is = seated.0 }

pub begun_turn : (number : ℕ) (m n : Sat) (history : Contents) → IsBegun number m history n → HasTurn number history None n
begun_turn number m n history b = record { calls = first_calls m.0.held; seen = m.0.seen; older = m.0.older; ticket = b.ticket; is = b.is }

-- a seat that left its turn is as it was
pub left_seated : (number : ℕ) (m n o : Sat) (history : Contents) → IsSeated number m → IsBegun number m history n → o ≡ rested n → o ≡ m
left_seated number m n o history seated b left =
    left ∙ ap rested b.is ∙ ap (λ (older : List Contents). resting number (first_calls m.0.held) m.0.seen older) (ap (λ (x : Sat). x.0.older) seated.0) ∙ sym seated.0

pub left_view : (pool pool' : TableId) (number : ℕ) (m n o : Sat) (history : Contents) → pool' ≡ pool → IsSeated number m → IsBegun number m history n → o ≡ rested n → seat_view pool' number o ≡ seat_view pool number m
left_view pool pool' number m n o history same seated b left =
    ap (λ (p : TableId). seat_view p number o) same ∙ ap (λ (x : Sat). seat_view pool number x) (left_seated number m n o history seated b left)

-- a seat that handed the bag on has seen the history with its call
pub handed_is : (number : ℕ) (m n o : Sat) (before after : Contents) → IsSeated number m → IsBegun number m before n → o ≡ has_seen n after → o ≡ resting number (calls_of number after.history) after []
handed_is number m n o before after seated b handed =
    handed ∙ ap (λ (x : Sat). has_seen x after) b.is ∙ ap (λ (older : List Contents). resting number (calls_of number after.history) after older) (ap (λ (x : Sat). x.0.older) seated.0)

pub resting_seated : (number : ℕ) (o : Sat) (after : Contents) → o ≡ resting number (calls_of number after.history) after [] → IsLegal after → IsSeated number o
resting_seated number o after is legal = subst (IsSeated number) (sym is) (refl, legal, refl)

pub has_made : (pool pool' : TableId) (number : ℕ) (m n o : Sat) (before after : Contents) (call : PoolCall) (kids : List Path) → pool' ≡ pool → IsSeated number m → IsBegun number m before n → o ≡ has_seen n after → IsLegal before → Enters before number call kids after → HasMade (seat_view pool number m) call kids (seat_view pool' number o)
has_made pool pool' number m n o before after call kids same seated b handed legal enters =
    let is = handed_is number m n o before after seated b handed in
    let calls = ap (λ (x : Sat). first_calls x.0.held) is ∙ own_call number call before.history after.history (first_calls m.0.held) (ap (λ (c : Contents). c.history) enters.change) b.own in
    record {
      before = before;
      grown = b.front;
      legal = legal;
      enters = subst (λ (x : Sat). Enters before number call kids x.0.seen) (sym is) enters;
      front = subst (λ (x : Sat). IsFront m.0.seen x.0.seen) (sym is) (front_further m.0.seen before after b.front (entered_front before after number call kids enters));
      calls = calls;
      does = ap doing calls ∙ doing-push (first_calls m.0.held) call;
      pool = same;
      number = refl;
    }

pub begun_may_take : (number : ℕ) (m n : Sat) (history : Contents) → IsBegun number m history n → IsLegal history → doing (first_calls m.0.held) ≡ Free → MayTake history.pool number
begun_may_take number m n history b legal free = may_take history number (first_calls m.0.held) legal b.seat b.own free

pub begun_holds : (number path : ℕ) (m n : Sat) (history : Contents) → IsBegun number m history n → IsLegal history → ArePlaced history.pool → doing (first_calls m.0.held) ≡ Holds path → holder history.pool path ≡ Some number
begun_holds number path m n history b legal placed held = holder_is history number path (first_calls m.0.held) legal placed b.seat b.own held

-- a split that is refused wants memory, and leaves the seat as it was
pub refused_same : (old new : SeatView) (before after : Contents) (seat number : ℕ) (kids : List Path) (refusal : SplitRefusal) → HasSplit before seat number kids (Err refusal) after → holder before.pool number ≡ Some seat → new ≡ old → HasDivided old number kids (Err refusal) new
refused_same old new before after seat number kids (refusals.Memory back) left held same = (left.0, same)
refused_same old new before after seat number kids (refusals.NotYours told back) left held same = left.1.not_out held

-- what a seat gets in its turn
pub pulled_is : (pool pool' : TableId) (number : ℕ) (m n o : Sat) (before after : Contents) (pulled : Pulled) → pool' ≡ pool → IsSeated number m → IsBegun number m before n → o ≡ has_seen n after → IsLegal before → HasAsked before number (Ok (Some pulled)) after
    → HasPulled (seat_view pool number m) (Ok pulled) (seat_view pool' number o)
pulled_is pool pool' number m n o before after (pulls.Path taken path) same seated b handed legal asked =
    let is = handed_is number m n o before after seated b handed in
    let paths : o.0.seen.pool.paths ≡ before.pool.paths = ap (λ (x : Sat). x.0.seen.pool.paths) is ∙ ap (λ (c : Contents). c.pool.paths) asked.enters.change in (
      has_made pool pool' number m n o before after (Took taken) [] same seated b handed legal asked.enters,
      ap (λ (ps : List Path). slice_get ps taken) paths ∙ asked.copied,
    )
pulled_is pool pool' number m n o before after pulls.Finished same seated b handed legal asked =
    has_made pool pool' number m n o before after Finished [] same seated b handed legal asked
