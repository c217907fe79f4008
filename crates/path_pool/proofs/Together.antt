-- The seats of a pool as one, cut apart and put together.
use Rattle.std.proofs.Common.{◌≡◌, ℕ, zero, suc, ◌+◌, ◌-◌, ◌<◌, cond, eqb, ltb, List, [], ◌∷◌, ◌++◌, length, map, None, sym, refl, ap, ◌∙◌, subst, lt-ltb, arith}
use Rattle.std.specs.Prelude.{◌==◌}
use Rattle.std.specs.List.{All, count_by, range_with_len}
use Rattle.std.proofs.lemmas.List.{map-append, length-map}
use Rattle.std.proofs.lemmas.List.Elements.{All-nil, All-cons}
use Rattle.std.proofs.lemmas.List.Sums.{sum_by-cons}
use Rattle.atomic_table.specs.Seated.{TableId}
use Rattle.atomic_table.specs.Table.{Splits, Joins}
use Rattle.path_tree.specs.declared.entered.Entered.{Entered}
use Rattle.path_tree.specs.PoolMachine.{Contents, IsFront}
use Rattle.path_tree.specs.Bag.{begun}
use Rattle.path_pool.specs.Calls.{calls_of}
use Rattle.path_pool.specs.Rule.{total, told, view, fresh, AreFronts, AreCalls, is_number, IsKept}
use Rattle.path_pool.specs.Seats.{SeatView, first_view}
use Rattle.path_pool.specs.Plays.{Sat, first_calls, resting, kept_part, given_part, joined, spent, IsSeated, seat_view, told_of, HasGathered}
use Rattle.path_pool.specs.declared.view.Told.{Told}
use Rattle.path_pool.specs.declared.view.View.{View}
use Rattle.path_pool.proofs.Totals.{mark}
use Rattle.path_pool.proofs.Joining.{cuts, joins, fronts_left, fronts_right}

more_parts : (seats number : ℕ) → number < seats → seats - number ≡ suc (seats - (number + 1))
more_parts seats number below = omega arith

others : (seats number : ℕ) → List Told
others seats number = map (λ n. told n []) (range_with_len (number + 1) (seats - (number + 1)))

first_apart : (seats number : ℕ) → number < seats → fresh seats (range_with_len number (seats - number)) ≡ view (told number [] ∷ others seats number) (begun seats) [] None None
unfolding others
first_apart seats number below = ap (λ k. fresh seats (range_with_len number k)) (more_parts seats number below)

-- what the seat with the calls of these numbers keeps and gives
pub keeps_first : (seats number : ℕ) → number < seats → kept_part (fresh seats (range_with_len number (seats - number))) ≡ (resting number [] (begun seats) []).0
keeps_first seats number below = ap kept_part (first_apart seats number below)

pub gives_others : (seats number : ℕ) → number < seats → given_part (fresh seats (range_with_len number (seats - number))) ≡ fresh seats (range_with_len (number + 1) (seats - (number + 1)))
unfolding others
gives_others seats number below = ap given_part (first_apart seats number below)

pub may_cut : (key seats id number : ℕ) (v : View) → number < seats → v ≡ fresh seats (range_with_len number (seats - number)) → Splits (IsKept key) id v (kept_part v) (given_part v)
may_cut key seats id number v below is =
    subst (λ (x : View). Splits (IsKept key) id x (kept_part x) (given_part x)) (sym (is ∙ first_apart seats number below)) (cuts key id (told number []) (others seats number) (begun seats) [])

pub last_fresh : (seats number : ℕ) (v : View) → number + 1 ≡ seats → v ≡ fresh seats (range_with_len number (seats - number)) → v ≡ (resting number [] (begun seats) []).0
last_fresh seats number v last is =
    let one : seats - number ≡ suc zero = omega (arith, last) in
    is ∙ ap (λ k. fresh seats (range_with_len number k)) one

range_push : (a k : ℕ) → range_with_len a (suc k) ≡ range_with_len a k ++ (a + k) ∷ []
range_push a zero = let same : a + 0 ≡ a = omega arith in ap (λ n. n ∷ []) (sym same)
range_push a (suc k) =
    let next : a + 1 + k ≡ a + suc k = omega arith in
    ap (λ xs. a ∷ xs) (range_push (a + 1) k ∙ ap (λ m. range_with_len (a + 1) k ++ m ∷ []) next)

-- one seat more
pub views_push : (pool : TableId) (seats number : ℕ) → map (first_view pool seats) (range_with_len 0 number) ++ first_view pool seats number ∷ [] ≡ map (first_view pool seats) (range_with_len 0 (number + 1))
views_push pool seats number =
    let next : number + 1 ≡ suc number = omega arith in
    let same : 0 + number ≡ number = omega arith in
    sym (ap (λ k. map (first_view pool seats) (range_with_len 0 k)) next
    ∙ ap (map (first_view pool seats)) (range_push 0 number)
    ∙ map-append (first_view pool seats) (range_with_len 0 number) ((0 + number) ∷ [])
    ∙ ap (λ n. map (first_view pool seats) (range_with_len 0 number) ++ first_view pool seats n ∷ []) same)

-- one seat alone
pub gathers_one : (pool : TableId) (number : ℕ) (m : Sat) → IsSeated number m → HasGathered (seat_view pool number m ∷ []) m
gathers_one pool number m seated = record {
  is = seated.0 ∙ ap (λ (older : List Contents). resting number (first_calls m.0.held) m.0.seen older) (sym (ap (λ (x : Sat). x.0.older) seated.0));
  pasts = λ history all. All-cons (λ (seat : SeatView). IsFront seat.seen history) (seat_view pool number m) [] all.0 (All-nil (λ (seat : SeatView). IsFront seat.seen history));
}

-- one seat more
pub gathers_more : (pool : TableId) (number : ℕ) (rest : List SeatView) (m n o : Sat) → IsSeated number m → HasGathered rest n → o ≡ (joined m.0 n.0, m.1) → HasGathered (seat_view pool number m ∷ rest) o
gathers_more pool number rest m n o seated g join =
    let seat = seat_view pool number m in
    let all = map told_of (seat ∷ rest) in
    let held : m.0.held ++ n.0.held ≡ all = ap (λ (xs : List Told). xs ++ n.0.held) (ap (λ (x : Sat). x.0.held) seated.0) ∙ ap (λ (xs : List Told). told_of seat ∷ xs) (ap (λ (x : Sat). x.0.held) g.is) in
    let both = joined m.0 n.0 in
    record {
      is = join
          ∙ ap (λ (xs : List Told). (view xs both.seen both.older None None, m.1)) held
          ∙ ap (λ slots. (view all both.seen both.older None None, slots)) (ap (λ (x : Sat). x.1) seated.0)
          ∙ ap (λ (x : Sat). (view all x.0.seen x.0.older None None, [])) (sym join);
      pasts = λ history fronts.
          let parts = (subst (λ (x : Sat). AreFronts (x.0.seen ∷ x.0.older) history) join fronts).1 in
          let last = fronts_right (m.0.older ++ n.0.older) (m.0.seen ∷ n.0.seen ∷ []) history parts in
          let older = fronts_right m.0.older n.0.older history (fronts_left (m.0.older ++ n.0.older) (m.0.seen ∷ n.0.seen ∷ []) history parts) in
          All-cons (λ (one : SeatView). IsFront one.seen history) seat rest last.0 (g.pasts history (last.1.0, older));
    }

pub may_join : (key id other number : ℕ) (rest : List SeatView) (m n : Sat) → IsSeated number m → HasGathered rest n → 0 < length rest → Joins (IsKept key) id m.0 other n.0 (joined m.0 n.0) spent
may_join key id other number rest m n seated g live =
    let v = (resting number (first_calls m.0.held) m.0.seen []).0 in
    let w = view (map told_of rest) n.0.seen n.0.older None None in
    let long : 0 < length (map told_of rest) = omega (arith, live, length-map rest told_of) in
    subst (λ (x : View). Joins (IsKept key) id x other n.0 (joined x n.0) spent) (sym (ap (λ (x : Sat). x.0) seated.0))
    (subst (λ (y : View). Joins (IsKept key) id v other y (joined v y) spent) (sym (ap (λ (x : Sat). x.0) g.is))
    (joins key id other (told number (first_calls m.0.held) ∷ []) m.0.seen [] (map told_of rest) n.0.seen n.0.older (omega arith) long))

-- the calls of each seat that was gathered
pub own_calls : (seats : List SeatView) (entries : List Entered) → AreCalls (map told_of seats) entries → All (λ (seat : SeatView). calls_of seat.number entries ≡ seat.calls) seats
own_calls [] entries calls = All-nil (λ (seat : SeatView). calls_of seat.number entries ≡ seat.calls)
own_calls (one ∷ seats) entries calls = All-cons (λ (seat : SeatView). calls_of seat.number entries ≡ seat.calls) one seats calls.0 (own_calls seats entries calls.1)

count_held : (number : ℕ) (seats : List SeatView) → count_by (λ (seat : SeatView). seat.number == number) seats ≡ total (is_number number) (map told_of seats)
count_held number [] = refl
count_held number (one ∷ seats) = omega (arith, sum_by-cons (λ (seat : SeatView). cond (eqb seat.number number) 1 0) one seats, count_held number seats)

pub once_each : (number most : ℕ) (seats : List SeatView) → number < most → total (is_number number) (map told_of seats) ≡ mark (ltb number most) → count_by (λ (seat : SeatView). seat.number == number) seats ≡ 1
once_each number most seats below all = count_held number seats ∙ all ∙ ap mark (lt-ltb number most below)
