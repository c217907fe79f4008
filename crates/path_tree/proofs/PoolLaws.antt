-- Each event leads from a sound pool to a sound one.
use Rattle.std.proofs.Common.{◌≡◌, ℕ, ◌<◌, ◌+◌, ◌-◌, true, cond, eqb, ltb, List, [], ◌∷◌, ◌++◌, length, get_or, take, Some, refl, sym, ◌∙◌, ap, subst, arith}
use Rattle.std.specs.Prelude.{slice_get, ◌==◌}
use Rattle.std.specs.List.{count_by, range_with_len}
use Rattle.std.proofs.lemmas.Bool.Decides.{nat_tests}
use Rattle.std.proofs.lemmas.Bool.{eqb-true}
use Rattle.std.proofs.lemmas.List.{length-set, length-append, length-take}
use Rattle.std.proofs.lemmas.List.FromFn.{length-range_with_len}
use Rattle.std.proofs.lemmas.List.Sums.{sum_by-append, sum_by_push}
use Rattle.std.proofs.lemmas.List.Quantifiers.{position-Some}
use Rattle.std.proofs.lemmas.Option.{slice_get_within, slice_get-get_or}
use Rattle.path_tree.specs.declared.path.Path.{Path}
use Rattle.path_tree.specs.declared.seat.Seat.{Seat}
use Rattle.path_tree.specs.declared.seat.Seat.TheVariants.{Free, Holds, Ended}
use Rattle.path_tree.specs.declared.entered.PoolCall.{PoolCall}
use Rattle.path_tree.specs.declared.entered.PoolCall.TheVariants.{Took, Finished, Split, Closed, GaveBack}
use Rattle.path_tree.specs.declared.entered.Entered.{Entered}
use Rattle.path_tree.specs.PoolMachine.{Contents, Pool, is_holding, holds, holder, out_count, Needs, moved, Steps, Leads, ArePlaced}
use Rattle.path_tree.specs.Bag.{with_entry, IsSound}
use Rattle.path_tree.proofs.ListLaws.{sum_by-put, last_apart, count_by-range}

-- one entry more at the end
pub Leads-push : (first : Pool) (entries : List Entered) (middle : Pool) (entry : Entered) (last : Pool) → Leads first entries middle → Steps middle entry last → Leads first (entries ++ entry ∷ []) last
Leads-push first [] middle entry last leads step = (last, subst (λ p. Steps p entry last) (sym leads) step, refl)
Leads-push first (e ∷ entries) middle entry last leads step =
    (leads.0, leads.1, Leads-push leads.0 entries middle entry last leads.2 step)

holds_it : (number : ℕ) (seat : Seat) → holds number seat ≡ true → seat ≡ Holds number
holds_it number Free e = cc
holds_it number (Holds held) e = ap Holds (eqb-true held number e)
holds_it number Ended e = cc

-- the seat to which a path is out holds it
pub holder-holds : (pool : Pool) (number seat : ℕ) → holder pool number ≡ Some seat → slice_get pool.seats seat ≡ Some (Holds number)
holder-holds pool number seat e =
    let at = position-Some (holds number) pool.seats seat Free e in
    slice_get-get_or pool.seats seat Free at.0 ∙ ap Some (holds_it number (get_or pool.seats seat Free) at.1)

-- 1 where the number is this one
abbrev one : ℕ → ℕ → ℕ
one m n = cond (eqb m n) 1 0

-- an event keeps as many seats
moved-seats : (pool : Pool) (seat : ℕ) (call : PoolCall) (kids : List Path) → length (moved pool seat call kids).seats ≡ length pool.seats
moved-seats pool seat (Took number) kids = length-set pool.seats seat (Holds number)
moved-seats pool seat Finished kids = length-set pool.seats seat Ended
moved-seats pool seat (Split number first count) kids = length-set pool.seats seat (Holds first)
moved-seats pool seat (Closed number) kids = length-set pool.seats seat Free
moved-seats pool seat (GaveBack number) kids = length-set pool.seats seat Ended

-- the numbers below the new end are those below the old one, the first new one, and the others
split-range : (n first count paths all range : ℕ) → 0 < count → first ≡ paths → all ≡ paths + count → range + cond (ltb n (first + 1)) 1 0 ≡ cond (ltb n (first + 1 + (count - 1))) 1 0 → cond (ltb n all) 1 0 ≡ cond (ltb n paths) 1 0 + one first n + range
split-range n first count paths all range h e f g = grind (arith, nat_tests)

-- each number stands in one place after an event
moved-placed : (pool : Pool) (seat : ℕ) (call : PoolCall) (kids : List Path) → Needs pool seat call kids → ArePlaced pool → ArePlaced (moved pool seat call kids)
moved-placed pool seat (Took number) kids needs placed = λ n.
    let held = sum_by-put (λ s. cond (holds n s) 1 0) pool.seats seat Free (Holds number) needs.0 in
    let front = take (length pool.waiting - 1) pool.waiting in
    let apart = ap (count_by (λ m. m == n)) (last_apart pool.waiting number needs.1) in
    let more = sum_by_push (λ m. cond (eqb m n) 1 0) front number in
    let here = placed n in
    omega arith
moved-placed pool seat Finished kids needs placed = λ n.
    let held = sum_by-put (λ s. cond (holds n s) 1 0) pool.seats seat Free Ended needs.0 in
    let here = placed n in
    omega arith
moved-placed pool seat (Split number first count) kids needs placed = λ n.
    let held = sum_by-put (λ s. cond (holds n s) 1 0) pool.seats seat (Holds number) (Holds first) (holder-holds pool number seat needs.0) in
    let more = sum_by_push (λ m. cond (eqb m n) 1 0) pool.done number in
    let others = sum_by-append (λ m. cond (eqb m n) 1 0) pool.waiting (range_with_len (first + 1) (count - 1)) in
    let range = count_by-range n (first + 1) (count - 1) in
    let all = length-append pool.paths kids in
    let here = placed n in
    let ends = split-range n first count (length pool.paths) (length (pool.paths ++ kids)) (count_by (λ m. m == n) (range_with_len (first + 1) (count - 1))) needs.1 needs.3 (omega (arith, needs.2)) range in
    omega arith
moved-placed pool seat (Closed number) kids needs placed = λ n.
    let held = sum_by-put (λ s. cond (holds n s) 1 0) pool.seats seat (Holds number) Free (holder-holds pool number seat needs) in
    let more = sum_by_push (λ m. cond (eqb m n) 1 0) pool.done number in
    let here = placed n in
    omega arith
moved-placed pool seat (GaveBack number) kids needs placed = λ n.
    let held = sum_by-put (λ s. cond (holds n s) 1 0) pool.seats seat (Holds number) Ended (holder-holds pool number seat needs) in
    let more = sum_by_push (λ m. cond (eqb m n) 1 0) pool.waiting number in
    let here = placed n in
    omega arith

abbrev Adds : Pool → Type 0
Adds pool = length pool.waiting + out_count pool + length pool.done ≡ length pool.paths

-- as many numbers stand somewhere as there are paths
moved-counted : (pool : Pool) (seat : ℕ) (call : PoolCall) (kids : List Path) → Needs pool seat call kids → Adds pool → Adds (moved pool seat call kids)
moved-counted pool seat (Took number) kids needs counted =
    let out = sum_by-put (λ s. cond (is_holding s) 1 0) pool.seats seat Free (Holds number) needs.0 in
    let within = slice_get_within pool.waiting (length pool.waiting - 1) number needs.1 in
    let front = length-take (length pool.waiting - 1) pool.waiting in
    omega arith
moved-counted pool seat Finished kids needs counted =
    let out = sum_by-put (λ s. cond (is_holding s) 1 0) pool.seats seat Free Ended needs.0 in
    omega arith
moved-counted pool seat (Split number first count) kids needs counted =
    let out = sum_by-put (λ s. cond (is_holding s) 1 0) pool.seats seat (Holds number) (Holds first) (holder-holds pool number seat needs.0) in
    let numbers = length-append pool.waiting (range_with_len (first + 1) (count - 1)) in
    let range = length-range_with_len (first + 1) (count - 1) in
    let done = length-append pool.done (number ∷ []) in
    let paths = length-append pool.paths kids in
    omega (arith, needs.1, needs.2)
moved-counted pool seat (Closed number) kids needs counted =
    let out = sum_by-put (λ s. cond (is_holding s) 1 0) pool.seats seat (Holds number) Free (holder-holds pool number seat needs) in
    let done = length-append pool.done (number ∷ []) in
    omega arith
moved-counted pool seat (GaveBack number) kids needs counted =
    let out = sum_by-put (λ s. cond (is_holding s) 1 0) pool.seats seat (Holds number) Ended (holder-holds pool number seat needs) in
    let numbers = length-append pool.waiting (number ∷ []) in
    omega arith

-- an event leads from a sound pool to a sound one
pub sound-entry : (before : Contents) (seat : ℕ) (call : PoolCall) (kids : List Path) → Needs before.pool seat call kids → IsSound before → IsSound (with_entry before seat call kids)
sound-entry before seat call kids needs sound =
    let seats = moved-seats before.pool seat call kids in
    let step : Steps before.pool (record { seat = seat; call = call }) (moved before.pool seat call kids) = record { kids = kids; needs = needs; change = refl } in
    record {
      legal = rw seats (Leads-push _ before.history before.pool (record { seat = seat; call = call }) (moved before.pool seat call kids) sound.legal step);
      placed = moved-placed before.pool seat call kids needs sound.placed;
      counted = moved-counted before.pool seat call kids needs sound.counted;
      few_seats = rw seats sound.few_seats;
    }
