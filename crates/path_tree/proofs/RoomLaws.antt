-- How many entries may follow an event.
use Rattle.std.proofs.Common.{◌≡◌, ℕ, ◌<◌, ◌≤◌, ◌+◌, ◌-◌, ◌*◌, cond, List, [], ◌∷◌, ◌++◌, length, set, Some, refl, arith}
use Rattle.std.specs.List.{sum_by, range_with_len}
use Rattle.std.proofs.lemmas.List.{length-set, length-append, length-take}
use Rattle.std.proofs.lemmas.List.FromFn.{length-range_with_len}
use Rattle.std.proofs.lemmas.List.Sums.{sum_by-cons, get_or-le-sum_by}
use Rattle.std.proofs.lemmas.Option.{slice_get_within, get_or_from_slice_get}
use Rattle.path_tree.specs.declared.path.Path.{Path}
use Rattle.path_tree.specs.declared.seat.Seat.{Seat}
use Rattle.path_tree.specs.declared.seat.Seat.TheVariants.{Free, Holds, Ended}
use Rattle.path_tree.specs.declared.entered.PoolCall.{PoolCall}
use Rattle.path_tree.specs.declared.entered.PoolCall.TheVariants.{Took, Finished, Split, Closed, GaveBack}
use Rattle.path_tree.specs.declared.entered.Entered.{Entered}
use Rattle.path_tree.specs.PoolMachine.{Contents, Pool, is_holding, holder, out_count, MayTake, Needs, moved}
use Rattle.path_tree.specs.Bag.{contents, with_entry, entries_of, most_entries, IsSound, HasRoom}
use Rattle.path_tree.proofs.ListLaws.{sum_by-put}
use Rattle.path_tree.proofs.PoolLaws.{holder-holds, sound-entry}

pub took-entries : (pool : Pool) (seat number : ℕ) → Needs pool seat (Took number) [] → most_entries (moved pool seat (Took number) []) + 1 ≤ most_entries pool
took-entries pool seat number needs =
    let own = sum_by-put entries_of pool.seats seat Free (Holds number) needs.0 in
    let within = slice_get_within pool.waiting (length pool.waiting - 1) number needs.1 in
    let front = length-take (length pool.waiting - 1) pool.waiting in
    omega arith

pub finished-entries : (pool : Pool) (seat : ℕ) → Needs pool seat Finished [] → most_entries (moved pool seat Finished []) + 1 ≤ most_entries pool
finished-entries pool seat needs =
    let own = sum_by-put entries_of pool.seats seat Free Ended needs.0 in
    omega arith

pub closed-entries : (pool : Pool) (seat number : ℕ) → Needs pool seat (Closed number) [] → most_entries (moved pool seat (Closed number) []) + 1 ≤ most_entries pool
closed-entries pool seat number needs =
    let own = sum_by-put entries_of pool.seats seat (Holds number) Free (holder-holds pool number seat needs) in
    omega arith

pub gave_back-entries : (pool : Pool) (seat number : ℕ) → Needs pool seat (GaveBack number) [] → most_entries (moved pool seat (GaveBack number) []) + 1 ≤ most_entries pool
gave_back-entries pool seat number needs =
    let own = sum_by-put entries_of pool.seats seat (Holds number) Ended (holder-holds pool number seat needs) in
    let numbers = length-append pool.waiting (number ∷ []) in
    omega arith

at_most_three : (seat : Seat) → entries_of seat ≤ 3
at_most_three Free = omega arith
at_most_three (Holds number) = omega arith
at_most_three Ended = omega arith

-- the seats make at most three entries each
pub seats-entries : (seats : List Seat) → sum_by entries_of seats ≤ 3 * length seats
seats-entries [] = omega arith
seats-entries (seat ∷ seats) =
    let rest = seats-entries seats in
    let first = sum_by-cons entries_of seat seats in
    omega (arith, at_most_three seat)

-- where a seat holds a path, some are out
pub some_out : (pool : Pool) (seat number : ℕ) → holder pool number ≡ Some seat → 1 ≤ out_count pool
some_out pool seat number e =
    let held = holder-holds pool number seat e in
    let within = slice_get_within pool.seats seat (Holds number) held in
    rw (get_or_from_slice_get pool.seats seat (Holds number) (Holds number) held) at (get_or-le-sum_by (λ s. cond (is_holding s) 1 0) pool.seats seat (Holds number) within)

-- the bag stays sound, and there is still room, after an event that adds no path
kept : (before : Contents) (seat : ℕ) (call : PoolCall) (history waiting done : ℕ) → Needs before.pool seat call [] → most_entries (moved before.pool seat call []) + 1 ≤ most_entries before.pool → (moved before.pool seat call []).paths ≡ before.pool.paths → IsSound before → HasRoom before history waiting done → IsSound (with_entry before seat call []) × HasRoom (with_entry before seat call []) history waiting done
kept before seat call history waiting done needs fewer same sound room =
    let more = length-append before.history (record { seat = seat; call = call } ∷ []) in (
      sound-entry before seat call [] needs sound,
      record {
        for_history = omega (arith, room.for_history);
        for_waiting = rw same room.for_waiting;
        for_done = rw same room.for_done;
      },
    )

pub kept-took : (before : Contents) (seat number : ℕ) (history waiting done : ℕ) → Needs before.pool seat (Took number) [] → IsSound before → HasRoom before history waiting done → IsSound (with_entry before seat (Took number) []) × HasRoom (with_entry before seat (Took number) []) history waiting done
kept-took before seat number history waiting done needs sound room =
    kept before seat (Took number) history waiting done needs (took-entries before.pool seat number needs) refl sound room

pub kept-finished : (before : Contents) (seat : ℕ) (history waiting done : ℕ) → Needs before.pool seat Finished [] → IsSound before → HasRoom before history waiting done → IsSound (with_entry before seat Finished []) × HasRoom (with_entry before seat Finished []) history waiting done
kept-finished before seat history waiting done needs sound room =
    kept before seat Finished history waiting done needs (finished-entries before.pool seat needs) refl sound room

pub kept-closed : (before : Contents) (seat number : ℕ) (history waiting done : ℕ) → Needs before.pool seat (Closed number) [] → IsSound before → HasRoom before history waiting done → IsSound (with_entry before seat (Closed number) []) × HasRoom (with_entry before seat (Closed number) []) history waiting done
kept-closed before seat number history waiting done needs sound room =
    kept before seat (Closed number) history waiting done needs (closed-entries before.pool seat number needs) refl sound room

pub kept-gave_back : (before : Contents) (seat number : ℕ) (history waiting done : ℕ) → Needs before.pool seat (GaveBack number) [] → IsSound before → HasRoom before history waiting done → IsSound (with_entry before seat (GaveBack number) []) × HasRoom (with_entry before seat (GaveBack number) []) history waiting done
kept-gave_back before seat number history waiting done needs sound room =
    kept before seat (GaveBack number) history waiting done needs (gave_back-entries before.pool seat number needs) refl sound room

-- where a path is out, a number more finds room among those that wait or are done, and an entry in the history
pub room-out : (before : Contents) (seat number : ℕ) (history waiting done : ℕ) → holder before.pool number ≡ Some seat → IsSound before → HasRoom before history waiting done → (length before.history < history) × (length before.pool.waiting < waiting) × (length before.pool.done < done)
room-out before seat number history waiting done needs sound room =
    let out = some_out before.pool seat number needs in
    let fewer = closed-entries before.pool seat number needs in
    (omega (arith, room.for_history), omega (arith, room.for_waiting, sound.counted), omega (arith, room.for_done, sound.counted))

-- a seat that may take finds room for an entry
pub room-free : (before : Contents) (seat : ℕ) (history waiting done : ℕ) → MayTake before.pool seat → HasRoom before history waiting done → length before.history < history
room-free before seat history waiting done free room =
    let own = sum_by-put entries_of before.pool.seats seat Free Ended free in
    omega (arith, room.for_history)

-- the bag stays sound after a split, and there is room for what may follow, where it was made for so many kids
pub kept-split : (before : Contents) (seat number first end : ℕ) (kids paths : List Path) (numbers over : List ℕ) (entries : List Entered) (history waiting done : ℕ) → Needs before.pool seat (Split number first (end - first)) kids → entries ≡ before.history ++ record { seat = seat; call = Split number first (end - first) } ∷ [] → paths ≡ before.pool.paths ++ kids → numbers ≡ before.pool.waiting ++ range_with_len (first + 1) (end - (first + 1)) → over ≡ before.pool.done ++ number ∷ [] → IsSound before → length before.history + (2 * (length before.pool.waiting + length kids) + 3 * length before.pool.seats) ≤ history → length before.pool.paths + length kids ≤ waiting → length before.pool.paths + length kids ≤ done → IsSound (contents entries paths numbers (set before.pool.seats seat (Holds first)) over) × HasRoom (contents entries paths numbers (set before.pool.seats seat (Holds first)) over) history waiting done
kept-split before seat number first end kids paths numbers over entries history waiting done needs e f g h sound for_history for_waiting for_done =
    let others : end - (first + 1) ≡ end - first - 1 = omega arith in
    let more = length-append before.history (record { seat = seat; call = Split number first (end - first) } ∷ []) in
    let longer = length-append before.pool.waiting (range_with_len (first + 1) (end - first - 1)) in
    let range = length-range_with_len (first + 1) (end - first - 1) in
    let all = length-append before.pool.paths kids in
    let same = length-set before.pool.seats seat (Holds first) in
    let own = seats-entries (set before.pool.seats seat (Holds first)) in
    rw (e, f, g, h, others) (
      sound-entry before seat (Split number first (end - first)) kids needs sound,
      record {
        for_history = omega (arith, needs.1, needs.2);
        for_waiting = omega arith;
        for_done = omega arith;
      },
    )
