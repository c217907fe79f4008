-- The calls of one seat of a pool, and what it does after them.
use Rattle.std.specs.Prelude.{ℕ, ◌==◌, List, [], ◌∷◌, if◌then◌else◌}
use Rattle.path_tree.specs.declared.seat.Seat.{Seat}
use Rattle.path_tree.specs.declared.seat.Seat.TheVariants.{Free, Holds, Ended}
use Rattle.path_tree.specs.declared.entered.PoolCall.{PoolCall}
use Rattle.path_tree.specs.declared.entered.PoolCall.TheVariants.{Took, Finished, Split, Closed, GaveBack}
use Rattle.path_tree.specs.declared.entered.Entered.{Entered}

-- the calls of a seat in a history, in order
abbrev pub calls_of : ℕ → List Entered → List PoolCall
calls_of seat [] = []
calls_of seat (entry ∷ entries) = if entry.seat == seat then entry.call ∷ calls_of seat entries else calls_of seat entries

-- what a seat does after a call
abbrev pub after_call : PoolCall → Seat
after_call (Took number) = Holds number
after_call Finished = Ended
after_call (Split number first count) = Holds first
after_call (Closed number) = Free
after_call (GaveBack number) = Ended

-- what a seat does after calls, where it did this before them
abbrev pub doing_after : Seat → List PoolCall → Seat
doing_after seat [] = seat
doing_after seat (call ∷ calls) = doing_after (after_call call) calls

-- what a seat does after all its calls
abbrev pub doing : List PoolCall → Seat
doing calls = doing_after Free calls
