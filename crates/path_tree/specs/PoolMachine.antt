-- The pool of paths as a machine: what each event needs, and what it changes.
use Rattle.std.specs.Prelude.{ℕ, Bool, true, false, ◌≡◌, ◌+◌, ◌-◌, ◌<◌, ◌==◌, List, [], ◌∷◌, ◌++◌, Option, Some, length, take, replicate, slice_get, slice_set, nat_lt, if◌then◌else◌}
use Rattle.std.specs.List.{count_by, position, range_with_len}
use Rattle.path_tree.specs.declared.path.Path.{Path}
use Rattle.path_tree.specs.declared.seat.Seat.{Seat}
use Rattle.path_tree.specs.declared.seat.Seat.TheVariants.{Free, Holds, Ended}
use Rattle.path_tree.specs.declared.entered.PoolCall.{PoolCall}
use Rattle.path_tree.specs.declared.entered.PoolCall.TheVariants.{Took, Finished, Split, Closed, GaveBack}
use Rattle.path_tree.specs.declared.entered.Entered.{Entered}

-- all paths by number; the numbers that wait, the next one last; what each seat does; the numbers that are done
pub record Pool : Type 0 where
  pub paths : List Path
  pub waiting : List ℕ
  pub seats : List Seat
  pub done : List ℕ

-- the path from which all begin: no next, and no site that leaked
abbrev pub whole_path : Path
whole_path = record { nexts = []; leaked = [] }

-- at the beginning path 0 waits, and all seats are free
abbrev pub beginning : ℕ → Pool
beginning seats = record { paths = whole_path ∷ []; waiting = 0 ∷ []; seats = replicate seats Free; done = [] }

-- a path is out to the seat
abbrev pub is_holding : Seat → Bool
is_holding (Holds number) = true
is_holding _ = false

-- the path of this number is out to the seat
abbrev pub holds : ℕ → Seat → Bool
holds number (Holds held) = held == number
holds number _ = false

-- how many paths are out
abbrev pub out_count : Pool → ℕ
out_count pool = count_by is_holding pool.seats

-- the seat to which a path is out
abbrev pub holder : Pool → ℕ → Option ℕ
holder pool number = position (holds number) pool.seats

-- the number that is taken next: the last that waits
abbrev pub next_up : Pool → Option ℕ
next_up pool = slice_get pool.waiting (length pool.waiting - 1)

-- the seat is one of the pool's, holds nothing and hasn't ended
abbrev pub MayTake : Pool → ℕ → Type 0
MayTake pool seat = slice_get pool.seats seat ≡ Some Free

-- what an event of a seat needs; the kids are those of a split
abbrev pub Needs : Pool → ℕ → PoolCall → List Path → Type 0
Needs pool seat (Took number) kids = MayTake pool seat × (next_up pool ≡ Some number)
Needs pool seat Finished kids = MayTake pool seat × (pool.waiting ≡ []) × (out_count pool ≡ 0)
Needs pool seat (Split number first count) kids =
    (holder pool number ≡ Some seat) × (0 < count) × (count ≡ length kids) × (first ≡ length pool.paths)
Needs pool seat (Closed number) kids = holder pool number ≡ Some seat
Needs pool seat (GaveBack number) kids = holder pool number ≡ Some seat

-- the pool after an event of a seat; the kids are those of a split, of which the first stays out with the seat
abbrev pub moved : Pool → ℕ → PoolCall → List Path → Pool
moved pool seat (Took number) kids = record pool {
  waiting = take (length pool.waiting - 1) pool.waiting;
  seats = slice_set pool.seats seat (Holds number);
}
moved pool seat Finished kids = record pool { seats = slice_set pool.seats seat Ended }
moved pool seat (Split number first count) kids = record pool {
  paths = pool.paths ++ kids;
  waiting = pool.waiting ++ range_with_len (first + 1) (count - 1);
  seats = slice_set pool.seats seat (Holds first);
  done = pool.done ++ number ∷ [];
}
moved pool seat (Closed number) kids = record pool {
  seats = slice_set pool.seats seat Free;
  done = pool.done ++ number ∷ [];
}
moved pool seat (GaveBack number) kids = record pool {
  waiting = pool.waiting ++ number ∷ [];
  seats = slice_set pool.seats seat Ended;
}

-- a history, and the pool after it
pub record Contents : Type 0 where
  pub history : List Entered
  pub pool : Pool

-- an entry of a history leads from one pool to the next
pub record Steps (before : Pool) (entry : Entered) (after : Pool) : Type 0 where
  pub kids : List Path
  pub needs : Needs before entry.seat entry.call kids
  pub change : after ≡ moved before entry.seat entry.call kids

-- the entries, in order, lead from one pool to another
abbrev pub Leads : Pool → List Entered → Pool → Type 0
Leads before [] after = before ≡ after
Leads before (entry ∷ entries) after = (next : Pool) × Steps before entry next × Leads next entries after

-- a legal history leads from the beginning to its pool
abbrev pub IsLegal : Contents → Type 0
IsLegal inside = Leads (beginning (length inside.pool.seats)) inside.history inside.pool

-- a history with its paths is a front of a later one
pub record IsFront (early late : Contents) : Type 0 where
  pub entries : (rest : List Entered) × (late.history ≡ early.history ++ rest)
  pub paths : (rest : List Path) × (late.pool.paths ≡ early.pool.paths ++ rest)

-- in how many places a number stands: waiting, out to a seat, or done
abbrev pub places : Pool → ℕ → ℕ
places pool number =
    count_by (λ waiting. waiting == number) pool.waiting
    + count_by (holds number) pool.seats
    + count_by (λ done. done == number) pool.done

-- each number of a path stands in one place, and no other number stands anywhere
abbrev pub ArePlaced : Pool → Type 0
ArePlaced pool = (number : ℕ) → places pool number ≡ (if nat_lt number (length pool.paths) then 1 else 0)
