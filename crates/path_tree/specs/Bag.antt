-- What a bag holds, and what its calls answer and leave.
use Rattle.std.specs.Prelude.{ℕ, ◌≡◌, ◌≢◌, ◌+◌, ◌*◌, ◌≤◌, ◌<◌, ◌^◌, List, [], ◌∷◌, ◌++◌, Option, Some, None, zero, suc, length, Result, Ok, Err}
use Rattle.std.specs.List.{sum_by}
use Rattle.path_tree.specs.PoolMachine.{Pool, Contents, beginning, holder, next_up, out_count, Needs, moved, IsLegal, ArePlaced}
use Rattle.path_tree.specs.declared.path.Path.{Path}
use Rattle.path_tree.specs.declared.seat.Seat.{Seat}
use Rattle.path_tree.specs.declared.seat.Seat.TheVariants as seats
use Rattle.path_tree.specs.declared.taken.Taken.{Taken}
use Rattle.path_tree.specs.declared.taken.Taken.TheVariants as taken
use Rattle.path_tree.specs.declared.entered.PoolCall.{PoolCall}
use Rattle.path_tree.specs.declared.entered.PoolCall.TheVariants as calls
use Rattle.path_tree.specs.declared.entered.Entered.{Entered}
use Rattle.path_tree.specs.declared.refusal.NotYours.{NotYours}
use Rattle.path_tree.specs.declared.refusal.SplitRefusal.{SplitRefusal}
use Rattle.path_tree.specs.declared.refusal.SplitRefusal.TheVariants as refusals

-- the contents of these parts
abbrev pub contents : List Entered → List Path → List ℕ → List Seat → List ℕ → Contents
contents history paths waiting seats done =
    record { history = history; pool = record { paths = paths; waiting = waiting; seats = seats; done = done } }

-- a bag in which nothing happened
abbrev pub begun : ℕ → Contents
begun seats = record { history = []; pool = beginning seats }

-- one entry more, and the pool after it
abbrev pub with_entry : Contents → ℕ → PoolCall → List Path → Contents
with_entry before seat call kids = record {
  history = before.history ++ record { seat = seat; call = call } ∷ [];
  pool = moved before.pool seat call kids;
}

-- the pool met what the event needs, and the event alone was added
pub record Enters (before : Contents) (seat : ℕ) (call : PoolCall) (kids : List Path) (after : Contents) : Type 0 where
  pub needs : Needs before.pool seat call kids
  pub change : after ≡ with_entry before seat call kids

-- the reply where this number is next and so many paths are out
abbrev pub reply : Option ℕ → ℕ → Taken
reply (Some number) out = taken.Number number
reply None zero = taken.Finished
reply None (suc out) = taken.NotNow (suc out)

-- the reply to a take: the last number that waits; where nothing waits, how many are out; where none is out, that it is finished
abbrev pub take_reply : Pool → Taken
take_reply pool = reply (next_up pool) (out_count pool)

-- what a take leaves: an entry of what it replied, but for "not now", which changes nothing
abbrev pub HasTaken : Contents → ℕ → Taken → Contents → Type 0
HasTaken before seat (taken.Number number) after = Enters before seat (calls.Took number) [] after
HasTaken before seat taken.Finished after = Enters before seat calls.Finished [] after
HasTaken before seat (taken.NotNow out) after = after ≡ before

-- the path isn't out to the seat; the holder is the seat that has it, and nothing changed
pub record IsRefused (before : Contents) (seat number : ℕ) (told : Option ℕ) (after : Contents) : Type 0 where
  pub not_out : holder before.pool number ≢ Some seat
  pub told_is : told ≡ holder before.pool number
  pub unchanged : after ≡ before

-- what a call on a path that is out leaves
abbrev pub HasPut : Contents → ℕ → ℕ → PoolCall → Result (Unit {0}) NotYours → Contents → Type 0
HasPut before seat number call (Ok done) after = Enters before seat call [] after
HasPut before seat number call (Err refusal) after = IsRefused before seat number refusal.holder after

-- the path is out to the seat, and yet nothing changed; the kids are handed back
pub record IsWanting (before : Contents) (seat number : ℕ) (after : Contents) : Type 0 where
  pub out : holder before.pool number ≡ Some seat
  pub unchanged : after ≡ before

-- what a split answers and leaves; refused kids are handed back
abbrev pub HasSplit : Contents → ℕ → ℕ → List Path → Result ℕ SplitRefusal → Contents → Type 0
HasSplit before seat number kids (Ok first) after = Enters before seat (calls.Split number first (length kids)) kids after
HasSplit before seat number kids (Err (refusals.Memory back)) after =
    (back.items ≡ kids) × IsWanting before seat number after
HasSplit before seat number kids (Err (refusals.NotYours told back)) after =
    (back.items ≡ kids) × IsRefused before seat number told after

-- how many entries a seat may still make by itself
abbrev pub entries_of : Seat → ℕ
entries_of seats.Free = 2
entries_of (seats.Holds number) = 3
entries_of seats.Ended = 0

-- how many entries may follow until the next split
abbrev pub most_entries : Pool → ℕ
most_entries pool = 2 * length pool.waiting + sum_by entries_of pool.seats

-- the history is legal, each number stands in one place, and so there are as many places as paths
pub record IsSound (inside : Contents) : Type 0 where
  pub legal : IsLegal inside
  pub placed : ArePlaced inside.pool
  pub counted : length inside.pool.waiting + out_count inside.pool + length inside.pool.done ≡ length inside.pool.paths
  pub few_seats : length inside.pool.seats < 2 ^ 32

-- there is room for the entries and numbers that may follow until the next split
pub record HasRoom (inside : Contents) (history waiting done : ℕ) : Type 0 where
  pub for_history : length inside.history + most_entries inside.pool ≤ history
  pub for_waiting : length inside.pool.paths ≤ waiting
  pub for_done : length inside.pool.paths ≤ done
