-- What a seat that asks for a path finds in its turn, and leaves.
use Rattle.std.specs.Prelude.{ℕ, ◌≡◌, ◌<◌, [], Option, Some, None, slice_get, Result, Ok, Err}
use Rattle.std.specs.declared.alloc.AllocError.{AllocError}
use Rattle.path_tree.specs.declared.path.Path.{Path}
use Rattle.path_tree.specs.declared.entered.PoolCall.TheVariants as calls
use Rattle.path_tree.specs.PoolMachine.{Pool, Contents, out_count}
use Rattle.path_tree.specs.Bag.{Enters}
use Rattle.path_pool.specs.Seats.{SeatView, HasPulled}
use Rattle.path_pool.specs.declared.asking.Asked.{Asked}
use Rattle.path_pool.specs.declared.asking.Asked.TheVariants as asked
use Rattle.path_pool.specs.declared.pulled.Pulled.{Pulled}
use Rattle.path_pool.specs.declared.pulled.Pulled.TheVariants as pulled

-- nothing waits, and a path is out
pub record HasToWait (pool : Pool) : Type 0 where
  pub none_waits : pool.waiting ≡ []
  pub out : 0 < out_count pool

-- the path of this number was taken, and this is a copy of it
pub record IsTaken (before : Contents) (seat number : ℕ) (path : Path) (after : Contents) : Type 0 where
  pub enters : Enters before seat (calls.Took number) [] after
  pub copied : slice_get before.pool.paths number ≡ Some path

-- the answer of one turn: a path that was taken; finished where no path is left; none where the seat has to wait; and for want of memory the bag stays
abbrev pub HasAsked : Contents → ℕ → Result (Option Pulled) AllocError → Contents → Type 0
HasAsked before seat (Ok (Some (pulled.Path number path))) after = IsTaken before seat number path after
HasAsked before seat (Ok (Some pulled.Finished)) after = Enters before seat calls.Finished [] after
HasAsked before seat (Ok None) after = HasToWait before.pool × (after ≡ before)
HasAsked before seat (Err error) after = after ≡ before

-- what asking once answers and leaves
abbrev pub HasTried : SeatView → Result Asked AllocError → SeatView → Type 0
HasTried old (Ok (asked.Pulled pulled)) new = HasPulled old (Ok pulled) new
HasTried old (Ok (asked.NotNow count)) new = new ≡ old
HasTried old (Err error) new = new ≡ old
