-- What a seat of a shared pool knows, and what its calls answer and leave.
use Rattle.std.specs.Prelude.{ℕ, ◌≡◌, ◌<◌, ◌==◌, List, [], ◌∷◌, ◌++◌, length, All, Some, slice_get, Result, Ok, Err}
use Rattle.std.specs.List.{count_by}
use Rattle.std.specs.declared.alloc.AllocError.{AllocError}
use Rattle.atomic_table.specs.Seated.{TableId}
use Rattle.path_tree.specs.declared.path.Path.{Path}
use Rattle.path_tree.specs.declared.seat.Seat.TheVariants.{Free, Holds}
use Rattle.path_tree.specs.declared.entered.PoolCall.{PoolCall}
use Rattle.path_tree.specs.declared.entered.PoolCall.TheVariants as calls
use Rattle.path_tree.specs.declared.refusal.SplitRefusal.{SplitRefusal}
use Rattle.path_tree.specs.declared.refusal.SplitRefusal.TheVariants as refusals
use Rattle.path_tree.specs.PoolMachine.{Contents, IsLegal, IsFront}
use Rattle.path_tree.specs.Bag.{begun, Enters}
use Rattle.path_pool.specs.Calls.{calls_of, after_call, doing}
use Rattle.path_pool.specs.declared.pulled.Pulled.{Pulled}
use Rattle.path_pool.specs.declared.pulled.Pulled.TheVariants as pulled

-- which pool it is, and how many seats it has
pub record PoolView : Type 0 where
  pub pool : TableId
  pub seats : ℕ

-- what a seat knows: its pool and number, a history that the pool once had, and the calls that it made
pub record SeatView : Type 0 where
  pub pool : TableId
  pub number : ℕ
  pub seen : Contents
  pub calls : List PoolCall

-- a seat of a new pool
abbrev pub first_view : TableId → ℕ → ℕ → SeatView
first_view pool seats number = record { pool = pool; number = number; seen = begun seats; calls = [] }

-- the seat may ask for a path
abbrev pub IsFree : SeatView → Type 0
IsFree seat = doing seat.calls ≡ Free

-- the path of this number is out to the seat
abbrev pub IsHolding : SeatView → ℕ → Type 0
IsHolding seat number = doing seat.calls ≡ Holds number

-- a seat of this pool that may ask for a path
abbrev pub IsFresh : PoolView → SeatView → Type 0
IsFresh shared seat = (seat.pool ≡ shared.pool) × IsFree seat

-- The seat made a call. The history, which had gone on from what the seat had seen, was one that the machine replays; the call met what it needs there; and the history with the call at its end, of which what it had seen is a front, is what the seat has seen now.
pub record HasMade (old : SeatView) (call : PoolCall) (kids : List Path) (new : SeatView) : Type 0 where
  pub before : Contents
  pub grown : IsFront old.seen before
  pub legal : IsLegal before
  pub enters : Enters before old.number call kids new.seen
  pub front : IsFront old.seen new.seen
  pub calls : new.calls ≡ old.calls ++ call ∷ []
  pub does : doing new.calls ≡ after_call call
  pub pool : new.pool ≡ old.pool
  pub number : new.number ≡ old.number

-- what a take answers and leaves; for want of memory it leaves the seat as it was
abbrev pub HasPulled : SeatView → Result Pulled AllocError → SeatView → Type 0
HasPulled old (Ok (pulled.Path number path)) new =
    HasMade old (calls.Took number) [] new × (slice_get new.seen.pool.paths number ≡ Some path)
HasPulled old (Ok pulled.Finished) new = HasMade old calls.Finished [] new
HasPulled old (Err error) new = new ≡ old

-- what a split answers and leaves; for want of memory it hands the kids back, and leaves the seat as it was
abbrev pub HasDivided : SeatView → ℕ → List Path → Result ℕ SplitRefusal → SeatView → Type 0
HasDivided old number kids (Ok first) new = HasMade old (calls.Split number first (length kids)) kids new
HasDivided old number kids (Err (refusals.Memory back)) new = (back.items ≡ kids) × (new ≡ old)
HasDivided old number kids (Err (refusals.NotYours holder back)) new = ⊥

-- The bag of a pool that has ended, against all seats of the pool: each saw a front of its history, which has the calls of each, in its order, each once, and no other.
pub record HasEnded (pool : PoolView) (seats : List SeatView) (bag : Contents) : Type 0 where
  pub legal : IsLegal bag
  pub counted : length bag.pool.seats ≡ pool.seats
  pub seen : All (λ (seat : SeatView). IsFront seat.seen bag) seats
  pub own : All (λ (seat : SeatView). calls_of seat.number bag.history ≡ seat.calls) seats
  pub numbers : (number : ℕ) → number < pool.seats → count_by (λ (seat : SeatView). seat.number == number) seats ≡ 1
