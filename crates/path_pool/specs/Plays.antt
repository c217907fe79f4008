-- What each step on a pool's table tells: of the step, the seat before, the number found and the seat after.
use Rattle.std.specs.Prelude.{ℕ, ◌≡◌, ◌≢◌, ◌%◌, ◌^◌, ◌<◌, List, [], ◌∷◌, ◌++◌, length, map, All, nat_lt, Option, Some, None, if◌then◌else◌}
use Rattle.std.specs.Option.{unwrap_or}
use Rattle.atomic_table.specs.Table.{Me, Step, rest}
use Rattle.atomic_table.specs.Seated.{TableId}
use Rattle.path_tree.specs.declared.entered.PoolCall.{PoolCall}
use Rattle.path_tree.specs.declared.entered.Entered.{Entered}
use Rattle.path_tree.specs.PoolMachine.{Contents, IsLegal, IsFront}
use Rattle.path_tree.specs.Bag.{begun}
use Rattle.path_pool.specs.Calls.{calls_of}
use Rattle.path_pool.specs.Seats.{SeatView}
use Rattle.path_pool.specs.Rule.{total, told, view, is_number, AreFronts, AreCalls}
use Rattle.path_pool.specs.declared.view.Told.{Told}
use Rattle.path_pool.specs.declared.view.View.{View}

abbrev pub Sat : Type 0
Sat = Me (Option Contents) View

abbrev pub Play : Type 1
Play = Step (Option Contents) → Sat → ℕ → Sat → Type 0

-- the number of a ticket's word
abbrev pub word_of : ℕ → ℕ
word_of ticket = ticket % 2 ^ 64

abbrev pub ticket_word : Option ℕ → ℕ
ticket_word None = 0
ticket_word (Some ticket) = word_of ticket

-- each number is below this one
abbrev pub AreBelow : List Told → ℕ → Type 0
AreBelow [] most = Unit {0}
AreBelow (one ∷ more) most = (one.number < most) × AreBelow more most

-- the history in the slot that is out
abbrev pub in_slot : Contents → List (ℕ × Option Contents) → Contents
in_slot other [] = other
in_slot other (slot ∷ more) = unwrap_or slot.1 other

-- the calls of each of these in the history
abbrev pub told_again : List Entered → Told → Told
told_again entries one = told one.number (calls_of one.number entries)

-- a seat with the turn that has seen this history now
abbrev pub entered : View → Contents → View
entered v history = view (map (told_again history.history) v.held) history v.older v.ticket (Some history)

-- a seat that holds the calls of one number, and neither waits nor has the turn
abbrev pub resting : ℕ → List PoolCall → Contents → List Contents → Sat
resting number calls seen older = (view (told number calls ∷ []) seen older None None, [])

-- the same, with a ticket
abbrev pub waiting : ℕ → List PoolCall → Contents → List Contents → ℕ → Sat
waiting number calls seen older ticket = (view (told number calls ∷ []) seen older (Some ticket) None, [])

-- the same, with the turn, the history that it took, and what is in the slot
abbrev pub in_turn : ℕ → List PoolCall → Contents → List Contents → ℕ → Contents → Option Contents → Sat
in_turn number calls seen older ticket history slot = (view (told number calls ∷ []) seen older (Some ticket) (Some history), (0, slot) ∷ [])

-- the calls of the first seat whose calls the view holds
abbrev pub first_calls : List Told → List PoolCall
first_calls [] = []
first_calls (one ∷ more) = one.calls

-- what a seat learns of the history that it takes
pub record Learns (v : View) (history : Contents) : Type 0 where
  pub pasts : AreFronts (v.seen ∷ v.older) history
  pub own : AreCalls v.held history.history
  pub seats : AreBelow v.held (length history.pool.seats)

-- the ticket is the one that was next
abbrev pub drawn : Play
drawn st m found n = (ticket : ℕ) × (found ≡ word_of ticket) × (n ≡ (view m.0.held m.0.seen m.0.older (Some ticket) m.0.turn, m.1))

-- where the seat's ticket is served, it has the turn, with the history, and learns of it; else it stays
abbrev pub looked : Play
looked st m found n = (found ≡ ticket_word m.0.ticket → (history : Contents) × (n ≡ (view m.0.held m.0.seen m.0.older m.0.ticket (Some history), (0, Some history) ∷ m.1)) × Learns m.0 history)
    × (found ≢ ticket_word m.0.ticket → n ≡ m)

-- the seat has seen the history that is in the slot
abbrev pub raised : Play
raised st m found n = n ≡ (entered m.0 (in_slot m.0.seen m.1), m.1)

-- the seat has neither ticket nor turn
abbrev pub passed : Play
passed st m found n = n ≡ (view m.0.held m.0.seen m.0.older None None, rest m.1)

-- the first held part, and the others
abbrev pub first_of : List Told → List Told
first_of [] = []
first_of (one ∷ more) = one ∷ []

abbrev pub others_of : List Told → List Told
others_of [] = []
others_of (one ∷ more) = more

abbrev pub kept_part : View → View
kept_part v = view (first_of v.held) v.seen v.older v.ticket v.turn

abbrev pub given_part : View → View
given_part v = view (others_of v.held) v.seen [] None None

-- of two histories, the one with more entries
abbrev pub longer : Contents → Contents → Contents
longer one other = if nat_lt (length one.history) (length other.history) then other else one

abbrev pub joined : View → View → View
joined v w = view (v.held ++ w.held) (longer v.seen w.seen) ((v.older ++ w.older) ++ v.seen ∷ w.seen ∷ []) None None

abbrev pub spent : View
spent = view [] (begun 0) [] None None

-- one call more than the first history
pub record IsNext (before : Contents) (number : ℕ) (call : PoolCall) (after : Contents) : Type 0 where
  pub entries : after.history ≡ before.history ++ record { seat = number; call = call } ∷ []
  pub front : IsFront before after
  pub counted : length after.pool.seats ≡ length before.pool.seats

-- the seat of a number rests
pub record IsResting (number : ℕ) (m : Sat) : Type 0 where
  pub calls : List PoolCall
  pub seen : Contents
  pub older : List Contents
  pub is : m ≡ resting number calls seen older

-- the seat waits, with a ticket that has this word
pub record IsWaiting (word : ℕ) (m : Sat) : Type 0 where
  pub number : ℕ
  pub calls : List PoolCall
  pub seen : Contents
  pub older : List Contents
  pub ticket : ℕ
  pub is : m ≡ waiting number calls seen older ticket
  pub word_is : word ≡ word_of ticket

-- the seat of a number has the turn, with this history, and with this in the slot
pub record HasTurn (number : ℕ) (history : Contents) (slot : Option Contents) (m : Sat) : Type 0 where
  pub calls : List PoolCall
  pub seen : Contents
  pub older : List Contents
  pub ticket : ℕ
  pub is : m ≡ in_turn number calls seen older ticket history slot

-- a look found the ticket served
pub record IsServed (m : Sat) (n : Sat) : Type 0 where
  pub history : Contents
  pub is : n ≡ (view m.0.held m.0.seen m.0.older m.0.ticket (Some history), (0, Some history) ∷ m.1)
  pub learns : Learns m.0 history

-- the turn of a seat that rested has begun, with this history, and the slot is empty
pub record IsBegun (number : ℕ) (m : Sat) (history : Contents) (n : Sat) : Type 0 where
  pub ticket : ℕ
  pub is : n ≡ in_turn number (first_calls m.0.held) m.0.seen m.0.older ticket history None
  pub front : IsFront m.0.seen history
  pub own : calls_of number history.history ≡ first_calls m.0.held
  pub seat : number < length history.pool.seats

-- the seat without ticket and turn
abbrev pub rested : Sat → Sat
rested m = (view m.0.held m.0.seen m.0.older None None, [])

-- the same, once it has seen a history
abbrev pub has_seen : Sat → Contents → Sat
has_seen m history = (view (map (told_again history.history) m.0.held) history m.0.older None None, [])

-- the seat of a number rests, and what it has seen is legal and has its calls
abbrev pub IsSeated : ℕ → Sat → Type 0
IsSeated number m = (m ≡ resting number (first_calls m.0.held) m.0.seen []) × IsLegal m.0.seen × (calls_of number m.0.seen.history ≡ first_calls m.0.held)

-- what contracts see of a seat
abbrev pub seat_view : TableId → ℕ → Sat → SeatView
seat_view pool number m = record { pool = pool; number = number; seen = m.0.seen; calls = first_calls m.0.held }

abbrev pub told_of : SeatView → Told
told_of seat = told seat.number seat.calls

-- one seat that knows what all these know
pub record HasGathered (seats : List SeatView) (m : Sat) : Type 0 where
  pub is : m ≡ (view (map told_of seats) m.0.seen m.0.older None None, [])
  pub pasts : (history : Contents) → AreFronts (m.0.seen ∷ m.0.older) history → All (λ (seat : SeatView). IsFront seat.seen history) seats

-- what the one seat that holds all calls says of the bag
pub record IsLast (seats : ℕ) (v : View) (history : Contents) : Type 0 where
  pub pasts : AreFronts (v.seen ∷ v.older) history
  pub calls : AreCalls v.held history.history
  pub counted : length history.pool.seats ≡ seats
  pub numbers : (number : ℕ) → total (is_number number) v.held ≡ if nat_lt number seats then 1 else 0

-- a table of three words and one slot
abbrev pub IsPoolTable : TableId → Type 0
IsPoolTable id = (id.words ≡ 3) × (id.slots ≡ 1)
