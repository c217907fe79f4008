-- The rule of the table that the seats of a pool share.
-- Word 0 is the number of calls in the history, word 1 the next ticket, and word 2 the ticket whose turn it is. The slot has the bag, and is out with the seat that has the turn. Tickets go on without end here; the words have them modulo 2^64.
use Rattle.std.specs.Prelude.{ℕ, zero, suc, ◌≡◌, ◌+◌, ◌%◌, ◌^◌, ◌<◌, ◌≤◌, ◌==◌, nat_lt, List, [], ◌∷◌, length, map, cond, Option, Some, None, if◌then◌else◌}
use Rattle.std.specs.List.{range_with_len}
use mathlib.Core.Option.{some, none}
use mathlib.Core.Option as maybe
use lib.ListN.{get_elem?}
use Rattle.atomic_table.specs.Table.{State}
use Rattle.path_tree.specs.declared.entered.PoolCall.{PoolCall}
use Rattle.path_tree.specs.declared.entered.Entered.{Entered}
use Rattle.path_tree.specs.PoolMachine.{Contents, IsFront}
use Rattle.path_tree.specs.Bag.{begun}
use Rattle.path_pool.specs.Calls.{calls_of}
use Rattle.path_pool.specs.declared.view.Told.{Told}
use Rattle.path_pool.specs.declared.view.View.{View}

-- f of each, added up
abbrev pub total : {A : Type 0} → (A → ℕ) → List A → ℕ
total f [] = 0
total f (x ∷ xs) = f x + total f xs

-- P of each
abbrev pub Each : {A : Type 0} → List A → (A → Type 0) → Type 0
Each {A} xs P = (k : ℕ) (x : A) → get_elem? xs k ≡ some x → P x

abbrev pub told : ℕ → List PoolCall → Told
told number calls = record { number = number; calls = calls }

abbrev pub view : List Told → Contents → List Contents → Option ℕ → Option Contents → View
view held seen older ticket turn = record { held = held; seen = seen; older = older; ticket = ticket; turn = turn }

-- each of these is a front of the history
abbrev pub AreFronts : List Contents → Contents → Type 0
AreFronts [] history = Unit {0}
AreFronts (past ∷ pasts) history = IsFront past history × AreFronts pasts history

-- the calls of each of these seats in the history are those that are told of it
abbrev pub AreCalls : List Told → List Entered → Type 0
AreCalls [] entries = Unit {0}
AreCalls (one ∷ more) entries = (calls_of one.number entries ≡ one.calls) × AreCalls more entries

abbrev pub one_if : {A : Type 0} → Option A → ℕ
one_if None = 0
one_if (Some x) = 1

abbrev pub is_ticket : ℕ → Option ℕ → ℕ
is_ticket ticket None = 0
is_ticket ticket (Some drawn) = cond (drawn == ticket) 1 0

-- 1 where the view has a ticket, where it has this one, and where it has the turn
abbrev pub waits : View → ℕ
waits v = one_if v.ticket

abbrev pub has_ticket : ℕ → View → ℕ
has_ticket ticket v = is_ticket ticket v.ticket

abbrev pub turns : View → ℕ
turns v = one_if v.turn

-- how many seats' calls the view holds, and how often those of this number
abbrev pub size : View → ℕ
size v = length v.held

abbrev pub is_number : ℕ → Told → ℕ
is_number number one = cond (one.number == number) 1 0

abbrev pub has_number : ℕ → View → ℕ
has_number number v = total (is_number number) v.held

-- 1 from low on, below high
abbrev pub between : ℕ → ℕ → ℕ → ℕ
between n low high = cond (nat_lt n low) 0 (cond (nat_lt n high) 1 0)

-- the slot has the bag where nobody has the turn
abbrev pub slot_of : ℕ → Contents → maybe.Option (Option Contents)
slot_of zero history = some (Some history)
slot_of (suc n) history = none

-- what is true of a view while the history is this, and so many tickets were served
pub record Knows (history : Contents) (served : ℕ) (v : View) : Type 0 where
  pub calls : AreCalls v.held history.history
  pub pasts : 0 < length v.held → AreFronts (v.seen ∷ v.older) history
  pub live : waits v ≤ length v.held
  pub turn : (taken : Contents) → v.turn ≡ Some taken → (taken ≡ history) × (v.ticket ≡ Some served)

-- Tickets from the one whose turn it is to the next are each that of one view. The calls of each number are held by one view. One view at most has the turn.
pub record IsKept (seats : ℕ) (s : State (Option Contents) View) : Type 0 where
  pub history : Contents
  pub served : ℕ
  pub words : s.words ≡ length history.history ∷ (served + total waits s.views) % 2 ^ 64 ∷ served % 2 ^ 64 ∷ []
  pub slot : s.homes ≡ slot_of (total turns s.views) history ∷ []
  pub one_turn : total turns s.views ≤ 1
  pub counted : length history.pool.seats ≡ seats
  pub few : seats < 2 ^ 32
  pub tickets : (ticket : ℕ) → total (has_ticket ticket) s.views ≡ between ticket served (served + total waits s.views)
  pub numbers : (number : ℕ) → total (has_number number) s.views ≡ (if nat_lt number seats then 1 else 0)
  pub held : total size s.views ≡ seats
  pub each : Each s.views (Knows history served)

-- nobody has called, and this one view holds the calls of all these seats
abbrev pub fresh : ℕ → List ℕ → View
fresh seats numbers = view (map (λ number. told number []) numbers) (begun seats) [] None None

abbrev pub first_of_all : ℕ → View
first_of_all seats = fresh seats (range_with_len 0 seats)
