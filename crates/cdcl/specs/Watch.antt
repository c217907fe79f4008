-- Watched literals.
use Rattle.std.specs.Prelude.{ℕ, ◌≡◌, ◌<◌, ◌≤◌, ◌+◌, nat_lt, ◌⊎◌, ◌==◌, ◌||◌, if◌then◌else◌, Bool, true, false, Option, Some, None, List, [], ◌∷◌, ◌++◌, length, slice_get, slice_set, slice_index_or}
use Rattle.cnf_form.specs.declared.lit.Lit.{Lit}
use Rattle.cnf_form.specs.Literals.{flip, has}
use Rattle.cnf_form.specs.Spent.{IsWithin}
use Rattle.cdcl.specs.declared.entry.Entry.{Entry}
use Rattle.cdcl.specs.declared.watched.Watched.{Watched}
use Rattle.std.specs.Option.{MatchOption}
use Rattle.std.specs.Bool.{OnTrue, OnFalse}
use Rattle.cdcl.specs.Trail.{Assigned, lits_of, IsFalsified}
use Rattle.cdcl.specs.Propagation.{Grows, unset_in}

-- the lists of clauses by literal
pub record Listed : Type 0 where
  pub plain : List (List ℕ)
  pub negated : List (List ℕ)

abbrev pub side_of : Listed → Bool → List (List ℕ)
side_of ls true = ls.negated
side_of ls false = ls.plain

abbrev pub list_of : Listed → Lit → List ℕ
list_of ls l = slice_index_or (side_of ls l.negated) l.var []

pub record HasRoom (ls : Listed) (v : ℕ) : Type 0 where
  pub plain : v < length ls.plain
  pub negated : v < length ls.negated

abbrev pub with_side : Listed → Bool → List (List ℕ) → Listed
with_side ls true xs = record { plain = ls.plain; negated = xs }
with_side ls false xs = record { plain = xs; negated = ls.negated }

-- one number more in the list of one literal
abbrev pub AddsTo : Listed → Listed → Lit → ℕ → Type 0
AddsTo old new l n = new ≡ with_side old l.negated (slice_set (side_of old l.negated) l.var (list_of old l ++ n ∷ []))

-- no list but that of one literal changes
abbrev pub OnlyChanges : Listed → Listed → Lit → Type 0
OnlyChanges old new l = new ≡ with_side old l.negated (slice_set (side_of old l.negated) l.var (list_of new l))

-- there is a list for each literal
pub record IsBlank (vars : ℕ) (ls : Listed) : Type 0 where
  pub plain : length ls.plain ≡ vars
  pub negated : length ls.negated ≡ vars

-- whether a number is in a list
abbrev pub in_list : List ℕ → ℕ → Bool
in_list [] n = false
in_list (m ∷ ms) n = (m == n) || in_list ms n

-- where one watched literal is false in what is done, the other is true
pub record IsGuarded (done given : List Lit) (w : Watched) : Type 0 where
  pub first : has done (flip w.first) ≡ true → has given w.second ≡ true
  pub second : has done (flip w.second) ≡ true → has given w.first ≡ true
  pub alone : w.first ≡ w.second → has given w.first ≡ true

pub record IsPair (clause : List Lit) (w : Watched) : Type 0 where
  pub first : has clause w.first ≡ true
  pub second : has clause w.second ≡ true

pub record ArePairs (clauses : List (List Lit)) (pairs : List Watched) : Type 0 where
  pub count : length pairs ≡ length clauses
  pub each : (n : ℕ) (c : List Lit) (w : Watched) → slice_get clauses n ≡ Some c → slice_get pairs n ≡ Some w → IsPair c w

abbrev pub AreGuarded : List Watched → List Lit → List Lit → Type 0
AreGuarded pairs done given = (n : ℕ) (w : Watched) → slice_get pairs n ≡ Some w → IsGuarded done given w

abbrev pub IsBoundary : List Watched → Option ℕ → List Entry → Type 0
IsBoundary pairs None es = AreGuarded pairs (lits_of es) (lits_of es)
IsBoundary pairs (Some r) es = Unit {0}

-- at each decision all clauses were guarded
abbrev pub IsWatching : List Watched → List Entry → Type 0
IsWatching pairs [] = Unit {0}
IsWatching pairs (e ∷ es) = IsBoundary pairs e.reason es × IsWatching pairs es

abbrev pub IsIn : Listed → Watched → ℕ → Type 0
IsIn ls w n = (in_list (list_of ls w.first) n ≡ true) × (in_list (list_of ls w.second) n ≡ true)

abbrev pub AreListed : List Watched → Listed → Type 0
AreListed pairs ls = (n : ℕ) (w : Watched) → slice_get pairs n ≡ Some w → IsIn ls w n

-- at older decisions the new pair is as good as the old one
abbrev pub KeepsOlder : List Lit → Watched → Watched → Type 0
KeepsOlder old w x = (es : List Lit) → IsWithin es old → IsGuarded es es w → IsGuarded es es x

abbrev pub IsOtherOf : Watched → Lit → Option Lit → Type 0
IsOtherOf w l None = (w.first ≡ l → ⊥) × (w.second ≡ l → ⊥)
IsOtherOf w l (Some o) = ((w.first ≡ l) × (w.second ≡ o)) ⊎ ((w.second ≡ l) × (w.first ≡ o))

pub record IsReplacement (given clause : List Lit) (l o r : Lit) : Type 0 where
  pub of_clause : has clause r ≡ true
  pub not_this : r ≡ l → ⊥
  pub not_other : r ≡ o → ⊥
  pub not_false : has given (flip r) ≡ false

abbrev pub NoReplacement : List Lit → List Lit → Lit → Lit → Type 0
NoReplacement given clause l o = (k : Lit) → has clause k ≡ true → (k ≡ l → ⊥) → (k ≡ o → ⊥) → has given (flip k) ≡ true

-- the oldest h entries
abbrev pub older_part : ℕ → List Entry → List Entry
older_part h [] = []
older_part h (e ∷ es) = if nat_lt (length es) h then e ∷ es else older_part h es

-- the newer trail has the older one's entries as its oldest
pub record IsLonger (old new : Assigned) : Type 0 where
  pub older : (h : ℕ) → h ≤ length old.entries → older_part h new.entries ≡ older_part h old.entries
  pub long : length old.entries ≤ length new.entries
  pub potential : unset_in new + length new.entries ≤ unset_in old + length old.entries

abbrev pub ListsMore : Listed → Listed → Type 0
ListsMore ls ms = (k : Lit) (n : ℕ) → in_list (list_of ls k) n ≡ true → in_list (list_of ms k) n ≡ true

-- a clause was looked at because this literal became false
pub record IsVisit (clauses : List (List Lit)) (number : ℕ) (lit : Lit) (old new : Assigned) (ps qs : List Watched) (ls ms : Listed) (conflict : Bool) : Type 0 where
  pub grows : Grows clauses old new
  pub more : IsWithin (lits_of old.entries) (lits_of new.entries)
  pub longer : IsLonger old new
  pub entries : (p : List Watched) → IsWatching p old.entries → IsWatching p new.entries
  pub old_pair : Watched
  pub new_pair : Watched
  pub was : slice_get ps number ≡ Some old_pair
  pub now : slice_get qs number ≡ Some new_pair
  pub count : length qs ≡ length ps
  pub others : (m : ℕ) → (m ≡ number → ⊥) → slice_get qs m ≡ slice_get ps m
  pub pair : (c : List Lit) → slice_get clauses number ≡ Some c → IsPair c new_pair
  pub older : KeepsOlder (lits_of old.entries) old_pair new_pair
  pub here : OnFalse conflict ((done : List Lit) → IsWithin done (lits_of old.entries) → IsGuarded done (lits_of old.entries) old_pair → IsGuarded (flip lit ∷ done) (lits_of new.entries) new_pair)
  pub found : OnTrue conflict (IsFalsified clauses number (lits_of new.entries))
  pub listed : IsIn ls old_pair number → IsIn ms new_pair number
  pub lists : ListsMore ls ms
  pub kept : list_of ms lit ≡ list_of ls lit
  pub room : (v : ℕ) → HasRoom ls v → HasRoom ms v

-- the literal of the entry at a place, counted from the oldest
pub record IsPlacedAt (es : List Entry) (place : ℕ) (l : Lit) : Type 0 where
  pub entry : Entry
  pub here : older_part (place + 1) es ≡ entry ∷ older_part place es
  pub literal : entry.lit ≡ l

-- all clauses that watch a literal were looked at, or one is false
pub record IsPass (clauses : List (List Lit)) (lit : Lit) (old new : Assigned) (ps qs : List Watched) (ms : Listed) (found : Option ℕ) : Type 0 where
  pub grows : Grows clauses old new
  pub longer : IsLonger old new
  pub more : IsWithin (lits_of old.entries) (lits_of new.entries)
  pub pairs : ArePairs clauses qs
  pub listed : AreListed qs ms
  pub room : (v : ℕ) → v < new.vars → HasRoom ms v
  pub watching : IsWatching qs new.entries
  pub answer : MatchOption found ((done : List Lit) → IsWithin done (lits_of old.entries) → AreGuarded ps done (lits_of old.entries) → AreGuarded qs (flip lit ∷ done) (lits_of new.entries)) (λ number. IsFalsified clauses number (lits_of new.entries))

-- the numbered pair doesn't have the literal
abbrev pub NotWatching : List Watched → Lit → ℕ → Type 0
NotWatching pairs l n = (w : Watched) → slice_get pairs n ≡ Some w → (w.first ≡ l → ⊥) × (w.second ≡ l → ⊥)

-- a number whose pair has the literal stays in the list
abbrev pub KeepsWatching : List Watched → Lit → List ℕ → List ℕ → Type 0
KeepsWatching pairs l old new = (n : ℕ) → in_list old n ≡ true → (in_list new n ≡ true) ⊎ NotWatching pairs l n

-- a clause's number was added to the lists of the two literals that it watches
pub record IsAdded (old new : Listed) (w : Watched) (n : ℕ) : Type 0 where
  pub here : IsIn new w n
  pub more : ListsMore old new
  pub room : (v : ℕ) → HasRoom old v → HasRoom new v

-- the clauses are watched, and nothing else is done; no literal was decided
pub record IsEntered (clauses : List (List Lit)) (trail : Assigned) (pairs : List Watched) (watches : Listed) : Type 0 where
  pub of_clauses : ArePairs clauses pairs
  pub room : (v : ℕ) → v < trail.vars → HasRoom watches v
  pub listed : AreListed pairs watches
  pub done : AreGuarded pairs [] (lits_of trail.entries)

-- what the search keeps of watched literals: what came before the head is done
pub record IsWatched (clauses : List (List Lit)) (trail : Assigned) (pairs : List Watched) (watches : Listed) (head : ℕ) : Type 0 where
  pub of_clauses : ArePairs clauses pairs
  pub room : (v : ℕ) → v < trail.vars → HasRoom watches v
  pub listed : AreListed pairs watches
  pub watching : IsWatching pairs trail.entries
  pub within : head ≤ length trail.entries
  pub done : AreGuarded pairs (lits_of (older_part head trail.entries)) (lits_of trail.entries)
