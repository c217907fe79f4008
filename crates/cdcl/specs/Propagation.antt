-- What unit propagation does to a trail.
use Rattle.std.specs.Prelude.{ℕ, zero, suc, ◌≡◌, ◌<◌, ◌≤◌, ◌+◌, true, if◌then◌else◌, List}
use Rattle.cnf_form.specs.declared.lit.Lit.{Lit}
use Rattle.cnf_form.specs.News.{is_free, is_quiet, are_quiet}
use Rattle.cdcl.specs.declared.status.Status.{Status}
use Rattle.cdcl.specs.declared.status.Status.TheVariants.{Falsified, Forcing, Quiet}
use Rattle.cdcl.specs.declared.propagation.Swept.{Swept}
use Rattle.cdcl.specs.declared.propagation.Swept.TheVariants.{Conflict, Forced, Complete}
use Rattle.cdcl.specs.Trail.{Assigned, lits_of, level_of, AllFalse, IsFalsified, IsTrail}

-- how many variables below a number are unset
abbrev pub unset_count : List Lit → ℕ → ℕ
unset_count given zero = 0
unset_count given (suc v) = (if is_free given v then 1 else 0) + unset_count given v

-- how many variables of a trail are unset
abbrev pub unset_in : Assigned → ℕ
unset_in trail = unset_count (lits_of trail.entries) trail.vars

-- the trail stays one, with its variables and level, and no more variables are unset
pub record Grows (clauses : List (List Lit)) (old new : Assigned) : Type 0 where
  pub vars : new.vars ≡ old.vars
  pub trail : IsTrail clauses new.entries
  pub level : level_of new.entries ≡ level_of old.entries
  pub unset : unset_in new ≤ unset_in old

-- one clause was looked at
abbrev pub LookedAt : List Lit → Assigned → Assigned → Status → Type 0
LookedAt clause old new Falsified = (new ≡ old) × AllFalse (lits_of old.entries) clause
LookedAt clause old new (Forcing l) = unset_in new < unset_in old
LookedAt clause old new Quiet = (new ≡ old) × (is_quiet (lits_of old.entries) clause ≡ true)

-- all clauses were looked at
abbrev pub IsSwept : List (List Lit) → Assigned → Assigned → Swept → Type 0
IsSwept clauses old new (Conflict number) = IsFalsified clauses number (lits_of new.entries)
IsSwept clauses old new Forced = unset_in new < unset_in old
IsSwept clauses old new Complete = are_quiet (lits_of new.entries) clauses ≡ true
