-- The state of a search over watched literals.
use Rattle.std.specs.Prelude.{ℕ, ◌≡◌, ◌<◌, List, []}
use Rattle.cnf_form.specs.declared.lit.Lit.{Lit}
use Rattle.cdcl.specs.declared.run.Run.{Run}
use Rattle.cdcl.specs.Watch.{IsBlank, HasRoom, ArePairs, AreListed, IsWatching, IsWatched}
use Rattle.cdcl.specs.State.{IsState}

-- nothing is assigned, watched or learnt
pub record IsBlankRun (run : Run) : Type 0 where
  pub trail : run.trail.entries ≡ []
  pub pairs : run.pairs.items ≡ []
  pub watches : IsBlank run.trail.vars run.watches
  pub log : run.log ≡ []
  pub head : run.head ≡ 0

-- all clauses are watched, and at each decision each was guarded
pub record IsPropagated (run : Run) : Type 0 where
  pub of_clauses : ArePairs run.clauses run.pairs.items
  pub room : (v : ℕ) → v < run.trail.vars → HasRoom run.watches v
  pub listed : AreListed run.pairs.items run.watches
  pub watching : IsWatching run.pairs.items run.trail.entries

-- what holds before each step
pub record IsReady (vars : ℕ) (formula : List (List Lit)) (budget : ℕ) (run : Run) : Type 0 where
  pub state : IsState vars formula budget run.trail run.clauses run.log
  pub watched : IsWatched run.clauses run.trail run.pairs.items run.watches run.head
