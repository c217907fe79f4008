-- What a step of a search comes to.
use Rattle.std.specs.Prelude.{ℕ, ◌≡◌, ◌<◌, ◌≤◌, ◌+◌, ◌-◌, ◌*◌, Bool, true, if◌then◌else◌, List, length}
use Rattle.cnf_form.specs.declared.lit.Lit.{Lit}
use Rattle.cnf_form.specs.Solutions.{are_met}
use Rattle.cnf_form.specs.Derivation.{IsRefutation}
use Rattle.cnf_form.specs.Spent.{IsSpent}
use Rattle.cdcl.specs.declared.run.Run.{Run}
use Rattle.cdcl.specs.declared.pace.Pace.{Pace}
use Rattle.cdcl.specs.declared.step.Step.{Step}
use Rattle.cdcl.specs.declared.step.Step.TheVariants.{Solved, Refuted, Spent, Onward}
use Rattle.cdcl.specs.Propagation.{unset_in}
use Rattle.cdcl.specs.Run.{IsReady}

-- what is left: the lines of the budget, a restart that is due, the unset variables
abbrev pub left_of : ℕ → ℕ → ℕ → Bool → ℕ → ℕ
left_of budget lines vars due unset = (budget - lines) * (2 * (vars + 1)) + (if due then vars + 1 else 0) + unset

abbrev pub left_in : ℕ → Run → Pace → ℕ
left_in budget run pace = left_of budget (length run.log) run.trail.vars pace.is_due (unset_in run.trail)

-- the state holds again, and less is left
pub record GoesOn (vars : ℕ) (formula : List (List Lit)) (budget : ℕ) (old new : Run) (was now : Pace) : Type 0 where
  pub ready : IsReady vars formula budget new
  pub less : left_in budget new now < left_in budget old was

abbrev pub IsStepped : ℕ → List (List Lit) → ℕ → Run → Run → Pace → Pace → Step → Type 0
IsStepped vars formula budget old new was now (Solved found) = (length found.values ≡ vars) × (are_met found.values formula ≡ true)
IsStepped vars formula budget old new was now Refuted = IsRefutation formula new.log × (length new.log ≤ budget + 1)
IsStepped vars formula budget old new was now Spent = IsSpent formula budget new.log
IsStepped vars formula budget old new was now Onward = GoesOn vars formula budget old new was now
