-- The job of one secret byte.
use Rattle.std.specs.Prelude.{ℕ, ◌≡◌, true, List, [], ◌∷◌, replicate}
use Rattle.rv_image.specs.Cell.{Cell}
use Rattle.ct_pairs.specs.declared.place.Place.TheVariants.{Register}
use Rattle.ct_pairs.specs.declared.job.Job.{Job}

-- the learnt lines of a question, where nothing else is said
abbrev pub usual_budget : ℕ
usual_budget = 20_000

-- the targets of one indirect jump, where nothing else is said
abbrev pub usual_targets : ℕ
usual_targets = 16

-- one secret byte in a0, which is x10; every register 0, the stop address 0, the usual budget and targets
pub record IsByteJob (job : Job) (image : List Cell) (entry bound : ℕ) : Type 0 where
  pub has_image : job.image ≡ image
  pub has_entry : job.entry ≡ entry
  pub stops : job.stops ≡ 0 ∷ []
  pub registers : job.registers ≡ replicate 32 0
  pub inputs : job.inputs ≡ record { place = Register 10 0; secret = true } ∷ []
  pub has_bound : job.bound ≡ bound
  pub budget : job.budget ≡ usual_budget
  pub targets : job.targets ≡ usual_targets
