-- The limits of a job.
use Rattle.std.specs.Prelude.{ℕ, ◌≡◌, ◌≤◌, IsTrue, List, length}
use Rattle.std.specs.List.{list_all}
use Rattle.elf_load.specs.Numbers.{most_memory}
use Rattle.rv_image.specs.Cell.{Cell}
use Rattle.ct_pairs.specs.declared.input_byte.InputByte.{InputByte}
use Rattle.ct_pairs.specs.Inputs.{is_place, places_differ}

-- the most steps of a run
abbrev pub most_bound : ℕ
most_bound = 100_000

-- the most stop addresses
abbrev pub most_stops : ℕ
most_stops = 64

-- the most input bytes
abbrev pub most_inputs : ℕ
most_inputs = 4096

-- the most learnt lines of a question
abbrev pub most_budget : ℕ
most_budget = 1_000_000

-- the most targets of one indirect jump
abbrev pub most_targets : ℕ
most_targets = 256

-- how many steps a run may have
pub record IsBound (bound : ℕ) : Type 0 where
  pub least : 1 ≤ bound
  pub most : bound ≤ most_bound

-- what every job keeps
pub record AreLimits (image : List Cell) (stops registers : List ℕ) (inputs : List InputByte) (bound budget targets : ℕ) : Type 0 where
  pub accessible_bytes : length image ≤ most_memory
  pub stop_count : length stops ≤ most_stops
  pub register_count : length registers ≡ 32
  pub input_count : length inputs ≤ most_inputs
  pub bound_least : 1 ≤ bound
  pub bound_most : bound ≤ most_bound
  pub budget_most : budget ≤ most_budget
  pub targets_least : 1 ≤ targets
  pub targets_most : targets ≤ most_targets
  pub are_places : IsTrue (list_all (λ input. is_place image input.place) inputs)
  pub differ : IsTrue (places_differ inputs)
