-- The job of a policy.
use Rattle.std.specs.Prelude.{ℕ, ◌≡◌, List, map, Some, None, unwrap_or}
use Rattle.elf_load.specs.declared.elf.Elf.{Elf}
use Rattle.rv_image.specs.Loading.{cells_of}
use Rattle.toml.specs.Data.{Data}
use Rattle.ct_pairs.specs.declared.job.Job.{Job}
use Rattle.ct_policy.specs.declared.options.Options.{Options}
use Rattle.ct_document.specs.declared.policy.Policy.{Policy}
use Rattle.ct_document.specs.Document.{document_of}
use Rattle.ct_policy.specs.Numbers.{word_of, address_word}
use Rattle.ct_document.specs.Keys.{policy_of}
use Rattle.ct_policy.specs.Policy.{register_values, extra_spans, all_input_bytes}
use Rattle.ct_policy.specs.Rules.{first_policy_refusal}

-- the job of a policy in a file, with a bound of the options in place of its own
pub record IsJobOf (elf : Elf) (options : Options) (policy : Policy) (job : Job) : Type 0 where
  pub image : job.image ≡ cells_of elf (extra_spans policy)
  pub entry : job.entry ≡ address_word policy.entry
  pub stops : job.stops ≡ map address_word policy.stops
  pub registers : job.registers ≡ register_values policy.registers
  pub inputs : job.inputs ≡ all_input_bytes policy
  pub bound : job.bound ≡ unwrap_or options.bound (word_of policy.bound)
  pub budget : job.budget ≡ options.budget
  pub targets : job.targets ≡ options.targets

-- bytes stand for a job: they are a document that is a policy, which meets every rule, and the job is the policy's
pub record IsJobOfBytes (elf : Elf) (options : Options) (bytes : List ℕ) (job : Job) : Type 0 where
  pub document : Data
  pub policy : Policy
  pub is_document : document_of bytes ≡ Some document
  pub is_policy : policy_of elf document ≡ Some policy
  pub meets : first_policy_refusal elf bytes ≡ None
  pub job_is : IsJobOf elf options policy job
