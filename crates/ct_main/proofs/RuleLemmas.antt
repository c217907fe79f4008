-- When the rules of a command's files give no refusal, and which they give.
use Rattle.std.proofs.Common.{◌≡◌, ℕ, List, [], ◌∷◌, Option, None, Some, option_map, refl, sym}
use Rattle.elf_load.specs.declared.refusal.ElfRefusal.{ElfRefusal}
use Rattle.elf_load.specs.declared.elf.Elf.{Elf}
use Rattle.elf_load.specs.File.{first_refusal}
use Rattle.elf_load.specs.Loading.{elf_of}
use Rattle.ct_pairs.specs.declared.entry.Entry.{Entry}
use Rattle.ct_pairs.specs.declared.job.Job.{Job}
use Rattle.ct_document.specs.declared.refusal.PolicyRefusal.{PolicyRefusal}
use Rattle.ct_policy.specs.declared.options.Options.{Options}
use Rattle.ct_policy.specs.ByteJob.{byte_refusal}
use Rattle.ct_policy.specs.Job.{IsJobOfBytes}
use Rattle.ct_policy.specs.Rules.{first_policy_refusal}
use Rattle.pair_replay.specs.FirstBadLine.{first_bad_line}
use Rattle.ct_main.specs.declared.refusal.Refusal.TheVariants.{Elf as FileRule, Policy as PolicyRule, PairText}
use Rattle.ct_main.specs.Phases.{policy_inputs, executable_rules, routine_rules, policy_rules, pair_rules}

pub executable_meets : (bytes : List ℕ) → first_refusal bytes ≡ None → executable_rules (bytes ∷ []) ≡ None
unfolding executable_rules
executable_meets bytes meets = rw meets refl

pub executable_fails : (bytes : List ℕ) (rule : ElfRefusal) → first_refusal bytes ≡ Some rule → executable_rules (bytes ∷ []) ≡ Some (FileRule rule)
unfolding executable_rules
executable_fails bytes rule fails = rw fails refl

pub routine_meets : (bytes : List ℕ) (entry : Entry) → first_refusal bytes ≡ None → byte_refusal (elf_of bytes) entry ≡ None → routine_rules entry (bytes ∷ []) ≡ None
unfolding routine_rules executable_rules
routine_meets bytes entry meets starts = rw (meets, starts) refl

pub routine_fails_file : (bytes : List ℕ) (entry : Entry) (rule : ElfRefusal) → first_refusal bytes ≡ Some rule → routine_rules entry (bytes ∷ []) ≡ Some (FileRule rule)
unfolding routine_rules executable_rules
routine_fails_file bytes entry rule fails = rw fails refl

pub routine_fails : (bytes : List ℕ) (entry : Entry) (rule : PolicyRefusal) → first_refusal bytes ≡ None → byte_refusal (elf_of bytes) entry ≡ Some rule → routine_rules entry (bytes ∷ []) ≡ Some (PolicyRule rule)
unfolding routine_rules executable_rules
routine_fails bytes entry rule meets fails = rw (meets, fails) refl

pub policy_meets : (bytes policy : List ℕ) → first_policy_refusal (elf_of bytes) policy ≡ None → policy_rules (bytes ∷ policy ∷ []) ≡ None
unfolding policy_rules
policy_meets bytes policy meets = rw meets refl

pub policy_fails : (bytes policy : List ℕ) (rule : PolicyRefusal) → first_policy_refusal (elf_of bytes) policy ≡ Some rule → policy_rules (bytes ∷ policy ∷ []) ≡ Some (PolicyRule rule)
unfolding policy_rules
policy_fails bytes policy rule fails = rw fails refl

pub pair_is : (bytes policy pair : List ℕ) (expected : Option ℕ) → first_bad_line (policy_inputs (elf_of bytes) policy) pair ≡ expected → pair_rules (bytes ∷ policy ∷ pair ∷ []) ≡ option_map (λ k. PairText k) expected
unfolding pair_rules
pair_is bytes policy pair expected is = rw is refl

-- the input bytes of a policy's job are those that the policy names
pub inputs_are : (elf : Elf) (options : Options) (bytes : List ℕ) (job : Job) → IsJobOfBytes elf options bytes job → policy_inputs elf bytes ≡ job.inputs
inputs_are elf options bytes job is = rw (is.is_document, is.is_policy) (sym is.job_is.inputs)
