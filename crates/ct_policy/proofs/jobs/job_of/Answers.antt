use Rattle.std.proofs.Common.{◌∙◌, ap, rules}
use Rattle.std.proofs.lemmas.Result.{err_from_is_err_and}
use Rattle.rv_image.specs.Loading.{cells_of}
use Rattle.ct_policy.specs.Rules.{can_start}
use Rattle.ct_policy.proofs.Fitting.{can_build}
use Rattle.ct_policy.proofs.JobLemmas.{limits_of, ends_in_memory}
use Rattle.ct_policy.proofs.Meeting.{meets_memory_rules}
use Rattle.ct_policy.proofs.jobs.job_of.Goals as goal

pub startable_image-requires : goal.startable_image-requires
startable_image-requires c =
    let elf = c.args.elf.now in
    let policy = c.args.policy.now in
    rw (c.deref.ensures.value, c.in_ok-spans.ensures) (can_build elf policy (meets_memory_rules elf policy c.requires.memory).fit)

pub returns-in_err-image-clause-refused : goal.returns-in_err-image-clause-refused
unfolding can_start
returns-in_err-image-clause-refused c =
    let given = err_from_is_err_and c.from_residual-in_err-image.result c.from_residual-in_err-image.ensures.1 in
    let spans = c.deref.ensures.value ∙ c.in_ok-spans.ensures in
    rw (given.1, given.2) (λ other. rw (spans, c.address_word-entry.ensures) at (c.in_err-image.ensures.refused other))

pub all_input_bytes-requires : goal.all_input_bytes-requires
all_input_bytes-requires c =
    rw c.as_slice-3.ensures (ends_in_memory c.args.elf.now c.args.policy.now c.requires.values c.requires.memory)

pub invariant_of-result : goal.invariant_of-result
invariant_of-result c =
    let elf = c.args.elf.now in
    let policy = c.args.policy.now in
    let limits = limits_of elf policy c.args.options.now c.requires.options c.requires.values c.requires.memory in
    let image = c.in_ok-image.ensures.image ∙ ap (cells_of elf) (c.deref.ensures.value ∙ c.in_ok-spans.ensures) in
    let stops = c.from_vec.ensures ∙ c.in_ok-stops.ensures in
    let registers = c.from_vec-2.ensures ∙ c.in_ok-registers.ensures in
    let inputs = c.from_vec-3.ensures ∙ c.in_ok-inputs.ensures in
    record { limits = rw (image, stops, registers, inputs, c.as_slice.ensures, c.as_slice-2.ensures, c.as_slice-3.ensures, c.bound_of.ensures) limits }

pub returns-clause-job : goal.returns-clause-job
unfolding can_start
returns-clause-job c =
    let elf = c.args.elf.now in
    let spans = c.deref.ensures.value ∙ c.in_ok-spans.ensures in (
      rw (spans, c.address_word-entry.ensures) at c.in_ok-image.ensures.starts,
      record {
        image = c.in_ok-image.ensures.image ∙ ap (cells_of elf) spans;
        entry = c.address_word-entry.ensures;
        stops = rw c.as_slice.ensures at (c.from_vec.ensures ∙ c.in_ok-stops.ensures);
        registers = rw c.as_slice-2.ensures at (c.from_vec-2.ensures ∙ c.in_ok-registers.ensures);
        inputs = rw c.as_slice-3.ensures at (c.from_vec-3.ensures ∙ c.in_ok-inputs.ensures);
        bound = c.bound_of.ensures;
        budget = search rules;
        targets = search rules;
      },
    )
