use Rattle.std.proofs.Common.{sym, ◌∙◌}
use Rattle.ct_policy.proofs.Meeting.{meets_value_rules, has_numbers}
use Rattle.ct_policy.proofs.reading.read.Goals as goal

pub memory_refusal-requires-clause-short : goal.memory_refusal-requires-clause-short
memory_refusal-requires-clause-short c =
    let policy = c.in_ok-policy.policy in
    let passes = sym c.in_ok-refusal.ensures ∙ c.in_default.is in
    (has_numbers policy (meets_value_rules policy passes).numbers).input_count
