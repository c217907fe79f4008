use Rattle.std.proofs.Common.{sym, ap, ◌∙◌}
use Rattle.ct_words.specs.Words.{flag}
use Rattle.bv_range.proofs.Walks.{AreRight-later}
use Rattle.rel_memory.proofs.rel_memory.RelMemory.allowed.Goals as goal

pub returns-in-Constant-clause-ranges : goal.returns-in-Constant-clause-ranges
returns-in-Constant-clause-ranges c = AreRight-later _ _ _ 1 c.in_ok-bit.ensures.extends c.requires.ranges

pub returns-then-are_allowed-clause-value : goal.returns-then-are_allowed-clause-value
returns-then-are_allowed-clause-value c = λ env v bytes run.
    let oldest = c.in_ok-one.ensures.extends.values env v run in
    c.in_ok-one.ensures.value env v run ∙ ap flag (sym (c.are_allowed.ensures c.if-are_allowed.true (v c.args.address.0) (c.in_ok-range.ensures.range.right env v bytes oldest)))

pub returns-then-are_allowed-clause-ranges : goal.returns-then-are_allowed-clause-ranges
returns-then-are_allowed-clause-ranges c = AreRight-later _ _ _ 1 c.in_ok-one.ensures.extends c.in_ok-range.ensures.kept
