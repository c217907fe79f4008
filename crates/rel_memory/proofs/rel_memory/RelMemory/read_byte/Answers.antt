use Rattle.std.proofs.Common.{sym, ap, ◌∙◌, arith}
use Rattle.rel_memory.specs.Contents.{byte_in}
use Rattle.rel_memory.proofs.ReadLaws.{only_number}
use Rattle.rel_memory.proofs.GrowthLaws.{Grows-of, Extends-of}
use Rattle.rel_memory.proofs.rel_memory.RelMemory.read_byte.Goals as goal

pub returns-in-Constant-clause-value : goal.returns-in-Constant-clause-value
returns-in-Constant-clause-value c = λ env v bytes run accessible right.
    let oldest = c.in_ok-number.ensures.extends.values env v run in
    c.in_ok-number.ensures.value env v bytes run right ∙ ap (byte_in right v c.args.self.now) (sym (oldest.at _ _ c.in-Constant.ensures.node))

pub returns-in-Constant-clause-extends : goal.returns-in-Constant-clause-extends
returns-in-Constant-clause-extends c = Extends-of _ _ _ (Grows-of _ _ _ c.in_ok-number.ensures.extends) (omega (arith, c.in_ok-number.ensures.extends.most))

pub returns-in_err-number-clause-extends : goal.returns-in_err-number-clause-extends
returns-in_err-number-clause-extends c = Extends-of _ _ _ (Grows-of _ _ _ c.read_at.ensures.extends) (omega (arith, c.read_at.ensures.extends.most))

pub returns-then-range-clause-value : goal.returns-then-range-clause-value
returns-then-range-clause-value c = λ env v bytes run accessible right.
    let oldest = c.in_ok-only.ensures.extends.values env v run in
    c.in_ok-only.ensures.value env v bytes run right
    ∙ ap (byte_in right v c.args.self.now) (sym (only_number c.in_ok-range.range (v c.args.address.0) (c.in_ok-range.ensures.range.right env v bytes oldest) c.if-range.true))

pub returns-then-range-clause-extends : goal.returns-then-range-clause-extends
returns-then-range-clause-extends c = Extends-of _ _ _ (Grows-of _ _ _ c.in_ok-only.ensures.extends) (omega (arith, c.in_ok-only.ensures.extends.most))

pub returns-in_err-only-clause-extends : goal.returns-in_err-only-clause-extends
returns-in_err-only-clause-extends c = Extends-of _ _ _ (Grows-of _ _ _ c.read_at-then-range.ensures.extends) (omega (arith, c.read_at-then-range.ensures.extends.most))
