use Rattle.std.proofs.Common.{◌≡◌, ℕ, ◌+◌, cond, eqb, ap, ◌∙◌, arith}
use Rattle.ct_words.specs.Words.{flag}
use Rattle.bv_expr.proofs.Growing.{Extends-then}
use Rattle.bv_range.proofs.Walks.{AreRight-later}
use Rattle.rv_image.specs.Image.{allowed_at}
use Rattle.rv_machine.specs.Step.{wrapped}
use Rattle.rel_memory.proofs.SpanLaws.{sum_is}
use Rattle.rel_memory.proofs.rel_memory.RelMemory.next_allowed.Goals as goal

pub returns-in_err-next-clause-ranges : goal.returns-in_err-next-clause-ranges
returns-in_err-next-clause-ranges c = AreRight-later _ _ _ 2 (Extends-then _ _ _ 1 1 2 c.in_ok-number.ensures.extends c.alu.ensures.extends (omega arith)) c.requires.ranges

pub byte_allowed-requires-clause-ranges : goal.byte_allowed-requires-clause-ranges
byte_allowed-requires-clause-ranges c = AreRight-later _ _ _ 2 (Extends-then _ _ _ 1 1 2 c.in_ok-number.ensures.extends c.in_ok-next.ensures.extends (omega arith)) c.requires.ranges

pub returns-clause-ranges : goal.returns-clause-ranges
returns-clause-ranges c = AreRight-later _ _ _ 1 c.in_ok-both.ensures.extends c.in_ok-one.ensures.ranges

pub returns-clause-value : goal.returns-clause-value
returns-clause-value c = λ env v bytes run.
    let later = c.in_ok-both.ensures.extends.values env v run in
    let middle = c.in_ok-one.ensures.extends.values env v later in
    let first = c.in_ok-next.ensures.extends.values env v middle in
    let next : v c.in_ok-next.next.0 ≡ wrapped (v c.args.address.0 + c.args.offset) =
    c.in_ok-next.ensures.value env v middle ∙ sum_is (v c.args.address.0) (v c.in_ok-number.number.0) ∙ ap (λ (n : ℕ). wrapped (v c.args.address.0 + n)) (c.in_ok-number.ensures.value env v first) in
    c.in_ok-both.ensures.value env v run
    ∙ ap (λ (n : ℕ). cond (eqb (v c.args.before.0) 0) 0 n) (c.in_ok-one.ensures.value env v bytes later ∙ ap (λ (a : ℕ). flag (allowed_at c.args.right c.args.self.now.image a)) next)
