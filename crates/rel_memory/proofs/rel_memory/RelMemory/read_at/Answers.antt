use Rattle.std.proofs.Common.{◌≡◌, ◌≤◌, Option, length, sym, ap, ◌∙◌, arith}
use Rattle.std.specs.Option.{option_map_or}
use Rattle.rel_store.specs.Sides.{side_id}
use Rattle.rel_memory.specs.declared.contents.Kept.{Kept}
use Rattle.rel_memory.specs.Contents.{Contents, passed}
use Rattle.rel_memory.proofs.ReadLaws.{byte_in-passed, byte_in-written}
use Rattle.bv_range.proofs.Walks.{AreRight-later}
use Rattle.rel_memory.proofs.rel_memory.RelMemory.read_at.Goals as goal

pub returns-in_err-first-clause-ranges : goal.returns-in_err-first-clause-ranges
returns-in_err-first-clause-ranges c = AreRight-later _ _ _ 1 c.first.ensures.extends c.requires.ranges

pub returns-then-passed-len-clause-ranges : goal.returns-then-passed-len-clause-ranges
returns-then-passed-len-clause-ranges c = AreRight-later _ _ _ 1 c.in_ok-first.ensures.extends c.requires.ranges

pub written_at-requires-clause-ranges : goal.written_at-requires-clause-ranges
written_at-requires-clause-ranges c = AreRight-later _ _ _ 1 c.in_ok-first.ensures.extends c.requires.ranges

pub returns-then-passed-len-clause-value : goal.returns-then-passed-len-clause-value
returns-then-passed-len-clause-value c = λ env v bytes run right.
    let over : length c.args.self.now.computed ≤ passed c.args.self.now c.args.at =
    omega (arith, c.if-passed-len.true, c.passed-passed.ensures.passed, c.len.ensures, c.self.inside.computed.ok.0, ap (λ (m : Contents). length m.computed) c.self.view_is) in
    c.in_ok-first.ensures.first.byte env v run right ∙ sym (byte_in-passed right v c.args.self.now c.args.at over)

pub returns-clause-value : goal.returns-clause-value
returns-clause-value c = λ env v bytes run right.
    byte_in-written right v c.args.self.now c.args.at (v (side_id right c.in_ok-first.first)) c.passed-passed.result (v (side_id right c.in_ok-byte.byte)) c.passed-passed.ensures.passed
    (c.in_ok-first.ensures.first.byte env v (c.in_ok-byte.ensures.extends.values env v run) right) (c.in_ok-byte.ensures.value env v bytes run right)

pub returns-clause-kept : goal.returns-clause-kept
returns-clause-kept c = λ one is all.
    let before : passed c.args.self.now c.args.at ≡ one.before = ap (λ (kept : Option Kept). option_map_or (λ (k : Kept). k.before) kept 0) is in
    absurd (omega (arith, c.if-passed-len.false, c.passed-passed.ensures.passed, c.len.ensures, c.self.inside.computed.ok.0, ap (λ (m : Contents). length m.computed) c.self.view_is, before, all))
