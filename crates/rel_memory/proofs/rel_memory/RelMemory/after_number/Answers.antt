use Rattle.std.proofs.Common.{◌≡◌, Some, sym, ap, ◌∙◌}
use Rattle.bv_range.proofs.Walks.{AreRight-later}
use Rattle.rel_store.specs.Sides.{side_id}
use Rattle.rel_store.proofs.SideLaws.{HasSides-later}
use Rattle.rel_memory.specs.Contents.{Contents, kept_at}
use Rattle.rel_memory.proofs.Writing.{number_step}
use Rattle.rel_memory.proofs.rel_memory.RelMemory.after_number.Goals as goal

pub replaced-requires-clause-held : goal.replaced-requires-clause-held
replaced-requires-clause-held c =
    let is : kept_at c.args.self.now c.args.at ≡ Some c.in-Some.kept.now = ap (λ (m : Contents). kept_at m c.args.at) (sym c.self.view_is) ∙ sym c.in-Some.ensures.value in
    HasSides-later c.args.arena.now c.constant.new.self 1 8 c.in-Some.kept.now.held c.in_ok-number.ensures.extends (c.requires.memory.kept c.args.at c.in-Some.kept.now is).held

pub replaced-requires-clause-ranges : goal.replaced-requires-clause-ranges
replaced-requires-clause-ranges c = AreRight-later _ _ _ 1 c.in_ok-number.ensures.extends c.requires.ranges

pub returns-clause-value : goal.returns-clause-value
returns-clause-value c = λ env v bytes run right.
    let is : kept_at c.args.self.now c.args.at ≡ Some c.in-Some.kept.now = ap (λ (m : Contents). kept_at m c.args.at) (sym c.self.view_is) ∙ sym c.in-Some.ensures.value in
    number_step (λ kept. v (side_id right kept.held)) c.args.self.now c.args.at (v c.args.address.0) (v c.in_ok-number.number.0) (v (side_id right c.args.before)) (v (side_id right c.in_ok-byte.byte)) c.in-Some.kept.now
    (c.in_ok-number.ensures.value env v (c.in_ok-byte.ensures.extends.values env v run)) is (c.in_ok-byte.ensures.value env v bytes run right)
