use Rattle.std.proofs.Common.{◌<◌, true, false, length, ap, subst, arith}
use Rattle.rel_store.specs.Sides.{side_id}
use Rattle.rel_store.specs.declared.rel_value.RelValue.{RelValue}
use Rattle.rel_step.proofs.Simpler.{simpler_sides}
use Rattle.rel_step.proofs.simplifying.simplify_value.Goals as goal

pub simplify-requires-clause-inside : goal.simplify-requires-clause-inside
simplify-requires-clause-inside g c =
    let P : RelValue → Type 0 = λ value. side_id false value < length c.args.arena.now in
    subst P c.in-Same.is (c.requires.inside false)

pub simplify-requires-in-Both-clause-inside : goal.simplify-requires-in-Both-clause-inside
simplify-requires-in-Both-clause-inside g c =
    let P : RelValue → Type 0 = λ value. side_id false value < length c.args.arena.now in
    subst P c.in-Both.is (c.requires.inside false)

pub simplify-requires-in-Both-2-clause-inside : goal.simplify-requires-in-Both-2-clause-inside
simplify-requires-in-Both-2-clause-inside g c =
    let P : RelValue → Type 0 = λ value. side_id true value < length c.args.arena.now in
    let h : c.in-Both.right.0 < length c.args.arena.now = subst P c.in-Both.is (c.requires.inside true) in
    omega (arith, h, c.in_ok-first-in-Both.ensures.extends.least)

pub returns-in_ok-second-in-Both-clause-answer : goal.returns-in_ok-second-in-Both-clause-answer
returns-in_ok-second-in-Both-clause-answer g c =
    simpler_sides c.args.arena.now c.simplify-in-Both.new.arena c.simplify-in-Both-2.new.arena 32 c.in-Both.left.0 c.in-Both.right.0 c.in_ok-first-in-Both.first.0 c.in_ok-second-in-Both.second.0 c.args.value c.of.result
    c.in_ok-first-in-Both.ensures.extends c.in_ok-second-in-Both.ensures.extends c.in_ok-first-in-Both.ensures.answer c.in_ok-second-in-Both.ensures.answer
    (ap (side_id false) c.in-Both.is) (ap (side_id true) c.in-Both.is) c.of.ensures.left c.of.ensures.right
