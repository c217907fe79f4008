use Rattle.std.proofs.Common.{◌∙◌}
use Rattle.query_ask.proofs.PartLaws.{in_same, part_of, part_question}
use Rattle.query_ask.proofs.parts.grown.Goals as goal

pub with_broken-requires : goal.with_broken-requires
with_broken-requires c = in_same _ _ c.args.question.now.conjuncts c.args.part.conjuncts c.conjuncts-2.ensures (c.in_ok-chosen.ensures.items ∙ c.conjuncts.ensures) c.requires.conjuncts

pub with_conjuncts-requires : goal.with_conjuncts-requires
with_conjuncts-requires c = part_question c.args.question.now _ c.law.ensures
    (part_of c.args.question.now c.args.part.vars c.args.part.nodes c.conjuncts-2.result.now c.from_vec.result c.in_ok-more.more.items c.args.part.asked c.requires.vars c.requires.nodes c.requires.asked c.conjuncts-2.ensures c.from_vec.ensures c.in_ok-more.ensures)

pub returns : goal.returns
returns c = rw c.with_conjuncts.ensures
    (part_of c.args.question.now c.args.part.vars c.args.part.nodes c.conjuncts-2.result.now c.from_vec.result c.in_ok-more.more.items c.args.part.asked c.requires.vars c.requires.nodes c.requires.asked c.conjuncts-2.ensures c.from_vec.ensures c.in_ok-more.ensures)
