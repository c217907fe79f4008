use Rattle.std.proofs.Common.{◌∙◌}
use Rattle.query_ask.proofs.PartLaws.{part_of, part_question}
use Rattle.query_ask.proofs.parts.last_part.Goals as goal

pub new-requires : goal.new-requires
new-requires c = part_question c.args.question.now _ c.law.ensures
    (part_of c.args.question.now c.vars.result c.from_vec.result c.conjuncts.result.now c.from_vec-2.result c.in_ok-conjuncts.conjuncts.items c.asked.result c.vars.ensures (c.from_vec.ensures ∙ c.in_ok-nodes.ensures.items ∙ c.nodes.ensures) c.asked.ensures c.conjuncts.ensures c.from_vec-2.ensures c.in_ok-conjuncts.ensures)

pub returns : goal.returns
returns c = rw c.new.ensures
    (part_of c.args.question.now c.vars.result c.from_vec.result c.conjuncts.result.now c.from_vec-2.result c.in_ok-conjuncts.conjuncts.items c.asked.result c.vars.ensures (c.from_vec.ensures ∙ c.in_ok-nodes.ensures.items ∙ c.nodes.ensures) c.asked.ensures c.conjuncts.ensures c.from_vec-2.ensures c.in_ok-conjuncts.ensures)
