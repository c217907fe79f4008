use Rattle.std.proofs.Common.{◌∙◌, refl}
use Rattle.query_ask.proofs.FormulaLaws.{formula_from}
use Rattle.query_ask.proofs.formula.formula_of.Goals as goal

pub returns : goal.returns
returns c =
    formula_from c.args.question.now c.nodes.result.now c.as_slice.result.now c.in_ok-blasted.blasted.gates c.in_ok-blasted.blasted.vars.items c.in_ok-blasted.blasted.roots.items c.as_slice-2.result.now _
    c.law.ensures c.net_law.ensures.net c.nodes.ensures (c.as_slice.ensures.value ∙ c.in_ok-roots.ensures) c.as_slice-2.ensures.value
    c.in_ok-blasted.ensures.roots c.in_ok-blasted.ensures.vars c.in_ok-blasted.ensures.inputs c.in_ok-blasted.ensures.few refl refl c.in_ok-cnf.ensures.vars c.in_ok-cnf.ensures.solutions
