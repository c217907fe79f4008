use Rattle.std.proofs.Common.{◌+◌, ℕ, List, take, subst, sym, get_or}
use Rattle.std.proofs.lemmas.List.{take_more}
use Rattle.bv_expr.specs.declared.q_node.QNode.{QNode}
use Rattle.bv_expr.specs.declared.q_node.QNode.TheVariants.{Constant}
use Rattle.query_ask.specs.Answers.{AreVariables}
use Rattle.query_ask.specs.Trying.{with_variable}
use Rattle.query_ask.proofs.TryingLaws.{variables_more}
use Rattle.query_ask.proofs.trying.variables_of.Goals as goal

pub loop-node-preserved : goal.loop-node-preserved
loop-node-preserved c =
    let i = c.loop-node.node-index in
    let keys = c.loop-node.variables.keys in
    let n = get_or c.args.nodes.now i (Constant 0 0) in
    let P : List ℕ → Type 0 = λ ks. AreVariables (take (i + 1) c.args.nodes.now) ks in
    let Q : List QNode → Type 0 = λ ns. AreVariables ns (with_variable keys n) in
    subst P (sym c.in_ok-add.ensures) (subst Q (sym (take_more c.args.nodes.now i (Constant 0 0) c.loop-node-test.true)) (variables_more (take i c.args.nodes.now) n keys c.loop-node.invariant))
