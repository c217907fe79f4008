use Rattle.std.proofs.Common.{◌≡◌, ◌<◌, length, arith, ap, get_or, take, Some, ℕ, List, subst}
use Rattle.std.specs.Prelude.{slice_get, slice_index}
use Rattle.std.proofs.lemmas.List.{take_all}
use Rattle.std.proofs.lemmas.Option.{slice_get-get_or}
use Rattle.bv_expr.specs.declared.q_node.QNode.{QNode}
use Rattle.bv_expr.specs.declared.q_node.QNode.TheVariants.{Constant}
use Rattle.bv_expr.specs.Nodes.{IsValuation}
use Rattle.bv_expr.proofs.Evaluating.{can_evaluate, evaluated_push}
use Rattle.query_ask.proofs.meeting.evaluate.Goals as goal

node_at : (nodes all : List QNode) (i : ℕ) → nodes ≡ all → i < length nodes → slice_get all i ≡ Some (get_or nodes i (Constant 0 0))
node_at nodes all i e lt = rw (← e) (slice_get-get_or nodes i (Constant 0 0) lt)

pub value-requires : goal.value-requires
value-requires c = rw c.as_slice.ensures.value
    (can_evaluate _ _ _ _ _ c.law.ensures.typed c.loop-node.invariant (node_at _ _ _ c.nodes-node-items.ensures c.loop-node-test.true))

pub loop-node-preserved : goal.loop-node-preserved
loop-node-preserved c = rw c.in_ok-push.ensures.items
    (evaluated_push _ _ _ _ c.value.result _ c.law.ensures.typed c.loop-node.invariant (node_at _ _ _ c.nodes-node-items.ensures c.loop-node-test.true)
    (rw (← c.as_slice.ensures.value) c.value.ensures.value) c.value.ensures.byte)

pub returns : goal.returns
returns c =
    let long : length c.nodes-node-items.result.now ≡ length c.args.question.now.nodes = ap (λ (xs : List QNode). length xs) c.nodes-node-items.ensures in
    let all : take c.loop-node.node-index c.args.question.now.nodes ≡ c.args.question.now.nodes = take_all c.loop-node.node-index c.args.question.now.nodes (omega (arith, long, c.loop-node-test.false)) in
    let P : List QNode → Type 0 = λ ns. IsValuation (slice_index c.args.values.now.0) (slice_index c.loop-node.results.items) ns in
    subst P all c.loop-node.invariant.values
