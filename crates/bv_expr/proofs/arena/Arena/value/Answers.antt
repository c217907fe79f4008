use Rattle.std.proofs.Common.{◌≡◌, ◌∙◌, ◌<◌, ◌+◌, length, arith, sym, ap, get_or, take, Some, ℕ, List}
use Rattle.std.specs.Prelude.{slice_get}
use Rattle.std.proofs.lemmas.List.{get_or_default, length-take-le}
use Rattle.std.proofs.lemmas.Option.{slice_get-get_or}
use Rattle.bv_expr.specs.declared.q_node.QNode.{QNode}
use Rattle.bv_expr.specs.declared.q_node.QNode.TheVariants.{Constant}
use Rattle.bv_expr.proofs.Lists.{in_whole}
use Rattle.bv_expr.proofs.Evaluating.{can_evaluate, evaluated_push, evaluated_is}
use Rattle.bv_expr.proofs.arena.Arena.value.Goals as goal

node_at : (nodes all : List QNode) (k i : ℕ) → nodes ≡ all → i < length (take k nodes) → slice_get all i ≡ Some (get_or (take k nodes) i (Constant 0 0))
node_at nodes all k i e lt = rw (← e) (in_whole nodes k i _ (slice_get-get_or (take k nodes) i (Constant 0 0) lt))

pub value-requires : goal.value-requires
value-requires c = rw c.as_slice.ensures.value
    (can_evaluate _ _ _ _ _ c.nodes.ensures.typed c.loop-node.invariant (node_at _ _ _ _ c.nodes.ensures.all c.loop-node-test.true))

pub loop-node-preserved : goal.loop-node-preserved
loop-node-preserved c = rw c.in_ok-push.ensures.items
    (evaluated_push _ _ _ _ c.value.result _ c.nodes.ensures.typed c.loop-node.invariant (node_at _ _ _ _ c.nodes.ensures.all c.loop-node-test.true)
    (rw (← c.as_slice.ensures.value) c.value.ensures.value) c.value.ensures.byte)

pub returns : goal.returns
returns c = λ v run.
    let long : length c.nodes.result.now ≡ length c.args.self.now = ap (λ (xs : List QNode). length xs) c.nodes.ensures.all in
    let cut = length-take-le (c.args.id.0 + 1) c.nodes.result.now (omega (arith, long, c.requires)) in
    let end : c.loop-node.node-index ≡ c.args.id.0 + 1 = omega (arith, cut, c.loop-node-test.false, c.loop-node.auto.node-index-end) in
    evaluated_is _ v _ _ c.loop-node.node-index c.args.id.0 c.nodes.ensures.typed c.loop-node.invariant (omega (arith, end, c.requires)) (omega (arith, end)) run
    ∙ sym (c.index.ensures ∙ get_or_default c.loop-node.results.items c.args.id.0 c.index.result.now 0 (omega (arith, end, c.loop-node.invariant.count)))
