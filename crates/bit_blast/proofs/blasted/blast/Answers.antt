use Rattle.std.proofs.Common.{◌∙◌, sym, subst, ℕ, List}
use Rattle.std.proofs.lemmas.List.Elements.{All-map}
use Rattle.std.specs.Prelude.{All}
use Rattle.bv_expr.specs.Nodes.{HasWidth}
use Rattle.bv_expr.specs.declared.expr_id.ExprId.{ExprId}
use Rattle.bv_expr.specs.declared.q_node.QNode.{QNode}
use Rattle.bit_blast.proofs.blasted.blast.Goals as goal

pub blast_nodes-requires-clause-roots : goal.blast_nodes-requires-clause-roots
blast_nodes-requires-clause-roots c =
    let P : List ℕ → Type 0 = λ xs. All (λ r. HasWidth c.nodes.result.now r 1) xs in
    let Q : List QNode → Type 0 = λ ns. All (λ (r : ExprId). HasWidth ns r.0 1) c.args.roots.now in
    subst P (sym (c.as_slice.ensures.value ∙ c.in_ok-numbers.ensures))
    (All-map (λ r. HasWidth c.nodes.result.now r 1) (λ (id : ExprId). id.0) c.args.roots.now (subst Q (sym c.nodes.ensures.all) c.requires))
