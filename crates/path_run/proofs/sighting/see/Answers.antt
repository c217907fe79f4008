use Rattle.std.proofs.Common.{◌≡◌, ◌++◌, ◌∷◌, [], ℕ, List, true, ◌∙◌, sym, ap, subst, slice_index}
use Rattle.bv_expr.specs.declared.q_node.QNode.{QNode}
use Rattle.bv_expr.specs.Nodes.{IsValuation}
use Rattle.ct_pairs.specs.declared.pair.Pair.{Pair}
use Rattle.ct_entries.specs.Entries.{GoesTo}
use Rattle.path_run.specs.Stages.{IsJumping}
use Rattle.path_run.proofs.Bridging.{HaveValues}
use Rattle.path_run.proofs.JumpLaws.{jumping_more}
use Rattle.path_run.proofs.TargetLaws.{sees_target}
use Rattle.path_run.proofs.sighting.see.Goals as goal

pub returns-clause-jumping : goal.returns-clause-jumping
returns-clause-jumping c =
    let sees =
    sees_target c.args.job.now c.args.course.now c.args.node.now c.args.jumps.target.0 c.args.jumps.others.0 c.in_ok-next.next c.args.jumps.seen.items c.args.values.now c.requires.split (subst HaveValues c.arena.ensures c.law.ensures.exists) c.requires.jumping c.requires.told c.values_law.ensures
    (subst (λ (ns : List QNode). (v : ℕ → ℕ) → IsValuation (slice_index c.args.values.now.0) v ns → v c.args.jumps.target.0 ≡ c.in_ok-next.next) c.arena-2.ensures c.in_ok-next.ensures) in
    subst (IsJumping c.args.job.now c.args.course.now c.but_not.new.node c.args.jumps.target.0 c.in_ok-others.others.0) (sym c.in_ok-push.ensures.items)
    (jumping_more c.args.job.now c.args.course.now c.args.node.now c.but_not.new.node 4 c.args.jumps.target.0 c.args.jumps.others.0 c.in_ok-others.others.0 c.args.jumps.seen.items (record { next = c.in_ok-next.next; pair = c.in_ok-pair.pair }) c.requires.jumping c.but_not.ensures.extends c.but_not.ensures.keeps.here c.but_not.ensures.last c.in_ok-others.ensures.width c.in_ok-others.ensures.value c.requires.few
    (subst (λ (p : Pair). GoesTo c.args.job.now c.args.course.now.at.items p c.in_ok-next.next) (sym c.in_ok-pair.ensures) sees.goes) sees.new)
