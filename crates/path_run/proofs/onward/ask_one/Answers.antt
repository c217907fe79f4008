use Rattle.std.proofs.Common.{◌≢◌, refl, sym, ap, subst, arith}
use Rattle.std.specs.Prelude.{IsSome}
use Rattle.bv_expr.specs.Nodes.{HasWidth}
use Rattle.rel_step.specs.PathNodes.{PathNode}
use Rattle.path_run.specs.declared.walk.Walk.{Walk}
use Rattle.path_run.specs.declared.stage.Stage.TheVariants.{Nexts}
use Rattle.path_run.specs.Stages.{IsSplit, IsKeeping}
use Rattle.path_run.proofs.Bridging.{HaveValues}
use Rattle.path_run.proofs.OnwardLaws.{keeping_drop, never_goes, open_tells, open_can}
use Rattle.path_run.proofs.StandLaws.{stands_at, settled_false, can_some}
use Rattle.path_run.proofs.onward.ask_one.Goals as goal

pub settled-requires : goal.settled-requires
settled-requires c = (open_tells c.args.job.now c.args.node c.args.ways.rest.items c.args.one c.requires.keeping.todo).width

pub question-requires-clause-bit : goal.question-requires-clause-bit
question-requires-clause-bit c =
    subst (λ (n : PathNode). HasWidth n.nodes c.args.one.when.0 1) (sym c.settled.ensures.unchanged) (open_tells c.args.job.now c.args.node c.args.ways.rest.items c.args.one c.requires.keeping.todo).width

pub question-requires-clause-step : goal.question-requires-clause-step
question-requires-clause-step c = λ _.
    subst (λ (n : PathNode). IsSome n.last) (sym c.settled.ensures.unchanged) (can_some c.args.node c.args.one.next (open_can c.args.job.now c.args.node c.args.ways.rest.items c.args.one c.requires.keeping.todo))

pub returns-in-Some-false : goal.returns-in-Some-false
returns-in-Some-false c =
    stands_at c.args.job.now c.args.course _ _ c.at.result c.args.course c.settled.new.self (Nexts c.args.ways) (ap (λ (w : Walk). w.course) c.at.ensures) (ap (λ (w : Walk). w.stand) c.at.ensures)
    (subst (λ n. IsSplit c.args.job.now c.args.course n × IsKeeping c.args.job.now c.args.course n c.args.ways.kept.items c.args.ways.ends c.args.ways.doubts c.args.ways.rest.items) (sym c.settled.ensures.unchanged) (
      c.requires.split,
      keeping_drop c.args.job.now c.args.course c.args.node c.args.ways.kept.items c.args.ways.ends c.args.ways.doubts c.args.ways.rest.items c.args.one c.requires.keeping
          (never_goes c.args.job.now c.args.course c.args.node c.args.one c.requires.split (subst HaveValues c.arena.ensures c.law.ensures.exists) (open_tells c.args.job.now c.args.node c.args.ways.rest.items c.args.one c.requires.keeping.todo)
          (settled_false c.args.node.nodes c.args.one.when.0 c.in_ok-settled.field-0 c.in-Some-false.field-0 c.in-Some-false.is c.in-Some-false.field-0-test c.in_ok-settled.ensures.right)),
    ))
    refl (omega arith) refl (λ budget h. h) refl
