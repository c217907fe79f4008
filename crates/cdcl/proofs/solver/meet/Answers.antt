use Rattle.std.proofs.Common.{sym, ◌∙◌}
use Rattle.cdcl.proofs.PropagationLaws.{Grows-same}
use Rattle.cdcl.proofs.SearchLaws.{refuted, spent}
use Rattle.cdcl.proofs.StepLaws.{learned_on}
use Rattle.cdcl.proofs.solver.meet.Goals as goal

pub returns-then-level-eq0 : goal.returns-then-level-eq0
returns-then-level-eq0 c =
    let run = c.args.run.now in
    let e = c.in_ok-line.ensures in
    refuted c.args.cnf.now.vars c.args.cnf.now.clauses c.args.budget run.trail run.clauses run.log c.push.new.self c.in_ok-line.line c.requires.state e.derived (e.empty (sym c.level.ensures ∙ c.if-level-eq0.true)) c.in_ok-push.ensures.pushed

pub returns-then-is_spent : goal.returns-then-is_spent
returns-then-is_spent c =
    let run = c.args.run.now in
    let e = c.in_ok-line.ensures in
    spent c.args.cnf.now.vars c.args.cnf.now.clauses c.args.budget run.trail run.trail run.clauses run.log c.in_ok-line.line c.requires.state (Grows-same run.clauses run.trail c.requires.state.is_trail) e.derived e.learnt (λ z. c.if-level-eq0.false (c.level.ensures ∙ z)) c.if-is_spent.ensures

pub returns : goal.returns
returns c =
    let e = c.in_ok-line.ensures in
    let f = c.in_ok-learn.ensures in
    learned_on c.args.cnf.now.vars c.args.cnf.now.clauses c.args.budget c.args.run.now c.learn-2.new.self c.args.pace.now c.learn-3.new.self c.in_ok-line.line c.requires.state e.derived e.learnt (λ z. c.if-level-eq0.false (c.level.ensures ∙ z)) c.if-is_spent.ensures f.vars f.clauses f.log f.in_range f.trail f.watched
