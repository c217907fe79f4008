use Rattle.std.proofs.Common.{ℕ}
use Rattle.cdcl.specs.Trail.{lits_of, IsFalsified}
use Rattle.cdcl.specs.Watch.{AreGuarded}
use Rattle.cdcl.specs.declared.run.Run.{Run}
use Rattle.cdcl.specs.declared.step.Step.TheVariants.{Onward}
use Rattle.cdcl.proofs.RunLaws.{option_none}
use Rattle.cdcl.proofs.StepLaws.{propagated_state, stepped_from, decided_on, restarted_on, solved_on}
use Rattle.cdcl.proofs.solver.step.Goals as goal

pub returns-then-pace : goal.returns-then-pace
returns-then-pace c =
    let vars : ℕ = c.args.cnf.now.vars in
    let formula = c.args.cnf.now.clauses in
    let old : Run = c.args.run.now in
    let mid : Run = c.propagate.new.self in
    let new : Run = c.restart.new.self in
    let p = c.in_ok-conflict.ensures in
    let r = c.in_ok-restart.ensures in
    stepped_from vars formula c.args.budget old mid new c.args.pace.now c.restart-then-pace.new.self Onward p.log p.grows
    (restarted_on vars formula c.args.budget mid new c.args.pace.now c.restart-then-pace.new.self (propagated_state vars formula c.args.budget old mid c.requires p.clauses p.log p.grows) c.if-pace.true c.restart-then-pace.ensures r.clauses r.log r.vars r.entries r.watched)

pub returns-in_ok-decide-in-Some-next_literal : goal.returns-in_ok-decide-in-Some-next_literal
returns-in_ok-decide-in-Some-next_literal c =
    let vars : ℕ = c.args.cnf.now.vars in
    let formula = c.args.cnf.now.clauses in
    let old : Run = c.args.run.now in
    let mid : Run = c.propagate.new.self in
    let new : Run = c.decide.new.self in
    let pace = c.args.pace.now in
    let p = c.in_ok-conflict.ensures in
    let r = c.in_ok-decide-in-Some-next_literal.ensures in
    let lit = c.in-Some-next_literal.lit in
    let free = c.in-Some-next_literal.ensures.free in
    let quiet = option_none c.in_ok-conflict.field-0 (AreGuarded mid.pairs.items (lits_of mid.trail.entries) (lits_of mid.trail.entries)) (λ number. IsFalsified mid.clauses number (lits_of mid.trail.entries)) c.in_default.is p.found in
    stepped_from vars formula c.args.budget old mid new pace pace Onward p.log p.grows
    (decided_on vars formula c.args.budget mid new pace lit (propagated_state vars formula c.args.budget old mid c.requires p.clauses p.log p.grows) p.propagated quiet free.0 free.1 r.clauses r.log r.vars r.entries r.watched)

pub returns-in_ok-found-in-None : goal.returns-in_ok-found-in-None
returns-in_ok-found-in-None c =
    let vars : ℕ = c.args.cnf.now.vars in
    let formula = c.args.cnf.now.clauses in
    let old : Run = c.args.run.now in
    let mid : Run = c.propagate.new.self in
    let p = c.in_ok-conflict.ensures in
    let found = c.in_ok-found-in-None in
    let quiet = option_none c.in_ok-conflict.field-0 (AreGuarded mid.pairs.items (lits_of mid.trail.entries) (lits_of mid.trail.entries)) (λ number. IsFalsified mid.clauses number (lits_of mid.trail.entries)) c.in_default.is p.found in
    solved_on vars formula c.args.budget mid found.found.values (propagated_state vars formula c.args.budget old mid c.requires p.clauses p.log p.grows) p.propagated quiet c.in-None.ensures.full found.ensures.values found.ensures.count
