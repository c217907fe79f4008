use Rattle.std.proofs.Common.{◌≡◌, ℕ, true, List, length, Option, None, sym, ◌∙◌, subst}
use Rattle.std.specs.Option.{MatchOption}
use Rattle.cnf_form.specs.declared.lit.Lit.{Lit}
use Rattle.cnf_form.specs.News.{are_quiet}
use Rattle.cdcl.specs.Trail.{lits_of, IsFalsified}
use Rattle.cdcl.proofs.SearchLaws.{begun, solved, refuted, spent, few, lean, decided, learned, smaller-learned, smaller-decided}
use Rattle.cdcl.proofs.laws.search_scan.Goals as goal

quiet_none : (given : List Lit) (clauses : List (List Lit)) (found : Option ℕ) → found ≡ None → MatchOption found (are_quiet given clauses ≡ true) (λ number. IsFalsified clauses number given) → are_quiet given clauses ≡ true
quiet_none given clauses found e h = subst (λ (o : Option ℕ). MatchOption o (are_quiet given clauses ≡ true) (λ number. IsFalsified clauses number given)) e h

pub search-init : goal.search-init
search-init c = begun c.args.cnf.now.vars c.args.cnf.now.clauses c.args.budget c.in_ok-trail.trail c.in_ok-clauses.clauses c.new-log.result c.args.cnf.now.in_range c.in_ok-trail.ensures c.in_ok-clauses.ensures c.new-log.ensures

pub returns-then-level-eq0-clause-searched : goal.returns-then-level-eq0-clause-searched
returns-then-level-eq0-clause-searched c =
    refuted c.args.cnf.now.vars c.args.cnf.now.clauses c.args.budget c.search.trail c.search.clauses c.search.log c.push.new.self c.in_ok-line-in-Some.line c.search.invariant c.in_ok-line-in-Some.ensures.derived (c.in_ok-line-in-Some.ensures.empty (sym c.level.ensures ∙ c.if-level-eq0.true)) c.in_ok-push-in-Some.ensures.pushed

pub returns-then-is_spent-clause-searched : goal.returns-then-is_spent-clause-searched
returns-then-is_spent-clause-searched c =
    spent c.args.cnf.now.vars c.args.cnf.now.clauses c.args.budget c.search.trail c.propagate.new.trail c.search.clauses c.search.log c.in_ok-line-in-Some.line c.search.invariant c.in_ok-conflict.ensures.grows c.in_ok-line-in-Some.ensures.derived c.in_ok-line-in-Some.ensures.learnt (λ z. c.if-level-eq0.false (c.level.ensures ∙ z)) c.if-is_spent.ensures

pub returns-then-is_spent-clause-lean : goal.returns-then-is_spent-clause-lean
returns-then-is_spent-clause-lean c = lean c.args.cnf.now.vars c.args.cnf.now.clauses c.args.budget c.search.log c.args.cnf.now.in_range
    (spent c.args.cnf.now.vars c.args.cnf.now.clauses c.args.budget c.search.trail c.propagate.new.trail c.search.clauses c.search.log c.in_ok-line-in-Some.line c.search.invariant c.in_ok-conflict.ensures.grows c.in_ok-line-in-Some.ensures.derived c.in_ok-line-in-Some.ensures.learnt (λ z. c.if-level-eq0.false (c.level.ensures ∙ z)) c.if-is_spent.ensures)

pub returns-then-is_spent-clause-few : goal.returns-then-is_spent-clause-few
returns-then-is_spent-clause-few c = few c.args.cnf.now.vars c.args.cnf.now.clauses c.args.budget c.search.log c.args.cnf.now.in_range
    (spent c.args.cnf.now.vars c.args.cnf.now.clauses c.args.budget c.search.trail c.propagate.new.trail c.search.clauses c.search.log c.in_ok-line-in-Some.line c.search.invariant c.in_ok-conflict.ensures.grows c.in_ok-line-in-Some.ensures.derived c.in_ok-line-in-Some.ensures.learnt (λ z. c.if-level-eq0.false (c.level.ensures ∙ z)) c.if-is_spent.ensures)

pub search-smaller-in-Some : goal.search-smaller-in-Some
search-smaller-in-Some c =
    smaller-learned c.args.budget c.search.trail c.propagate.new.trail c.learn.new.trail c.search.clauses c.search.log c.learn.new.log c.in_ok-line-in-Some.line c.search.invariant.count c.if-is_spent.ensures c.in_ok-conflict.ensures.grows c.in_ok-learn-in-Some.ensures.vars c.in_ok-learn-in-Some.ensures.log

pub search-preserved-in-Some : goal.search-preserved-in-Some
search-preserved-in-Some c =
    let e = c.in_ok-learn-in-Some.ensures in
    learned c.args.cnf.now.vars c.args.cnf.now.clauses c.args.budget c.search.trail c.propagate.new.trail c.learn.new.trail c.search.clauses c.learn.new.clauses c.search.log c.learn.new.log c.in_ok-line-in-Some.line c.search.invariant c.in_ok-conflict.ensures.grows c.in_ok-line-in-Some.ensures.derived c.in_ok-line-in-Some.ensures.learnt (λ z. c.if-level-eq0.false (c.level.ensures ∙ z)) c.if-is_spent.ensures e.vars e.clauses e.log e.in_range e.trail

pub search-smaller : goal.search-smaller
search-smaller c =
    let free = c.in-Some-first_free.ensures.free in
    smaller-decided c.args.budget (length c.search.log) c.search.trail c.propagate.new.trail c.decide.new.trail c.search.clauses (record { var = c.in-Some-first_free.var; negated = true }) c.in_ok-conflict.ensures.grows c.in_ok-decide-in-Some-first_free.ensures.vars free.0 free.1 c.in_ok-decide-in-Some-first_free.ensures.entries

pub search-preserved : goal.search-preserved
search-preserved c =
    let free = c.in-Some-first_free.ensures.free in
    decided c.args.cnf.now.vars c.args.cnf.now.clauses c.args.budget c.search.trail c.propagate.new.trail c.decide.new.trail c.search.clauses c.search.log (record { var = c.in-Some-first_free.var; negated = true }) c.search.invariant c.in_ok-conflict.ensures.grows (quiet_none (lits_of c.propagate.new.trail.entries) c.search.clauses c.in_ok-conflict.field-0 c.in-None.is c.in_ok-conflict.ensures.found) free.1 c.in_ok-decide-in-Some-first_free.ensures.vars c.in_ok-decide-in-Some-first_free.ensures.entries

pub returns-in-None-first_free-clause-searched : goal.returns-in-None-first_free-clause-searched
returns-in-None-first_free-clause-searched c =
    let found = c.in_ok-assignment-in-None-first_free in
    solved c.args.cnf.now.vars c.args.cnf.now.clauses c.args.budget c.search.trail c.propagate.new.trail c.search.clauses c.search.log found.field-0.values c.search.invariant c.in_ok-conflict.ensures.grows (quiet_none (lits_of c.propagate.new.trail.entries) c.search.clauses c.in_ok-conflict.field-0 c.in-None.is c.in_ok-conflict.ensures.found) c.in-None-first_free.ensures.full found.ensures.values found.ensures.count
