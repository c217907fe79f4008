use Rattle.std.proofs.Common.{◌≤◌, ◌+◌, List, length, take, sym, subst, arith}
use Rattle.std.proofs.lemmas.List.{take_all}
use Rattle.cnf_form.specs.declared.lit.Lit.{Lit}
use Rattle.cdcl.specs.Trail.{lits_of, IsTrail, IsFalsified}
use Rattle.cdcl.specs.declared.entry.Entry.{Entry}
use Rattle.cdcl.specs.Watch.{IsEntered}
use Rattle.cdcl.proofs.PropagationLaws.{Grows-same, Grows-then}
use Rattle.cdcl.proofs.EnterLaws.{entered_none, match_true, match_false}
use Rattle.cdcl.proofs.entering.enter_all.Goals as goal

pub loop-number-init : goal.loop-number-init
loop-number-init c = record {
  grows = Grows-same c.args.clauses.now c.args.trail.now (subst (λ (es : List Entry). IsTrail c.args.clauses.now es) (sym c.requires.trail) tt);
  entered = entered_none c.args.trail.now c.args.pairs.now.items c.args.watches.now c.requires.pairs c.requires.room;
}

pub loop-number-preserved : goal.loop-number-preserved
loop-number-preserved c = record {
  grows = Grows-then c.args.clauses.now c.args.trail.now c.loop-number.trail c.enter.new.trail c.loop-number.invariant.grows c.in_ok-enter.ensures.grows;
  entered = match_false c.in_ok-enter.field-0 (IsFalsified c.args.clauses.now c.loop-number.number (lits_of c.enter.new.trail.entries)) (IsEntered (take (c.loop-number.number + 1) c.args.clauses.now) c.enter.new.trail c.enter.new.pairs.items c.enter.new.watches) c.if-branch.false c.in_ok-enter.ensures.found;
}

pub returns-then-branch-clause-grows : goal.returns-then-branch-clause-grows
returns-then-branch-clause-grows c = Grows-then c.args.clauses.now c.args.trail.now c.loop-number.trail c.enter.new.trail c.loop-number.invariant.grows c.in_ok-enter.ensures.grows

pub returns-then-branch-clause-found : goal.returns-then-branch-clause-found
returns-then-branch-clause-found c = match_true c.in_ok-enter.field-0 (IsFalsified c.args.clauses.now c.loop-number.number (lits_of c.enter.new.trail.entries)) (IsEntered (take (c.loop-number.number + 1) c.args.clauses.now) c.enter.new.trail c.enter.new.pairs.items c.enter.new.watches) c.if-branch.true c.in_ok-enter.ensures.found

pub returns-clause-found : goal.returns-clause-found
returns-clause-found c =
    let past : length c.args.clauses.now ≤ c.loop-number.number = let n = c.len-number-end.ensures.length in let m = c.loop-number-test.false in omega arith in
    subst (λ (cs : List (List Lit)). IsEntered cs c.loop-number.trail c.loop-number.pairs.items c.loop-number.watches) (take_all c.loop-number.number c.args.clauses.now past) c.loop-number.invariant.entered
