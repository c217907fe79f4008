use Rattle.std.proofs.Common.{List, [], refl, sym, subst}
use Rattle.std.proofs.lemmas.Option.{get_or_from_slice_get}
use Rattle.cnf_form.specs.declared.lit.Lit.{Lit}
use Rattle.cnf_form.proofs.ClauseLaws.{all_below-has}
use Rattle.cdcl.specs.Trail.{lits_of, AllFalse}
use Rattle.cdcl.proofs.GivenLaws.{all_false-from}
use Rattle.cdcl.proofs.PropagationLaws.{clause_low, forced-has, Grows-forced, Grows-same}
use Rattle.cdcl.proofs.propagation.look_at.Goals as goal

pub status_of-requires : goal.status_of-requires
status_of-requires c = clause_low c.args.trail.now.vars c.args.clauses.now c.args.number c.get.result.now c.requires.in_range c.get.ensures.clause

pub push-requires-clause-in_range : goal.push-requires-clause-in_range
push-requires-clause-in_range c =
    all_below-has c.args.trail.now.vars c.get.result.now c.in-Forcing.lit
    (clause_low c.args.trail.now.vars c.args.clauses.now c.args.number c.get.result.now c.requires.in_range c.get.ensures.clause)
    (forced-has (lits_of c.args.trail.now.entries) c.get.result.now c.in-Forcing.lit c.in-Forcing.ensures.0)

pub returns-in_ok-push-in-Forcing-clause-grows : goal.returns-in_ok-push-in-Forcing-clause-grows
returns-in_ok-push-in-Forcing-clause-grows c =
    (Grows-forced c.args.clauses.now c.args.number c.get.result.now c.args.trail.now c.push.new.self c.in-Forcing.lit c.requires.in_range c.requires.trail c.get.ensures.clause c.in-Forcing.ensures.0 c.in-Forcing.ensures.1 c.in_ok-push-in-Forcing.ensures.vars c.in_ok-push-in-Forcing.ensures.entries).0

pub returns-in_ok-push-in-Forcing-clause-looked : goal.returns-in_ok-push-in-Forcing-clause-looked
returns-in_ok-push-in-Forcing-clause-looked c =
    (Grows-forced c.args.clauses.now c.args.number c.get.result.now c.args.trail.now c.push.new.self c.in-Forcing.lit c.requires.in_range c.requires.trail c.get.ensures.clause c.in-Forcing.ensures.0 c.in-Forcing.ensures.1 c.in_ok-push-in-Forcing.ensures.vars c.in_ok-push-in-Forcing.ensures.entries).1

pub returns-in-Falsified-clause-grows : goal.returns-in-Falsified-clause-grows
returns-in-Falsified-clause-grows c = Grows-same c.args.clauses.now c.args.trail.now c.requires.trail

pub returns-in-Falsified-clause-looked : goal.returns-in-Falsified-clause-looked
returns-in-Falsified-clause-looked c =
    (refl, subst (λ (ls : List Lit). AllFalse (lits_of c.args.trail.now.entries) ls) (sym (get_or_from_slice_get c.args.clauses.now c.args.number c.get.result.now [] c.get.ensures.clause)) (all_false-from (lits_of c.args.trail.now.entries) c.get.result.now c.in-Falsified.ensures))
