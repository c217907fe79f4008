use Rattle.std.proofs.Common.{[], get_or, Some}
use Rattle.cdcl.proofs.WatchLaws.{longer-push}
use Rattle.cdcl.proofs.PropagationLaws.{Grows-set, slice_get_at}
use Rattle.cdcl.proofs.watched_propagation.settle.Goals as goal

pub returns-in_ok-push-in-None-clause-grows : goal.returns-in_ok-push-in-None-clause-grows
returns-in_ok-push-in-None-clause-grows c =
    (Grows-set c.args.clauses.now c.args.number c.args.trail.now c.push.new.self c.args.lit c.requires.in_range c.requires.trail (record {
      clause = get_or c.args.clauses.now c.args.number [];
      here = slice_get_at c.args.clauses.now c.args.number [] c.requires.within;
      of_clause = c.requires.of_clause;
      others = c.requires.others;
    }) c.in-None.ensures.value c.in_ok-push-in-None.ensures.vars c.in_ok-push-in-None.ensures.entries).0

pub returns-in_ok-push-in-None-clause-longer : goal.returns-in_ok-push-in-None-clause-longer
returns-in_ok-push-in-None-clause-longer c =
    longer-push c.args.trail.now c.push.new.self (record { lit = c.args.lit; reason = Some c.args.number }) c.in_ok-push-in-None.ensures.vars c.in_ok-push-in-None.ensures.entries
    (Grows-set c.args.clauses.now c.args.number c.args.trail.now c.push.new.self c.args.lit c.requires.in_range c.requires.trail (record {
      clause = get_or c.args.clauses.now c.args.number [];
      here = slice_get_at c.args.clauses.now c.args.number [] c.requires.within;
      of_clause = c.requires.of_clause;
      others = c.requires.others;
    }) c.in-None.ensures.value c.in_ok-push-in-None.ensures.vars c.in_ok-push-in-None.ensures.entries).1
