use Rattle.std.proofs.Common.{◌≤◌, length, refl, rules}
use Rattle.query_ask.specs.Verdicts.{IsVerdict}
use Rattle.query_cache.specs.declared.cache.TheConstants.{MOST_NODES}
use Rattle.query_cache.proofs.KeepingLaws.{kept_put, kept_entry}
use Rattle.query_cache.proofs.cache.Cache.keep.Goals as goal

pub invariant_of-self : goal.invariant_of-self
invariant_of-self c =
    let small : length c.args.entry.question.nodes ≤ MOST_NODES = search rules in
    let right : IsVerdict c.args.entry.question c.args.entry.verdict = c.law.ensures in
    rw (c.in-Ok.ensures.entries, c.into_parts-question.ensures.question, c.into_parts-question.ensures.verdict) (kept_put c.self.inside.settled c.args.entry.question c.args.entry.verdict right small c.self.invariant)

pub returns-in-Ok : goal.returns-in-Ok
returns-in-Ok c =
    let small : length c.args.entry.question.nodes ≤ MOST_NODES = search rules in
    rw (c.in-Ok.ensures.entries, c.into_parts-question.ensures.question, c.into_parts-question.ensures.verdict, ← c.self.view_is) (small, kept_entry c.self.inside.settled c.args.entry c.self.invariant.room, refl)
