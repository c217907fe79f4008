use Rattle.std.proofs.Common.{◌≡◌, Some, refl, ◌∙◌}
use Rattle.std.specs.Prelude.{option_copied}
use Rattle.query_ask.specs.Verdicts.{IsVerdict}
use Rattle.query_cache.specs.Cached.{HasRightVerdict}
use Rattle.query_cache.proofs.EntryLaws.{All-here}
use Rattle.query_cache.proofs.KeepingLaws.{first_verdict, lent_verdict}
use Rattle.query_cache.proofs.cache.Cache.look.Goals as goal

pub returns : goal.returns
returns c =
    let q = c.args.question.now in
    let v = c.if-not-find.ensures.0 in
    let first = c.if-not-find.ensures.1 in
    let told : option_copied c.most_recent.result ≡ Some v = c.most_recent.ensures.verdict ∙ first_verdict _ _ v _ first in
    let right : IsVerdict q v = All-here HasRightVerdict c.args.self.now.entries first.at (q, v) first.here c.law.ensures.right in
    let lent = lent_verdict (IsVerdict q) c.most_recent.result v told right in
    rw told ((refl, λ _. tt, first), record { leaves = tt; answer = (first.at, first.here); right = lent })
