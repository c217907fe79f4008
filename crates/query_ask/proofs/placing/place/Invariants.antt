use Rattle.query_ask.proofs.PlacingLaws.{Placed}
use Rattle.query_ask.proofs.placing.place.Given as goal

abbrev pub invariant-back : goal.invariant-back
invariant-back l = Placed l.vars l.bytes l.values.items l.count l.at

abbrev pub decreases-back : goal.decreases-back
decreases-back l = l.at
