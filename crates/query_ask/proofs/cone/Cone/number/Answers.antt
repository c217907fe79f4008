use Rattle.std.proofs.Common.{sym, ◌∙◌}
use Rattle.query_ask.proofs.Steps.{place_is}
use Rattle.query_ask.proofs.cone.Cone.number.Goals as goal

pub returns-in-Some : goal.returns-in-Some
returns-in-Some c = place_is c.args.self.now.origins.keys c.args.at c.in-Some.number (sym c.get_index_of.ensures.index ∙ c.in-Some.is)
