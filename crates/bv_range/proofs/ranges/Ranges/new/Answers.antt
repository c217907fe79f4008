use Rattle.std.proofs.Common.{◌≡◌, [], rules}
use Rattle.bv_range.proofs.Walks.{AreRight-none}
use Rattle.bv_range.proofs.ranges.Ranges.new.Goals as goal

pub returns-clause-right : goal.returns-clause-right
returns-clause-right c = let e : c.new.result.entries ≡ [] = search rules in rw e AreRight-none
