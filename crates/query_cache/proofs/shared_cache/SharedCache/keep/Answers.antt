use Rattle.query_cache.proofs.KeepingLaws.{sized}
use Rattle.query_cache.proofs.shared_cache.SharedCache.keep.Goals as goal

pub returns : goal.returns
returns g c = sized _ _ _ _ c.keep.ensures
