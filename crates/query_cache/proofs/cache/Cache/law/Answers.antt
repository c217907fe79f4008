use Rattle.query_cache.proofs.KeepingLaws.{apart}
use Rattle.query_cache.proofs.cache.Cache.law.Goals as goal

pub returns-clause-apart : goal.returns-clause-apart
returns-clause-apart c = rw (← c.self.view_is) (apart _ c.len-entries.ensures.valid.0)
