-- What a cache is once a verdict that it lent is given back.
use Rattle.std.specs.Prelude.{Option, option_copied, ⊤}
use Rattle.std.specs.Borrow.{Fml, Bor, MutBor, follows_so}
use mathlib.Core.Option.{none}
use Rattle.query_ask.specs.Questions.{Asked}
use Rattle.query_ask.specs.declared.verdict.Verdict.{Verdict}
use Rattle.query_cache.specs.Cached.{Cached, HasLooked}
use Rattle.query_cache.specs.contracts.cache.Cache.{the_row}

-- the cache ends as the look left it
abbrev pub EndsLooked : MutBor Cached → Asked → Option (Bor Verdict) → Fml
EndsLooked cache question found =
    follows_so the_row the_row cache.ghost_name none (λ _ _. ⊤) (λ after. HasLooked question cache.now (option_copied found) after)
