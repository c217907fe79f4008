use Rattle.std.proofs.Common.{rules}
use Rattle.std.proofs.lemmas.List.Sorted.{answers_always}
use Rattle.work_crew.proofs.Tables.{places_ranked}
use Rattle.work_crew.proofs.merging.put_in_order.Goals as goal

pub returns-clause-sorted : goal.returns-clause-sorted
returns-clause-sorted c = c.in_ok-sort_by.ensures.sorted _ places_ranked (answers_always _ _ _ (λ f a r g called. search rules))
