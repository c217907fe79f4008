use Rattle.std.proofs.Common.{rules}
use Rattle.std.proofs.lemmas.Fn.{dedup_same}
use Rattle.std.proofs.lemmas.List.Sorted.{answers_always}
use Rattle.work_crew.specs.Merging.{is_same_site}
use Rattle.work_crew.proofs.Tables.{found_ranked, merged_from}
use Rattle.work_crew.proofs.merging.merged.Goals as goal

pub returns : goal.returns
returns c =
    merged_from _ _ _ c.in_ok-sort_by.ensures.permutation (c.in_ok-sort_by.ensures.sorted _ found_ranked (answers_always _ _ _ (λ f a r g called. search rules)))
    (dedup_same _ is_same_site _ (λ x y b f' x' y' k. search rules) _ _ c.dedup_by_key.ensures.filtered)
