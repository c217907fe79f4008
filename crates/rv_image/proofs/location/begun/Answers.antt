use Rattle.std.proofs.Common.{leb, rules}
use Rattle.std.proofs.lemmas.Bool.{leb-true, leb-false}
use Rattle.std.proofs.lemmas.List.Sorted.{IsPartitionPoint-from_clause}
use Rattle.rv_image.specs.declared.span.Span.{Span}
use Rattle.rv_image.proofs.Halving.{IsPartitionedBy-address}
use Rattle.rv_image.proofs.location.begun.Goals as goal

pub returns-clause-begun : goal.returns-clause-begun
returns-clause-begun c =
    let point = IsPartitionPoint-from_clause (λ (span : Span). leb span.address c.args.address) c.args.spans.now c.partition_point.result c.partition_point.ensures.partitioned (IsPartitionedBy-address c.args.spans.now c.args.address c.requires) (search rules) in
    λ k d low high. leb-true _ _ (point.0 k d low high)

pub returns-clause-later : goal.returns-clause-later
returns-clause-later c =
    let point = IsPartitionPoint-from_clause (λ (span : Span). leb span.address c.args.address) c.args.spans.now c.partition_point.result c.partition_point.ensures.partitioned (IsPartitionedBy-address c.args.spans.now c.args.address c.requires) (search rules) in
    λ k d low high. leb-false _ _ (point.1 k d low high)
