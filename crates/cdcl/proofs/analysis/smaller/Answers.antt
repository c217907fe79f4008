use Rattle.std.proofs.Common.{ltb, rules}
use Rattle.std.proofs.lemmas.Bool.{ltb-true, ltb-false}
use Rattle.std.proofs.lemmas.List.Sorted.{IsPartitionPoint-from_clause}
use Rattle.cnf_form.specs.declared.lit.Lit.{Lit}
use Rattle.cdcl.proofs.AscentLaws.{IsPartitionedBy-var}
use Rattle.cdcl.proofs.analysis.smaller.Goals as goal

pub returns-clause-smaller : goal.returns-clause-smaller
returns-clause-smaller c =
    let point = IsPartitionPoint-from_clause (λ (l : Lit). ltb l.var c.args.var) c.args.lits.now c.partition_point.result c.partition_point.ensures.partitioned (IsPartitionedBy-var c.args.lits.now c.args.var c.requires.ascending) (search rules) in
    λ k d low high. ltb-true _ _ (point.0 k d low high)

pub returns-clause-others : goal.returns-clause-others
returns-clause-others c =
    let point = IsPartitionPoint-from_clause (λ (l : Lit). ltb l.var c.args.var) c.args.lits.now c.partition_point.result c.partition_point.ensures.partitioned (IsPartitionedBy-var c.args.lits.now c.args.var c.requires.ascending) (search rules) in
    λ k d low high. ltb-false _ _ (point.1 k d low high)
