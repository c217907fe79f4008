use Rattle.std.proofs.Common.{◌<◌, refl, arith}
use Rattle.bv_passes.proofs.Placing.{right_at}
use Rattle.bv_passes.proofs.merge_bytes.MergeBytes.said.Goals as goal

pub returns-in-Join-clause-right : goal.returns-in-Join-clause-right
returns-in-Join-clause-right c = right_at _ _ _ _ _ _ _ _ c.requires c.in-Join.ensures.node c.law.ensures.widths refl c.joined_again.ensures.right (λ env v run. refl)

pub returns-in-Join-clause-other : goal.returns-in-Join-clause-other
returns-in-Join-clause-other c = c.joined_again.ensures.other _ ((c.law.ensures.typed.earlier _ _ c.in-Join.ensures.node).0)

pub returns-in-Join-node-clause-other : goal.returns-in-Join-node-clause-other
returns-in-Join-node-clause-other c =
    let word : c.in-Byte.of < c.args.id.0 = c.law.ensures.typed.earlier _ _ c.in-Byte.ensures.node in
    let members = c.law.ensures.typed.earlier _ _ c.in-Join-node.ensures.node in
    c.member.ensures.other _ (omega (arith, word, members.0)) (omega (arith, word, members.1)) (omega (arith, word, members.2)) (omega (arith, word, members.3))
