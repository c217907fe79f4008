use Rattle.std.proofs.Common.{◌<◌, refl, arith}
use Rattle.bv_passes.proofs.Placing.{right_at, not_not_right}
use Rattle.bv_passes.proofs.algebra.Algebra.said.Goals as goal

pub returns-in-Alu-clause-right : goal.returns-in-Alu-clause-right
returns-in-Alu-clause-right c = right_at _ _ _ _ _ _ _ _ c.requires c.in-Alu.ensures.node c.law.ensures.widths refl c.simpler_operation.ensures.right (λ env v run. refl)

pub returns-in-Alu-clause-other : goal.returns-in-Alu-clause-other
returns-in-Alu-clause-other c =
    let earlier = c.law.ensures.typed.earlier _ _ c.in-Alu.ensures.node in
    c.simpler_operation.ensures.other _ earlier.0 earlier.1

pub returns-in-Not-node-clause-right : goal.returns-in-Not-node-clause-right
returns-in-Not-node-clause-right c =
    not_not_right _ c.args.id.0 c.args.width c.in-Not.a c.in-Not-node.a _ c.requires c.in-Not.ensures.node c.in-Not-node.ensures.node c.in-Not-node.ensures.operands c.law.ensures.widths
    (λ env v bytes run. c.law.ensures.fits env v bytes run _ 1 c.in-Not-node.ensures.operands)

pub returns-in-Not-node-clause-other : goal.returns-in-Not-node-clause-other
returns-in-Not-node-clause-other c =
    let outer : c.in-Not.a < c.args.id.0 = c.law.ensures.typed.earlier _ _ c.in-Not.ensures.node in
    let inner : c.in-Not-node.a < c.in-Not.a = c.law.ensures.typed.earlier _ _ c.in-Not-node.ensures.node in
    omega (arith, outer, inner)

pub returns-in-Pick-clause-other : goal.returns-in-Pick-clause-other
returns-in-Pick-clause-other c = (c.law.ensures.typed.earlier _ _ c.in-Pick.ensures.node).1
