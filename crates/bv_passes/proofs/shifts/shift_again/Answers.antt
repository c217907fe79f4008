use Rattle.std.proofs.Common.{sym}
use Rattle.bv_passes.proofs.Moves.{one_shift_right, one_shift_other}
use Rattle.bv_passes.proofs.shifts.shift_again.Goals as goal

pub returns-in-Some-clause-right : goal.returns-in-Some-clause-right
returns-in-Some-clause-right c = rw c.one_shift.ensures
    (one_shift_right _ c.args.op c.in-Alu.inner c.args.at c.in-Alu.a c.in-Alu.b c.in-Some.amount c.args.by (sym c.if-is_same_way.ensures) c.in-Some.ensures.below c.requires.by
    c.in-Alu.ensures.node (c.in-Alu.ensures.operands.0) (λ env v bytes run. c.law.ensures.fits env v bytes run _ 32 (c.in-Alu.ensures.operands.0)) c.in-Some.ensures.value)

pub returns-in-Some-clause-other : goal.returns-in-Some-clause-other
returns-in-Some-clause-other c = λ i b node. rw c.one_shift.ensures
    (one_shift_other _ c.args.op c.args.at c.in-Alu.a c.in-Some.amount c.args.by i b ((c.law.ensures.typed.earlier _ _ c.in-Alu.ensures.node).0) node)
