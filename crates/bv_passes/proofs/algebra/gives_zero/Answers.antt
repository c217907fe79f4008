use Rattle.std.proofs.Common.{refl, sym, ap}
use Rattle.std.proofs.lemmas.Bool.{eqb-true}
use Rattle.bv_passes.proofs.Units.{zero_right_value, zero_left_value, cancels_value}
use Rattle.bv_passes.proofs.algebra.gives_zero.Goals as goal

pub returns-then-is_number-clause-value : goal.returns-then-is_number-clause-value
returns-then-is_number-clause-value c = λ _ env v bytes run. zero_right_value c.args.op (v c.args.a) (v c.args.b) (rw (← c.zero_of-zero.ensures) (c.if-is_number.ensures.value refl env v run))

pub returns-then-is_number-2-clause-value : goal.returns-then-is_number-2-clause-value
returns-then-is_number-2-clause-value c = λ _ env v bytes run. zero_left_value c.args.op (v c.args.a) (v c.args.b) (rw (← c.zero_of-zero.ensures) (c.if-is_number-2.ensures.value refl env v run))

pub returns-then-cancels-clause-value : goal.returns-then-cancels-clause-value
returns-then-cancels-clause-value c = λ same env v bytes run. cancels_value c.args.op (v c.args.a) (v c.args.b) (sym c.if-cancels.ensures) (ap v (eqb-true c.args.a c.args.b same)) (c.law.ensures.fits env v bytes run c.args.b 32 c.requires.right)
