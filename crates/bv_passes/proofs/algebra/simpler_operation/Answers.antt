use Rattle.std.proofs.Common.{refl, sym}
use Rattle.bv_passes.proofs.Units.{right_unit_value, left_unit_value}
use Rattle.bv_passes.proofs.algebra.simpler_operation.Goals as goal

pub returns-then-is_number-clause-right : goal.returns-then-is_number-clause-right
returns-then-is_number-clause-right c = record {
  parts = c.requires.left;
  values = λ env v bytes run. sym (right_unit_value c.args.op (v c.args.a) (v c.args.b) (c.law.ensures.fits env v bytes run c.args.a 32 c.requires.left)
      (rw (← c.right_unit.ensures) (c.if-is_number.ensures.value refl env v run)));
}

pub returns-then-is_number-2-clause-right : goal.returns-then-is_number-2-clause-right
returns-then-is_number-2-clause-right c = record {
  parts = c.requires.right;
  values = λ env v bytes run. sym (left_unit_value c.args.op (v c.args.a) (v c.args.b) (c.law.ensures.fits env v bytes run c.args.b 32 c.requires.right)
      (rw (← c.left_unit.ensures) (c.if-is_number-2.ensures.value refl env v run)));
}
