use Rattle.std.proofs.Common.{refl}
use Rattle.bv_passes.proofs.Members.{whole}
use Rattle.bv_passes.proofs.merge_bytes.joined_again.Goals as goal

pub returns-in-Some-clause-right : goal.returns-in-Some-clause-right
returns-in-Some-clause-right c = record {
  parts = c.in-Some.ensures.width;
  values = λ env v bytes run. whole (v c.in-Some.word) (v c.args.b0) (v c.args.b1) (v c.args.b2) (v c.args.b3) (c.law.ensures.fits env v bytes run _ 32 c.in-Some.ensures.width)
      (c.in-Some.ensures.value env v run) (c.if-is_byte_of.ensures.value refl env v run) (c.if-is_byte_of-2.ensures.value refl env v run) (c.if-is_byte_of-3.ensures.value refl env v run);
}
