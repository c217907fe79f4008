use Rattle.std.proofs.Common.{arith}
use Rattle.bv_passes.proofs.Members.{member0, member1, member2, member3}
use Rattle.bv_passes.proofs.merge_bytes.member.Goals as goal

pub returns-in-0-clause-right : goal.returns-in-0-clause-right
returns-in-0-clause-right c = record {
  parts = c.requires.byte0;
  values = λ env v bytes run. member0 (v c.args.b0) (v c.args.b1) (v c.args.b2) (v c.args.b3) c.args.index (c.law.ensures.fits env v bytes run _ 8 c.requires.byte0) (omega arith);
}

pub returns-in-1-clause-right : goal.returns-in-1-clause-right
returns-in-1-clause-right c = record {
  parts = c.requires.byte1;
  values = λ env v bytes run. let fits = c.law.ensures.fits env v bytes run in
      member1 (v c.args.b0) (v c.args.b1) (v c.args.b2) (v c.args.b3) c.args.index (fits _ 8 c.requires.byte0) (fits _ 8 c.requires.byte1) (omega arith);
}

pub returns-in-2-clause-right : goal.returns-in-2-clause-right
returns-in-2-clause-right c = record {
  parts = c.requires.byte2;
  values = λ env v bytes run. let fits = c.law.ensures.fits env v bytes run in
      member2 (v c.args.b0) (v c.args.b1) (v c.args.b2) (v c.args.b3) c.args.index (fits _ 8 c.requires.byte0) (fits _ 8 c.requires.byte1) (fits _ 8 c.requires.byte2) (omega arith);
}

pub returns-in_default-clause-right : goal.returns-in_default-clause-right
returns-in_default-clause-right c = record {
  parts = c.requires.byte3;
  values = λ env v bytes run. let fits = c.law.ensures.fits env v bytes run in
      member3 (v c.args.b0) (v c.args.b1) (v c.args.b2) (v c.args.b3) c.args.index (fits _ 8 c.requires.byte0) (fits _ 8 c.requires.byte1) (fits _ 8 c.requires.byte2) (fits _ 8 c.requires.byte3) (omega arith);
}
