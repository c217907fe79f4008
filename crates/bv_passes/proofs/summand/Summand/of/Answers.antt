use Rattle.std.proofs.Common.{ℕ, ◌<◌, ◌^◌, ◌∙◌, sym, subst, arith}
use Rattle.bv_passes.proofs.Totals.{zero_add, add_zero}
use Rattle.bv_passes.proofs.summand.Summand.of.Goals as goal

pub returns-in-Constant-clause-right : goal.returns-in-Constant-clause-right
returns-in-Constant-clause-right c = record {
  word = tt;
  fits =
      let P : ℕ → Type 0 = λ n. c.in-Constant.value < 2 ^ n in
      subst P (sym (c.law.ensures.widths.at _ _ c.in-Constant.ensures.node) ∙ c.requires.is _ c.law.ensures.widths) (c.in-Constant.ensures.operands.1);
  values = λ env v bytes run. zero_add (v c.args.at) c.in-Constant.value (run.at _ _ c.in-Constant.ensures.node) (c.law.ensures.fits env v bytes run c.args.at 32 c.requires);
}

pub returns-in_default-clause-right : goal.returns-in_default-clause-right
returns-in_default-clause-right c = record {
  word = c.requires;
  fits = omega arith;
  values = λ env v bytes run. add_zero (v c.args.at) (c.law.ensures.fits env v bytes run c.args.at 32 c.requires);
}
