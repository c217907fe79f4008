use Rattle.std.proofs.Common.{ap, arith}
use Rattle.bv_passes.specs.declared.rewrite.Rewrite.TheVariants.{Number}
use Rattle.bv_passes.proofs.Fixing.{one_number}
use Rattle.bv_passes.proofs.known_bits.known.Goals as goal

pub returns-then-range-clause-fixed : goal.returns-then-range-clause-fixed
returns-then-range-clause-fixed c = λ all. ap Number (one_number _ c.args.id.0 c.args.width _ c.law.ensures.typed c.requires c.fixed_law.ensures c.in_ok-range.ensures.range all).0

pub returns-clause-fixed : goal.returns-clause-fixed
returns-clause-fixed c = λ all. absurd (omega (arith, c.if-range.false, (one_number _ c.args.id.0 c.args.width _ c.law.ensures.typed c.requires c.fixed_law.ensures c.in_ok-range.ensures.range all).1))
