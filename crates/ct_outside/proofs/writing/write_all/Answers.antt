use Rattle.std.proofs.Common.{◌≡◌, length, ap, arith}
use Rattle.ct_outside.proofs.ToldLemmas.{told_append-more}
use Rattle.ct_outside.proofs.writing.write_all.Goals as goal

pub loop-taken-preserved : goal.loop-taken-preserved
loop-taken-preserved g c =
    let call = c.in-Ok.ensures in
    let kept = c.loop-taken.invariant in (
      omega arith,
      told_append-more _ _ _ _ _ _ kept.1 call.writes,
      omega (arith, kept.2, call.counts),
      omega (arith, kept.3, call.stays_sure),
      λ empty. absurd (let none : length c.args.text.now ≡ 0 = ap length empty in omega arith),
    )
