use Rattle.std.proofs.Common.{◌<◌, ◌+◌, [], length, take, get_or, sym, subst, arith}
use Rattle.cdcl.specs.declared.propagation.Swept.{Swept}
use Rattle.cdcl.specs.Propagation.{LookedAt}
use Rattle.cdcl.proofs.PropagationLaws.{SweptSoFar, SweptSoFar-quiet, SweptSoFar-forced, Grows-then}
use Rattle.cdcl.specs.declared.status.Status.{Status}
use Rattle.cdcl.proofs.propagation.sweep.Goals as goal
use Rattle.cdcl.proofs.propagation.sweep.Goals.{in-Forcing, in-Quiet}

pub loop-number-preserved : goal.loop-number-preserved
loop-number-preserved c =
    let clauses = c.args.clauses.now in
    let n = c.loop-number.number in
    let within : n < length clauses = let m = c.len-number-end.ensures.length in let k = c.loop-number-test.true in omega arith in
    let Looked : Status → Type 0 = λ (s : Status). LookedAt (get_or clauses n []) c.loop-number.trail c.look_at.new.trail s in
    let Here : Swept → Type 0 = λ (s : Swept). SweptSoFar (take (n + 1) clauses) c.args.trail.now c.look_at.new.trail s in
    let swept : Here c.match-branch-2.swept = elim c.match-branch-2.branch [
      | in-Forcing w ↦ subst Here (sym w.swept-is) (SweptSoFar-forced clauses c.args.trail.now c.loop-number.trail c.look_at.new.trail c.loop-number.invariant.grows (subst Looked w.in-Forcing.is c.in_ok-look_at.ensures.looked))
      | in-Quiet w ↦ subst Here (sym w.swept-is) (SweptSoFar-quiet clauses n c.args.trail.now c.loop-number.trail c.look_at.new.trail c.loop-number.swept within (subst Looked w.in-Quiet.is c.in_ok-look_at.ensures.looked).0 (subst Looked w.in-Quiet.is c.in_ok-look_at.ensures.looked).1 c.loop-number.invariant.swept)
    ] in
    record { grows = Grows-then clauses c.args.trail.now c.loop-number.trail c.look_at.new.trail c.loop-number.invariant.grows c.in_ok-look_at.ensures.grows; swept = swept }
