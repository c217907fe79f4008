use Rattle.query_ask.proofs.PartLaws.{more_in}
use Rattle.query_ask.proofs.parts.with_broken.Goals as goal
use Rattle.query_ask.proofs.parts.with_broken.Goals.{then-not-is_true+in_ok-push, else-not-is_true}

pub loop-number-preserved : goal.loop-number-preserved
loop-number-preserved c = elim c.if-not-is_true.branch [
  | then-not-is_true+in_ok-push w ↦ rw w.chosen-is (more_in c.args.numbers.now c.loop-number.chosen.items w.push.new.self.items c.loop-number.number-index c.loop-number.invariant c.loop-number-test.true w.in_ok-push.ensures.items)
  | else-not-is_true w ↦ rw w.chosen-is c.loop-number.invariant
]
