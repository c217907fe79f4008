use Rattle.std.proofs.Common.{arith}
use Rattle.bv_range.proofs.Walks.{moves_down, moves_up, finishes}
use Rattle.bv_range.proofs.ranges.Ranges.step.Goals as goal

pub returns-in_ok-push-in-Err-clause-moves : goal.returns-in_ok-push-in-Err-clause-moves
returns-in_ok-push-in-Err-clause-moves c = rw c.in_ok-push-in-Err.ensures.items
    (moves_down c.args.arena.now c.args.self.now c.args.below.now.items c.args.top c.in-Err.operand c.requires.walking c.in-Err.ensures)

pub returns-in_ok-remember-in-Ok-clause-moves : goal.returns-in_ok-remember-in-Ok-clause-moves
returns-in_ok-remember-in-Ok-clause-moves c =
    moves_up c.args.arena.now c.args.self.now c.remember.new.self c.args.below.now.items c.pop.new.self.items c.args.top _ _ c.pop.result c.requires.walking
    (finishes c.args.arena.now c.args.self.now c.remember.new.self c.args.top c.in-Ok.range c.in_ok-remember-in-Ok.ensures.added) c.pop.ensures.items (omega arith) c.pop.ensures.cases
