use Rattle.std.proofs.Common.{◌+◌, arith}
use Rattle.rel_step.proofs.Simpler.{IsSimpler-more}
use Rattle.rel_step.proofs.simplifying.simplify.Goals as goal

pub loop-pass-preserved : goal.loop-pass-preserved
loop-pass-preserved g c =
    IsSimpler-more c.args.arena.now c.loop-pass.arena c.answer.new.arena c.args.id.0 c.loop-pass.simple.0 c.in_ok-simple.simple.0 c.loop-pass.pass-index (c.loop-pass.pass-index + 1)
    c.loop-pass.invariant c.in_ok-simple.ensures.answer c.in_ok-simple.ensures.extends c.in_ok-simple.ensures.no_input (omega arith)
