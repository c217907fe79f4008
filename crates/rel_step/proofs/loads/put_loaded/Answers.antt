use Rattle.rel_step.proofs.Reading.{puts_none, puts_loaded}
use Rattle.rel_step.proofs.loads.put_loaded.Goals as goal

pub returns-then-rd-eq0-clause-changes : goal.returns-then-rd-eq0-clause-changes
returns-then-rd-eq0-clause-changes g c = puts_none c.args.arena.now c.args.here.now c.args.rd c.args.at.0 c.args.bytes c.args.signed c.if-rd-eq0.true

pub returns-clause-changes : goal.returns-clause-changes
returns-clause-changes g c =
    puts_loaded c.loaded.new.arena c.args.here.now c.args.rd c.args.at.0 c.args.bytes c.args.signed c.in_ok-given.given c.requires.rd c.in_ok-given.ensures.width c.in_ok-given.ensures.reads
