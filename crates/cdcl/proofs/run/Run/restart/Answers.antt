use Rattle.cdcl.proofs.RunLaws.{restarted_watched}
use Rattle.cdcl.proofs.run.Run.restart.Goals as goal

pub returns-clause-watched : goal.returns-clause-watched
returns-clause-watched c =
    let p = c.requires.propagated in
    restarted_watched c.args.self.now.clauses c.args.self.now.trail c.back_to.new.self c.args.self.now.pairs.items c.args.self.now.watches c.len-self.result p.of_clauses p.room p.listed p.watching c.requires.quiet c.back_to.ensures.vars c.back_to.ensures.entries c.len-self.ensures
