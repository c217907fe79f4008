use Rattle.std.proofs.Common.{None, refl}
use Rattle.cdcl.proofs.RunLaws.{decided_watched}
use Rattle.cdcl.proofs.run.Run.decide.Goals as goal

pub returns-clause-watched : goal.returns-clause-watched
returns-clause-watched c =
    let p = c.requires.propagated in
    decided_watched c.args.self.now.clauses c.args.self.now.trail c.decide.new.trail c.args.self.now.pairs.items c.args.self.now.watches (record { lit = c.args.lit; reason = None }) c.len-self.result p.of_clauses p.room p.listed p.watching c.requires.quiet refl c.in_ok-decide.ensures.vars c.in_ok-decide.ensures.entries c.len-self.ensures
