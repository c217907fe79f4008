use Rattle.cdcl.proofs.EnterLaws.{added_both}
use Rattle.cdcl.proofs.entering.watch.Goals as goal

pub returns-clause-watches : goal.returns-clause-watches
returns-clause-watches c = added_both c.args.watches.now c.add.new.self c.add-2.new.self c.args.watched c.args.number c.requires.first c.requires.second c.in_ok-add.ensures c.in_ok-add-2.ensures
