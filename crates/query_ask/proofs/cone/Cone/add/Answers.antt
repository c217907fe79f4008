use Rattle.std.proofs.Common.{refl}
use Rattle.query_ask.proofs.CopyLaws.{more_copies}
use Rattle.query_ask.proofs.cone.Cone.add.Goals as goal

pub returns-clause-copies : goal.returns-clause-copies
returns-clause-copies c =
    rw c.in_ok-insert.ensures.keys (rw c.requires.new (rw c.in_ok-push.ensures.items
    (more_copies c.args.nodes.now c.args.self.now.origins.keys c.args.self.now.copies.items c.args.top _ c.args.copy c.requires.copies c.requires.node refl c.requires.earlier)))
