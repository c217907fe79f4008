use Rattle.std.proofs.lemmas.List.Elements.{Contains-get_or}
use Rattle.bv_passes.proofs.Looking.{looked_at}
use Rattle.bv_passes.proofs.known_bits.look.Goals as goal

pub node-requires : goal.node-requires
node-requires c = rw c.as_slice.ensures.keys (c.requires.looking.inside _ (Contains-get_or c.args.seen.now.keys c.args.looked 0 c.requires.next))

pub returns : goal.returns
returns c = rw c.in_ok-note_operands.ensures
    (looked_at c.args.arena.now c.args.id.0 c.args.seen.now.keys c.args.looked c.node.result c.law.ensures.typed c.requires.next (rw (← c.as_slice.ensures.keys) c.node.ensures.node) c.requires.looking)
