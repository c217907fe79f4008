use Rattle.std.proofs.Common.{arith}
use Rattle.bit_blast.proofs.Wiring.{AreRoots-more}
use Rattle.bit_blast.proofs.blaster.Blaster.wires.Goals as goal

pub loop-root-preserved : goal.loop-root-preserved
loop-root-preserved c =
    AreRoots-more c.args.nodes.now c.args.roots.now c.args.self.now.gates c.args.self.now.vars.items _ _ c.loop-root.wires.items c.push.new.self.items _ c.loop-root.root-index _ _
    c.requires.typed c.requires.right c.requires.bits (omega (arith, c.loop-root-test.true)) c.bit_word.ensures.found c.in_ok-push.ensures.items c.loop-root.invariant
