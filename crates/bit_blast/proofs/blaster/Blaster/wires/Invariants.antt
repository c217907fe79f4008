use Rattle.std.proofs.Common.{take}
use Rattle.bit_blast.specs.Roots.{AreRoots}
use Rattle.bit_blast.proofs.blaster.Blaster.wires.Given as goal

abbrev pub invariant-loop-root : goal.invariant-loop-root
invariant-loop-root l = AreRoots l.nodes (take l.root-index l.roots) l.self.gates l.self.vars.items l.wires.items
