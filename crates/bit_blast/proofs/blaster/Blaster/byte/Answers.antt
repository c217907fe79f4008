use Rattle.std.proofs.Common.{◌∙◌, sym}
use Rattle.bit_blast.proofs.Rightness.{AreWords-byte}
use Rattle.bit_blast.proofs.blaster.Blaster.byte.Goals as goal

pub returns-clause-right : goal.returns-clause-right
returns-clause-right c =
    AreWords-byte c.args.nodes.now c.args.self.now.gates c.new_byte.new.gates c.args.self.now.vars.items c.new_byte.new.vars.items _ _ _ c.args.variable _ _
    c.in_ok-word-2.ensures.kept c.in_ok-word-2.ensures.vars c.in_ok-word-2.ensures.inputs c.in_ok-word-2.ensures.word (c.in_ok-copy.ensures.items ∙ c.as_slice.ensures.value) c.in_ok-insert.ensures (sym c.has.ensures ∙ c.if-has.false) c.requires
