use Rattle.bit_blast.proofs.ByteLaws.{Reading}
use Rattle.bit_blast.proofs.inputs.new_byte.Given as goal

abbrev pub invariant-loop-b : goal.invariant-loop-b
invariant-loop-b l = Reading l.fn.gates l.gates l.fn.vars.items l.variable l.word.items l._b
