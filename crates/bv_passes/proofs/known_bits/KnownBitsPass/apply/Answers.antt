use Rattle.bv_passes.proofs.Fixing.{constant_said, fixed_said}
use Rattle.bv_passes.proofs.known_bits.KnownBitsPass.apply.Goals as goal

pub returns-clause-constant : goal.returns-clause-constant
returns-clause-constant c = constant_said _ _ _ _ _ c.in_ok-said.said c.width-width.ensures.only c.in_ok-said.ensures.kind c.in_ok-answer.ensures.said

pub returns-clause-fixed : goal.returns-clause-fixed
returns-clause-fixed c = fixed_said _ _ _ _ _ _ c.in_ok-said.said c.width-width.ensures.only c.in_ok-answer.ensures.said c.in_ok-said.ensures.fixed
