use Rattle.rel_step.proofs.Addressing.{refused_where}
use Rattle.rel_step.proofs.addresses.refused.Goals as goal

pub returns-clause-refused : goal.returns-clause-refused
returns-clause-refused c = refused_where c.not.new.self c.args.allowed c.in_ok-zero.zero c.in_ok-zero.ensures.width c.in_ok-zero.ensures.value
