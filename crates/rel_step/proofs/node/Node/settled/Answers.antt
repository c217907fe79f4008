use Rattle.rel_step.proofs.node.Node.settled.Goals as goal

pub settled-requires-clause-bit : goal.settled-requires-clause-bit
settled-requires-clause-bit c = rw (← c.self.view_is) at c.requires

pub settled-requires-clause-ranges : goal.settled-requires-clause-ranges
settled-requires-clause-ranges c = c.self.invariant

pub returns-clause-right : goal.returns-clause-right
returns-clause-right c = rw (← c.self.view_is) c.in_ok-known.ensures.right

pub returns-clause-constant : goal.returns-clause-constant
returns-clause-constant c = rw (← c.self.view_is) c.in_ok-known.ensures.constant

pub returns-clause-unchanged : goal.returns-clause-unchanged
returns-clause-unchanged c = c.self.view_is
