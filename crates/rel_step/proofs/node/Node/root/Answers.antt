use Rattle.rel_step.proofs.RootLaws.{IsNode-first}
use Rattle.rel_step.proofs.node.Node.root.Goals as goal

pub invariant_of-result : goal.invariant_of-result
invariant_of-result c = c.in_ok-ranges.ensures.right _

pub returns-clause-node : goal.returns-clause-node
returns-clause-node c = rw (c.new-3.ensures.items, c.new-4.ensures.items) (IsNode-first _ _ _ c.in_ok-here.ensures)
