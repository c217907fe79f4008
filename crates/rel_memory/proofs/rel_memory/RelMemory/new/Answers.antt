use Rattle.rel_memory.proofs.Writing.{IsLogged-none}
use Rattle.rel_memory.proofs.rel_memory.RelMemory.new.Goals as goal

pub invariant_of-result : goal.invariant_of-result
invariant_of-result c = IsLogged-none _ _ c.new-2.ensures.items c.new-3.ensures.items
