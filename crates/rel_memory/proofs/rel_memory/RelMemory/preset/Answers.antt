use Rattle.std.proofs.Common.{refl}
use Rattle.rel_memory.proofs.Writing.{byte_in-put}
use Rattle.rel_memory.proofs.rel_memory.RelMemory.preset.Goals as goal

pub returns-clause-meaning : goal.returns-clause-meaning
returns-clause-meaning c = λ right v at. byte_in-put _ _ _ _ c.in_ok-put.ensures.put refl right v at
