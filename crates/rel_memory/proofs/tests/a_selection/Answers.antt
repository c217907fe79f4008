use Rattle.rel_memory.proofs.tests.a_selection.Goals as goal

pub read_byte-requires-clause-memory : goal.read_byte-requires-clause-memory
read_byte-requires-clause-memory g c = c.in_ok-memory.ensures.memory _
