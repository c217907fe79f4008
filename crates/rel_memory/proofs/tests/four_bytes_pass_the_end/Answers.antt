use Rattle.rel_memory.proofs.tests.four_bytes_pass_the_end.Goals as goal

pub allowed-requires-clause-memory : goal.allowed-requires-clause-memory
allowed-requires-clause-memory g c = c.in_ok-memory.ensures.memory _
