use Rattle.rel_memory.proofs.tests.a_write_at_the_input.Goals as goal

pub write_byte-requires-clause-memory : goal.write_byte-requires-clause-memory
write_byte-requires-clause-memory g c = c.in_ok-memory.ensures.memory _
