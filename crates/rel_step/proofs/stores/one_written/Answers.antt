use Rattle.rel_step.proofs.Growing.{HasSides-grows}
use Rattle.rel_step.proofs.Writing.{written_is}
use Rattle.rel_step.proofs.stores.one_written.Goals as goal

pub byte_to_store-requires-clause-word : goal.byte_to_store-requires-clause-word
byte_to_store-requires-clause-word g c = HasSides-grows c.args.arena.now c.above.new.arena 34 32 c.args.word c.in_ok-address.ensures.extends c.requires.word

pub returns-clause-written : goal.returns-clause-written
returns-clause-written g c =
    written_is c.above.new.arena c.byte_to_store.new.arena 66 c.args.at.0 c.args.k c.args.word c.in_ok-held.held c.in_ok-address.address
    c.in_ok-held.ensures.extends c.in_ok-address.ensures.width c.in_ok-address.ensures.value c.in_ok-held.ensures.width c.in_ok-held.ensures.value
