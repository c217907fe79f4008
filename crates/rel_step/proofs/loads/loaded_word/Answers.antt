use Rattle.bv_range.proofs.Walks.{AreRight-later}
use Rattle.rel_step.proofs.Growing.{IsHere-grows, HasWidth-grows, HasSides-grows}
use Rattle.rel_step.proofs.Reading.{bytes_read}
use Rattle.rel_step.proofs.loads.loaded_word.Goals as goal

pub loaded_byte-requires-2-clause-here : goal.loaded_byte-requires-2-clause-here
loaded_byte-requires-2-clause-here g c = IsHere-grows c.args.arena.now c.loaded_byte.new.arena _ c.args.here.now c.in_ok-b0.ensures.extends c.requires.here

pub loaded_byte-requires-2-clause-at : goal.loaded_byte-requires-2-clause-at
loaded_byte-requires-2-clause-at g c = HasWidth-grows c.args.arena.now c.loaded_byte.new.arena _ c.args.at.0 32 c.in_ok-b0.ensures.extends c.requires.at

pub loaded_byte-requires-3-clause-here : goal.loaded_byte-requires-3-clause-here
loaded_byte-requires-3-clause-here g c = IsHere-grows c.loaded_byte.new.arena c.loaded_byte-2.new.arena _ c.args.here.now c.in_ok-b1.ensures.extends (IsHere-grows c.args.arena.now c.loaded_byte.new.arena _ c.args.here.now c.in_ok-b0.ensures.extends c.requires.here)

pub loaded_byte-requires-3-clause-at : goal.loaded_byte-requires-3-clause-at
loaded_byte-requires-3-clause-at g c = HasWidth-grows c.loaded_byte.new.arena c.loaded_byte-2.new.arena _ c.args.at.0 32 c.in_ok-b1.ensures.extends (HasWidth-grows c.args.arena.now c.loaded_byte.new.arena _ c.args.at.0 32 c.in_ok-b0.ensures.extends c.requires.at)

pub loaded_byte-requires-4-clause-here : goal.loaded_byte-requires-4-clause-here
loaded_byte-requires-4-clause-here g c = IsHere-grows c.loaded_byte-2.new.arena c.loaded_byte-3.new.arena _ c.args.here.now c.in_ok-b2.ensures.extends (IsHere-grows c.loaded_byte.new.arena c.loaded_byte-2.new.arena _ c.args.here.now c.in_ok-b1.ensures.extends (IsHere-grows c.args.arena.now c.loaded_byte.new.arena _ c.args.here.now c.in_ok-b0.ensures.extends c.requires.here))

pub loaded_byte-requires-4-clause-at : goal.loaded_byte-requires-4-clause-at
loaded_byte-requires-4-clause-at g c = HasWidth-grows c.loaded_byte-2.new.arena c.loaded_byte-3.new.arena _ c.args.at.0 32 c.in_ok-b2.ensures.extends (HasWidth-grows c.loaded_byte.new.arena c.loaded_byte-2.new.arena _ c.args.at.0 32 c.in_ok-b1.ensures.extends (HasWidth-grows c.args.arena.now c.loaded_byte.new.arena _ c.args.at.0 32 c.in_ok-b0.ensures.extends c.requires.at))

pub joined-requires-clause-byte0 : goal.joined-requires-clause-byte0
joined-requires-clause-byte0 g c = HasSides-grows c.loaded_byte-3.new.arena c.loaded_byte-4.new.arena _ 8 c.in_ok-b0.b0 c.in_ok-b3.ensures.extends (HasSides-grows c.loaded_byte-2.new.arena c.loaded_byte-3.new.arena _ 8 c.in_ok-b0.b0 c.in_ok-b2.ensures.extends (HasSides-grows c.loaded_byte.new.arena c.loaded_byte-2.new.arena _ 8 c.in_ok-b0.b0 c.in_ok-b1.ensures.extends c.in_ok-b0.ensures.width))

pub joined-requires-clause-byte1 : goal.joined-requires-clause-byte1
joined-requires-clause-byte1 g c = HasSides-grows c.loaded_byte-3.new.arena c.loaded_byte-4.new.arena _ 8 c.in_ok-b1.b1 c.in_ok-b3.ensures.extends (HasSides-grows c.loaded_byte-2.new.arena c.loaded_byte-3.new.arena _ 8 c.in_ok-b1.b1 c.in_ok-b2.ensures.extends c.in_ok-b1.ensures.width)

pub joined-requires-clause-byte2 : goal.joined-requires-clause-byte2
joined-requires-clause-byte2 g c = HasSides-grows c.loaded_byte-3.new.arena c.loaded_byte-4.new.arena _ 8 c.in_ok-b2.b2 c.in_ok-b3.ensures.extends c.in_ok-b2.ensures.width

pub returns-in_err-word-clause-ranges : goal.returns-in_err-word-clause-ranges
returns-in_err-word-clause-ranges g c = AreRight-later c.loaded_byte-4.new.arena c.joined.new.arena c.loaded_byte-4.new.ranges 2 c.in_err-word.ensures.extends c.in_ok-b3.ensures.ranges

pub returns-clause-ranges : goal.returns-clause-ranges
returns-clause-ranges g c = AreRight-later c.loaded_byte-4.new.arena c.joined.new.arena c.loaded_byte-4.new.ranges 2 c.in_ok-word.ensures.extends c.in_ok-b3.ensures.ranges

pub returns-clause-reads : goal.returns-clause-reads
returns-clause-reads g c = (
    bytes_read c.args.arena.now c.loaded_byte.new.arena c.loaded_byte-2.new.arena c.loaded_byte-3.new.arena c.loaded_byte-4.new.arena c.joined.new.arena _ _ _ _ 2 c.args.here.now c.args.at.0 c.args.bytes
    c.in_ok-b0.b0 c.in_ok-b1.b1 c.in_ok-b2.b2 c.in_ok-b3.b3 c.in_ok-word.word c.requires.size c.requires.at
    c.in_ok-b0.ensures.extends c.in_ok-b1.ensures.extends c.in_ok-b2.ensures.extends c.in_ok-b3.ensures.extends c.in_ok-word.ensures.extends c.law.ensures.fits
    (record { wide = c.in_ok-b0.ensures.width; reads = c.in_ok-b0.ensures.reads })
    (record { wide = c.in_ok-b1.ensures.width; reads = c.in_ok-b1.ensures.reads })
    (record { wide = c.in_ok-b2.ensures.width; reads = c.in_ok-b2.ensures.reads })
    (record { wide = c.in_ok-b3.ensures.width; reads = c.in_ok-b3.ensures.reads })
    c.in_ok-word.ensures.value).reads

pub returns-clause-small : goal.returns-clause-small
returns-clause-small g c = (
    bytes_read c.args.arena.now c.loaded_byte.new.arena c.loaded_byte-2.new.arena c.loaded_byte-3.new.arena c.loaded_byte-4.new.arena c.joined.new.arena _ _ _ _ 2 c.args.here.now c.args.at.0 c.args.bytes
    c.in_ok-b0.b0 c.in_ok-b1.b1 c.in_ok-b2.b2 c.in_ok-b3.b3 c.in_ok-word.word c.requires.size c.requires.at
    c.in_ok-b0.ensures.extends c.in_ok-b1.ensures.extends c.in_ok-b2.ensures.extends c.in_ok-b3.ensures.extends c.in_ok-word.ensures.extends c.law.ensures.fits
    (record { wide = c.in_ok-b0.ensures.width; reads = c.in_ok-b0.ensures.reads })
    (record { wide = c.in_ok-b1.ensures.width; reads = c.in_ok-b1.ensures.reads })
    (record { wide = c.in_ok-b2.ensures.width; reads = c.in_ok-b2.ensures.reads })
    (record { wide = c.in_ok-b3.ensures.width; reads = c.in_ok-b3.ensures.reads })
    c.in_ok-word.ensures.value).small
