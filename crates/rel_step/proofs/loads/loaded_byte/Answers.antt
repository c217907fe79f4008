use Rattle.bv_range.proofs.Walks.{AreRight-later}
use Rattle.rel_step.proofs.Growing.{IsMemory-grows, HasWidth-grows}
use Rattle.rel_step.proofs.Reading.{reads_none, reads_byte}
use Rattle.rel_step.proofs.loads.loaded_byte.Goals as goal

pub returns-in_err-zero-clause-ranges : goal.returns-in_err-zero-clause-ranges
returns-in_err-zero-clause-ranges g c = AreRight-later c.args.arena.now c.constant.new.self c.args.ranges.now 1 c.in_err-zero.ensures.extends c.requires.ranges

pub returns-then-bytes-k-clause-reads : goal.returns-then-bytes-k-clause-reads
returns-then-bytes-k-clause-reads g c = reads_none c.constant.new.self c.args.here.now c.args.at.0 c.args.bytes c.args.k c.in_ok-zero.zero c.if-bytes-k.true c.in_ok-zero.ensures.value

pub returns-then-bytes-k-clause-ranges : goal.returns-then-bytes-k-clause-ranges
returns-then-bytes-k-clause-ranges g c = AreRight-later c.args.arena.now c.constant.new.self c.args.ranges.now 1 c.in_ok-zero.ensures.extends c.requires.ranges

pub returns-in_err-address-clause-ranges : goal.returns-in_err-address-clause-ranges
returns-in_err-address-clause-ranges g c = AreRight-later c.args.arena.now c.above.new.arena c.args.ranges.now 34 c.in_err-address.ensures.extends c.requires.ranges

pub read_byte-requires-clause-memory : goal.read_byte-requires-clause-memory
read_byte-requires-clause-memory g c = IsMemory-grows c.args.arena.now c.above.new.arena 34 c.args.here.now.memory c.in_ok-address.ensures.extends c.requires.here.memory

pub read_byte-requires-clause-ranges : goal.read_byte-requires-clause-ranges
read_byte-requires-clause-ranges g c = AreRight-later c.args.arena.now c.above.new.arena c.args.ranges.now 34 c.in_ok-address.ensures.extends c.requires.ranges

pub returns-clause-reads : goal.returns-clause-reads
returns-clause-reads g c =
    reads_byte c.above.new.arena c.read_byte.new.arena _ c.args.here.now c.args.at.0 c.args.bytes c.args.k c.in_ok-address.address c.in_ok-byte.byte c.if-bytes-k.false
    (HasWidth-grows c.above.new.arena c.read_byte.new.arena _ c.args.at.0 32 c.in_ok-byte.ensures.extends (HasWidth-grows c.args.arena.now c.above.new.arena 34 c.args.at.0 32 c.in_ok-address.ensures.extends c.requires.at))
    c.law.ensures.fits
    (IsMemory-grows c.args.arena.now c.above.new.arena 34 c.args.here.now.memory c.in_ok-address.ensures.extends c.requires.here.memory)
    c.in_ok-address.ensures.value c.in_ok-byte.ensures.extends c.in_ok-byte.ensures.value
