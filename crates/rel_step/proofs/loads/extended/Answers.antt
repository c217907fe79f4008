use Rattle.std.proofs.Common.{refl}
use Rattle.rel_step.proofs.Reading.{extended_signed, extended_unsigned, extended_word}
use Rattle.rel_step.proofs.loads.extended.Goals as goal

pub returns-then-bytes-eq4-clause-value : goal.returns-then-bytes-eq4-clause-value
returns-then-bytes-eq4-clause-value c = extended_word c.args.arena.now c.args.word c.args.bytes c.args.signed c.if-bytes-eq4.true

pub returns-then-signed-clause-value : goal.returns-then-signed-clause-value
returns-then-signed-clause-value c = extended_signed c.sign_extended.new.arena c.args.word c.in_ok-given.given c.args.bytes _ c.args.signed c.requires.size c.if-bytes-eq4.false refl c.if-signed.true c.in_ok-given.ensures.value

pub returns-clause-value : goal.returns-clause-value
returns-clause-value c = extended_unsigned c.args.arena.now c.args.word c.args.bytes c.args.signed c.requires.size c.if-signed.false
