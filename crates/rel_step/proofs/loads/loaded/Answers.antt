use Rattle.bv_range.proofs.Walks.{AreRight-later}
use Rattle.rel_step.proofs.Reading.{loaded_is}
use Rattle.rel_step.proofs.loads.loaded.Goals as goal

pub simplify_value-requires-clause-inside : goal.simplify_value-requires-clause-inside
simplify_value-requires-clause-inside g c = λ right. (c.in_ok-given.ensures.width right).inside

pub returns-in_err-given-clause-ranges : goal.returns-in_err-given-clause-ranges
returns-in_err-given-clause-ranges g c = AreRight-later c.loaded_word.new.arena c.extended.new.arena c.loaded_word.new.ranges 5 c.in_err-given.ensures.extends c.in_ok-word.ensures.ranges

pub returns-in_err-simple-clause-ranges : goal.returns-in_err-simple-clause-ranges
returns-in_err-simple-clause-ranges g c =
    AreRight-later c.extended.new.arena c.simplify_value.new.arena c.loaded_word.new.ranges 64 c.in_err-simple.ensures.extends
    (AreRight-later c.loaded_word.new.arena c.extended.new.arena c.loaded_word.new.ranges 5 c.in_ok-given.ensures.extends c.in_ok-word.ensures.ranges)

pub returns-clause-ranges : goal.returns-clause-ranges
returns-clause-ranges g c =
    AreRight-later c.extended.new.arena c.simplify_value.new.arena c.loaded_word.new.ranges 64 c.in_ok-simple.ensures.extends
    (AreRight-later c.loaded_word.new.arena c.extended.new.arena c.loaded_word.new.ranges 5 c.in_ok-given.ensures.extends c.in_ok-word.ensures.ranges)

pub returns-clause-reads : goal.returns-clause-reads
returns-clause-reads g c =
    loaded_is c.loaded_word.new.arena c.extended.new.arena c.simplify_value.new.arena 5 64 c.args.here.now c.args.at.0 c.args.bytes c.args.signed c.in_ok-word.word c.in_ok-given.given c.in_ok-simple.simple
    c.in_ok-given.ensures.extends c.in_ok-simple.ensures.extends c.in_ok-word.ensures.reads c.in_ok-word.ensures.small c.in_ok-given.ensures.value c.in_ok-simple.ensures.answer

pub returns-clause-width : goal.returns-clause-width
returns-clause-width g c = λ right. (c.in_ok-simple.ensures.answer right).width 32 (c.in_ok-given.ensures.width right)
