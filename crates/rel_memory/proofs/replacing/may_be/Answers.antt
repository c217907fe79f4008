use Rattle.std.proofs.lemmas.Bool.{eq-eqb, eqb-true}
use Rattle.rel_memory.proofs.RangeLaws.{and_on, and_off, off_from, on_from}
use Rattle.rel_memory.proofs.replacing.may_be.Goals as goal

pub returns-then-range-number-eq0-clause-within : goal.returns-then-range-number-eq0-clause-within
returns-then-range-number-eq0-clause-within c = λ same. record {
  bits = record {
    off = off_from c.args.range.zeros c.args.number c.if-range-number-eq0.true;
    on = on_from c.args.range.ones c.args.number (eqb-true _ _ same);
  };
  least = c.if-number-range.false;
  most = c.if-number-range-2.false;
}

pub returns-then-range-number-eq0-clause-all : goal.returns-then-range-number-eq0-clause-all
returns-then-range-number-eq0-clause-all c = λ within. eq-eqb _ _ (and_on c.args.range.ones c.args.number within.bits.on)

pub returns-else-range-number-eq0-clause-within : goal.returns-else-range-number-eq0-clause-within
returns-else-range-number-eq0-clause-within c = λ none. absurd (c.if-range-number-eq0.false (eqb-true _ 0 none))

pub returns-else-range-number-eq0-clause-all : goal.returns-else-range-number-eq0-clause-all
returns-else-range-number-eq0-clause-all c = λ within. absurd (c.if-range-number-eq0.false (and_off c.args.range.zeros c.args.number within.bits.off))
