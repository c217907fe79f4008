use Rattle.std.proofs.Common.{rules, ◌≤◌, bit_and}
use Rattle.std.proofs.lemmas.Bool.{eqb-false, eqb-true, not-false, not-true}
use Rattle.rel_memory.proofs.RangeLaws.{apart_bits, or_none, off_from, off_swapped}
use Rattle.rel_memory.proofs.replacing.are_apart.Goals as goal

pub returns-else-b-a-clause-apart : goal.returns-else-b-a-clause-apart
returns-else-b-a-clause-apart c = λ differ. apart_bits c.args.a c.args.b (eqb-false _ 0 (not-true _ differ))

pub returns-else-b-a-clause-otherwise : goal.returns-else-b-a-clause-otherwise
returns-else-b-a-clause-otherwise c = λ together.
    let none = or_none (bit_and c.args.a.zeros c.args.b.ones) (bit_and c.args.a.ones c.args.b.zeros) (eqb-true _ 0 (not-false _ together)) in
    let reach : (c.args.a.least ≤ c.args.b.most) × (c.args.b.least ≤ c.args.a.most) = search rules in
    record {
      begins = reach.0;
      ends = reach.1;
      off = off_from c.args.a.zeros c.args.b.ones none.0;
      on = off_from c.args.b.zeros c.args.a.ones (off_swapped c.args.a.ones c.args.b.zeros none.1);
    }
