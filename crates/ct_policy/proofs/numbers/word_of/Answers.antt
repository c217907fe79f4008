use Rattle.std.proofs.Common.{w64}
use Rattle.std.proofs.lemmas.Int.{to_z-of_z}
use Rattle.ct_policy.proofs.NumberLemmas.{word-fits, word-none}
use Rattle.ct_policy.proofs.numbers.word_of.Goals as goal

pub returns-in-Ok : goal.returns-in-Ok
returns-in-Ok c =
    let passed = to_z-of_z w64 c.args.number c.ranges.number in
    let is = rw passed at c.in-Ok.ensures in
    word-fits c.in-Ok.word c.args.number is.0 is.1

pub returns-in-Err : goal.returns-in-Err
returns-in-Err c =
    let passed = to_z-of_z w64 c.args.number c.ranges.number in
    word-none c.args.number (rw passed at c.in-Err.ensures)
