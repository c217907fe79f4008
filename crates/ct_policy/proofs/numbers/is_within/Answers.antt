use Rattle.std.proofs.Common.{◌∙◌, w64}
use Rattle.std.proofs.lemmas.Bool.{le-leb, lt-leb}
use Rattle.std.proofs.lemmas.Int.{to_z-of_z}
use Rattle.ct_policy.proofs.NumberLemmas.{within-word, within-none}
use Rattle.ct_policy.proofs.numbers.is_within.Goals as goal

pub returns-then-low-word : goal.returns-then-low-word
returns-then-low-word c =
    let passed = to_z-of_z w64 c.args.number c.ranges.number in
    let is = rw passed at c.in-Ok.ensures in
    let least = le-leb c.args.low c.in-Ok.word c.if-low-word.true in
    rw least at (within-word c.args.low c.args.high c.in-Ok.word c.args.number is.0 is.1)

pub returns-else-low-word : goal.returns-else-low-word
returns-else-low-word c =
    let passed = to_z-of_z w64 c.args.number c.ranges.number in
    let is = rw passed at c.in-Ok.ensures in
    let below = lt-leb c.args.low c.in-Ok.word c.if-low-word.false in
    below ∙ rw below at (within-word c.args.low c.args.high c.in-Ok.word c.args.number is.0 is.1)

pub returns-in-Err : goal.returns-in-Err
returns-in-Err c =
    let passed = to_z-of_z w64 c.args.number c.ranges.number in
    within-none c.args.low c.args.high c.args.number c.ranges.high.fits (rw passed at c.in-Err.ensures)
