use Rattle.std.proofs.Common.{◌≡◌, ◌++◌, take}
use Rattle.ct_gen.specs.Files.{halves}
use Rattle.ct_gen.proofs.bytes.push_halves.Given as goal

abbrev pub invariant-loop-number : goal.invariant-loop-number
invariant-loop-number l = l.bytes.items ≡ l.initial.bytes.items ++ halves (take l.number-index l.numbers)
