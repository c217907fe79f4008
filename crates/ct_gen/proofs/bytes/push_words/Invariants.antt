use Rattle.std.proofs.Common.{◌≡◌, ◌++◌, take}
use Rattle.ct_gen.specs.Files.{words}
use Rattle.ct_gen.proofs.bytes.push_words.Given as goal

abbrev pub invariant-loop-number : goal.invariant-loop-number
invariant-loop-number l = l.bytes.items ≡ l.initial.bytes.items ++ words (take l.number-index l.numbers)
