use Rattle.std.proofs.Common.{◌<◌, ◌*◌, ◌-◌, ◌^◌, List, length}
use Rattle.ct_words.specs.Words.{flag}
use Rattle.gate_form.specs.declared.wire.Gate.{Gate}
use Rattle.gate_form.specs.Net.{bit}
use Rattle.bit_arith.specs.Number.{IsWord}
use Rattle.bit_arith.proofs.words.repeated.Given as goal

abbrev pub invariant-loop-i : goal.invariant-loop-i
invariant-loop-i l = (gates : List Gate) → l.w.gate < length gates → IsWord gates l.out.items l._i (λ v. flag (bit v l.w) * (2 ^ l._i - 1))
