use Rattle.std.proofs.Common.{arith}
use Rattle.gate_form.specs.Run.{Grows-then}
use Rattle.bit_arith.proofs.BitLaws.{differ_of}
use Rattle.bit_arith.proofs.bits.xor.Goals as goal

pub returns-clause-value : goal.returns-clause-value
returns-clause-value c = λ v run3.
    let run2 = c.in_ok-one.ensures.grows.runs v run3 in
    let run1 = c.in_ok-neither.ensures.grows.runs v run2 in
    differ_of _ _ _ _ _ _ _ _ _ (c.in_ok-both.ensures.value v run1) (c.not.ensures.value v) (c.not-2.ensures.value v) (c.in_ok-neither.ensures.value v run2) (c.not-3.ensures.value v) (c.not-4.ensures.value v) (c.in_ok-one.ensures.value v run3)

pub returns-clause-grows : goal.returns-clause-grows
returns-clause-grows c =
    let two = Grows-then _ _ _ _ _ 2 c.in_ok-both.ensures.grows c.in_ok-neither.ensures.grows (omega arith) in
    Grows-then _ _ _ _ _ 3 two c.in_ok-one.ensures.grows (omega arith)
