use Rattle.std.proofs.Common.{arith}
use Rattle.gate_form.specs.Run.{Grows-then}
use Rattle.bit_arith.proofs.BitLaws.{full_add_of}
use Rattle.bit_arith.proofs.bits.full_add.Goals as goal

pub returns-clause-value : goal.returns-clause-value
returns-clause-value c = λ v run5.
    let run4 = c.in_ok-carry.ensures.grows.runs v run5 in
    let run3 = c.in_ok-through.ensures.grows.runs v run4 in
    let run2 = c.in_ok-both.ensures.grows.runs v run3 in
    let run1 = c.in_ok-sum.ensures.grows.runs v run2 in
    full_add_of _ _ _ _ _ _ _ _ (c.in_ok-half.ensures.value v run1) (c.in_ok-sum.ensures.value v run2) (c.in_ok-both.ensures.value v run3) (c.in_ok-through.ensures.value v run4) (c.in_ok-carry.ensures.value v run5)

pub returns-clause-grows : goal.returns-clause-grows
returns-clause-grows c =
    let two = Grows-then _ _ _ _ _ 6 c.in_ok-half.ensures.grows c.in_ok-sum.ensures.grows (omega arith) in
    let three = Grows-then _ _ _ _ _ 7 two c.in_ok-both.ensures.grows (omega arith) in
    let four = Grows-then _ _ _ _ _ 8 three c.in_ok-through.ensures.grows (omega arith) in
    Grows-then _ _ _ _ _ 9 four c.in_ok-carry.ensures.grows (omega arith)
