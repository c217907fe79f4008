use Rattle.std.proofs.Common.{refl}
use Rattle.rel_step.proofs.BuildingLaws.{built, built_pick, adds_none}
use Rattle.rel_step.proofs.building.build.Goals as goal

pub returns-in_ok-constant-in-Constant-clause-built : goal.returns-in_ok-constant-in-Constant-clause-built
returns-in_ok-constant-in-Constant-clause-built c = rw c.in-Constant.is (built _ _ _ _ c.in_ok-constant-in-Constant.ensures.value c.in_ok-constant-in-Constant.ensures.width (λ ws. refl))

pub returns-in_ok-constant-in-Constant-clause-inputs : goal.returns-in_ok-constant-in-Constant-clause-inputs
returns-in_ok-constant-in-Constant-clause-inputs c = adds_none _ _ _ c.in_ok-constant-in-Constant.ensures.no_input

pub returns-in_err-constant-in-Constant-clause-inputs : goal.returns-in_err-constant-in-Constant-clause-inputs
returns-in_err-constant-in-Constant-clause-inputs c = adds_none _ _ _ c.in_err-constant-in-Constant.ensures.no_input

pub returns-in_ok-word-in-Alu-clause-built : goal.returns-in_ok-word-in-Alu-clause-built
returns-in_ok-word-in-Alu-clause-built c = rw c.in-Alu.is (built _ _ _ _ c.in_ok-word-in-Alu.ensures.value c.in_ok-word-in-Alu.ensures.width (λ ws. refl))

pub returns-in_ok-word-in-Alu-clause-inputs : goal.returns-in_ok-word-in-Alu-clause-inputs
returns-in_ok-word-in-Alu-clause-inputs c = adds_none _ _ _ c.in_ok-word-in-Alu.ensures.no_input

pub returns-in_err-word-in-Alu-clause-inputs : goal.returns-in_err-word-in-Alu-clause-inputs
returns-in_err-word-in-Alu-clause-inputs c = adds_none _ _ _ c.in_err-word-in-Alu.ensures.no_input

pub returns-in_ok-bit-in-Test-clause-built : goal.returns-in_ok-bit-in-Test-clause-built
returns-in_ok-bit-in-Test-clause-built c = rw c.in-Test.is (built _ _ _ _ c.in_ok-bit-in-Test.ensures.value c.in_ok-bit-in-Test.ensures.width (λ ws. refl))

pub returns-in_ok-bit-in-Test-clause-inputs : goal.returns-in_ok-bit-in-Test-clause-inputs
returns-in_ok-bit-in-Test-clause-inputs c = adds_none _ _ _ c.in_ok-bit-in-Test.ensures.no_input

pub returns-in_err-bit-in-Test-clause-inputs : goal.returns-in_err-bit-in-Test-clause-inputs
returns-in_err-bit-in-Test-clause-inputs c = adds_none _ _ _ c.in_err-bit-in-Test.ensures.no_input

pub returns-in_ok-other-in-Not-clause-built : goal.returns-in_ok-other-in-Not-clause-built
returns-in_ok-other-in-Not-clause-built c = rw c.in-Not.is (built _ _ _ _ c.in_ok-other-in-Not.ensures.value c.in_ok-other-in-Not.ensures.width (λ ws. refl))

pub returns-in_ok-other-in-Not-clause-inputs : goal.returns-in_ok-other-in-Not-clause-inputs
returns-in_ok-other-in-Not-clause-inputs c = adds_none _ _ _ c.in_ok-other-in-Not.ensures.no_input

pub returns-in_err-other-in-Not-clause-inputs : goal.returns-in_err-other-in-Not-clause-inputs
returns-in_err-other-in-Not-clause-inputs c = adds_none _ _ _ c.in_err-other-in-Not.ensures.no_input

pub returns-in_ok-all-in-Both-clause-built : goal.returns-in_ok-all-in-Both-clause-built
returns-in_ok-all-in-Both-clause-built c = rw c.in-Both.is (built _ _ _ _ c.in_ok-all-in-Both.ensures.value c.in_ok-all-in-Both.ensures.width (λ ws. refl))

pub returns-in_ok-all-in-Both-clause-inputs : goal.returns-in_ok-all-in-Both-clause-inputs
returns-in_ok-all-in-Both-clause-inputs c = adds_none _ _ _ c.in_ok-all-in-Both.ensures.no_input

pub returns-in_err-all-in-Both-clause-inputs : goal.returns-in_err-all-in-Both-clause-inputs
returns-in_err-all-in-Both-clause-inputs c = adds_none _ _ _ c.in_err-all-in-Both.ensures.no_input

pub returns-in_ok-choice-in-Pick-clause-built : goal.returns-in_ok-choice-in-Pick-clause-built
returns-in_ok-choice-in-Pick-clause-built c = rw c.in-Pick.is (built_pick _ _ 1 _ _ _ _ c.law.ensures.typed (rw c.in-Pick.is at c.requires.operands).1 c.in_ok-choice-in-Pick.ensures.extends c.in_ok-choice-in-Pick.ensures.inside c.in_ok-choice-in-Pick.ensures.value c.in_ok-choice-in-Pick.ensures.width)

pub returns-in_ok-choice-in-Pick-clause-inputs : goal.returns-in_ok-choice-in-Pick-clause-inputs
returns-in_ok-choice-in-Pick-clause-inputs c = adds_none _ _ _ c.in_ok-choice-in-Pick.ensures.no_input

pub returns-in_err-choice-in-Pick-clause-inputs : goal.returns-in_err-choice-in-Pick-clause-inputs
returns-in_err-choice-in-Pick-clause-inputs c = adds_none _ _ _ c.in_err-choice-in-Pick.ensures.no_input

pub returns-in_ok-joined-in-Join-clause-built : goal.returns-in_ok-joined-in-Join-clause-built
returns-in_ok-joined-in-Join-clause-built c = rw c.in-Join.is (built _ _ _ _ c.in_ok-joined-in-Join.ensures.value c.in_ok-joined-in-Join.ensures.width (λ ws. refl))

pub returns-in_ok-joined-in-Join-clause-inputs : goal.returns-in_ok-joined-in-Join-clause-inputs
returns-in_ok-joined-in-Join-clause-inputs c = adds_none _ _ _ c.in_ok-joined-in-Join.ensures.no_input

pub returns-in_err-joined-in-Join-clause-inputs : goal.returns-in_err-joined-in-Join-clause-inputs
returns-in_err-joined-in-Join-clause-inputs c = adds_none _ _ _ c.in_err-joined-in-Join.ensures.no_input

pub returns-in_ok-part-in-Byte-clause-built : goal.returns-in_ok-part-in-Byte-clause-built
returns-in_ok-part-in-Byte-clause-built c = rw c.in-Byte.is (built _ _ _ _ c.in_ok-part-in-Byte.ensures.value c.in_ok-part-in-Byte.ensures.width (λ ws. refl))

pub returns-in_ok-part-in-Byte-clause-inputs : goal.returns-in_ok-part-in-Byte-clause-inputs
returns-in_ok-part-in-Byte-clause-inputs c = adds_none _ _ _ c.in_ok-part-in-Byte.ensures.no_input

pub returns-in_err-part-in-Byte-clause-inputs : goal.returns-in_err-part-in-Byte-clause-inputs
returns-in_err-part-in-Byte-clause-inputs c = adds_none _ _ _ c.in_err-part-in-Byte.ensures.no_input
