use Rattle.std.proofs.Common.{arith}
use Rattle.bv_range.proofs.Comparing.{apart_below, apart_above, different_bits, one_word}
use Rattle.bv_range.proofs.comparisons.is_equal.Goals as goal

pub returns-then-a-b : goal.returns-then-a-b
returns-then-a-b c = apart_below _ _ c.if-a-b.true

pub returns-then-b-a : goal.returns-then-b-a
returns-then-b-a c = apart_above _ _ c.if-b-a.true

pub returns-then-a-b-ne0 : goal.returns-then-a-b-ne0
returns-then-a-b-ne0 c = different_bits _ _ c.if-a-b-ne0.true

pub returns-then-b : goal.returns-then-b
returns-then-b c = one_word _ _ c.if-a.true c.if-b.true (omega arith) (omega arith)
