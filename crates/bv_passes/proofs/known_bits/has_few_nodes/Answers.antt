use Rattle.std.proofs.Common.{refl, arith}
use Rattle.bv_passes.proofs.Looking.{are_few, seen_few, is_test, is_none}
use Rattle.bv_passes.proofs.known_bits.has_few_nodes.Goals as goal

pub returns-then-looked-len : goal.returns-then-looked-len
returns-then-looked-len c = (
  λ true. are_few _ 32 _ c.loop-looked.seen.keys c.loop-looked.looked c.loop-looked.invariant (omega (arith, c.if-looked-len.true, c.len.ensures.len)) (omega (arith, c.loop-looked-test.true)),
  λ few. refl,
)

pub returns : goal.returns
returns c = is_test c.len-2.result 32
    (λ le. are_few _ 32 _ c.loop-looked.seen.keys c.loop-looked.looked c.loop-looked.invariant (omega (arith, le, c.len-2.ensures.len, c.loop-looked-test.false)) (omega (arith, c.loop-looked.auto.looked-end)))
    (λ few. omega (arith, seen_few _ 32 _ c.loop-looked.seen.keys c.loop-looked.looked c.loop-looked.invariant c.len-2.ensures.unique few, c.len-2.ensures.len))

pub returns-then-len-gt-MOST_LOOKED : goal.returns-then-len-gt-MOST_LOOKED
returns-then-len-gt-MOST_LOOKED c = is_none c.len-in-loop-looked.result 32 (omega (arith, c.if-len-gt-MOST_LOOKED.true))
    (λ few. omega (arith, seen_few _ 32 _ c.loop-looked.seen.keys c.loop-looked.looked c.loop-looked.invariant c.len-in-loop-looked.ensures.unique few, c.len-in-loop-looked.ensures.len))
