use Rattle.std.proofs.Common.{◌≡◌, take}
use Rattle.proof_check.proofs.chain.are_same.Given as goal

-- the literals so far are the same
abbrev pub invariant-loop-at : goal.invariant-loop-at
invariant-loop-at l = take l.at l.left ≡ take l.at l.right
