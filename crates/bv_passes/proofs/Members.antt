-- The bytes of a word, on plain numbers.
use Rattle.std.proofs.Common.{◌≡◌, ℕ, ◌^◌, ◌<◌, arith}
use Rattle.bv_expr.specs.Nodes.{joined_bytes, byte_at}

pub member0 : (b0 b1 b2 b3 k : ℕ) → b0 < 2 ^ 8 → k ≡ 0 → b0 ≡ byte_at (joined_bytes b0 b1 b2 b3) k
member0 b0 b1 b2 b3 k l0 e = rw e (omega arith)

pub member1 : (b0 b1 b2 b3 k : ℕ) → b0 < 2 ^ 8 → b1 < 2 ^ 8 → k ≡ 1 → b1 ≡ byte_at (joined_bytes b0 b1 b2 b3) k
member1 b0 b1 b2 b3 k l0 l1 e = rw e (omega arith)

pub member2 : (b0 b1 b2 b3 k : ℕ) → b0 < 2 ^ 8 → b1 < 2 ^ 8 → b2 < 2 ^ 8 → k ≡ 2 → b2 ≡ byte_at (joined_bytes b0 b1 b2 b3) k
member2 b0 b1 b2 b3 k l0 l1 l2 e = rw e (omega arith)

pub member3 : (b0 b1 b2 b3 k : ℕ) → b0 < 2 ^ 8 → b1 < 2 ^ 8 → b2 < 2 ^ 8 → b3 < 2 ^ 8 → k ≡ 3 → b3 ≡ byte_at (joined_bytes b0 b1 b2 b3) k
member3 b0 b1 b2 b3 k l0 l1 l2 l3 e = rw e (omega arith)

pub whole : (x b0 b1 b2 b3 : ℕ) → x < 2 ^ 32 → b0 ≡ byte_at x 0 → b1 ≡ byte_at x 1 → b2 ≡ byte_at x 2 → b3 ≡ byte_at x 3 → x ≡ joined_bytes b0 b1 b2 b3
whole x b0 b1 b2 b3 lt e0 e1 e2 e3 = rw e0 (rw e1 (rw e2 (rw e3 (omega arith))))
