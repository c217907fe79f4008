-- How a pass counts its changes.
use Rattle.std.specs.Prelude.{ℕ, ◌+◌, ◌-◌, ◌^◌, ◌==◌, min, if◌then◌else◌}

-- the count after an answer: one more where the answer is another node, and at most 2 ^ 64 - 1
abbrev pub counted : ℕ → ℕ → ℕ → ℕ
counted id answer count = if answer == id then count else min (count + 1) (2 ^ 64 - 1)
