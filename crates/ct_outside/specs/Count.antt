-- Counts that never fall, and stand still at 2^64 - 1.
use Rattle.std.specs.Prelude.{ℕ, ◌+◌, ◌-◌, ◌^◌, ◌≤◌, min}

-- a count after n more, which stands still at the greatest number of 64 bits
abbrev pub raised_by : ℕ → ℕ → ℕ
raised_by n count = min (count + n) (2 ^ 64 - 1)

-- a count rose by one or more, or stands at its greatest number
abbrev pub Rose : ℕ → ℕ → Type 0
Rose before after = raised_by 1 before ≤ after
