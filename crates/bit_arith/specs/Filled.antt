-- Shifts to the right with any bit from the left.
use Rattle.std.specs.Prelude.{ℕ, ◌-◌, ◌/◌, ◌^◌, Bool, if◌then◌else◌}

-- a number of n bits with each bit negated where `fill` is set
abbrev pub turned_where : Bool → ℕ → ℕ → ℕ
turned_where fill n x = if fill then 2 ^ n - 1 - x else x

-- a number of n bits moved down by k bits, with copies of `fill` above: zeros come in where the bits are negated before and after
abbrev pub moved_down_by : Bool → ℕ → ℕ → ℕ → ℕ
moved_down_by fill n x k = turned_where fill n (turned_where fill n x / 2 ^ k)
