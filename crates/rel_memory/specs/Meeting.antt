-- Which ranges may have a number in common, as far as their ends and bits tell.
use Rattle.std.specs.Prelude.{◌≤◌}
use Rattle.bv_range.specs.Known.{Bitwise, IsOff}
use Rattle.bv_range.specs.declared.range.Range.{Range}

-- neither ends before the other begins, and no bit is 0 in the one and 1 in the other
pub record MayMeet (a b : Range) : Type 0 where
  pub begins : a.least ≤ b.most
  pub ends : b.least ≤ a.most
  pub off : Bitwise IsOff a.zeros b.ones
  pub on : Bitwise IsOff b.zeros a.ones
