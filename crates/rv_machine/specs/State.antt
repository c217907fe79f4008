-- What a machine is at one moment.
use Rattle.std.specs.Prelude.{ℕ, ◌==◌, List, Option, slice_index, slice_set, if◌then◌else◌}
use Rattle.rv_machine.specs.declared.end.End.{End}

-- the pc, the registers x0 to x31, the bytes at the accessible addresses in ascending order, and the ending
pub record State : Type 0 where
  pub pc : ℕ
  pub registers : List ℕ
  pub bytes : List ℕ
  pub ending : Option End

-- what register r reads: x0 is always 0
abbrev pub register_value : State → ℕ → ℕ
register_value s r = if r == 0 then 0 else slice_index s.registers r

-- the state after v is written to register r: x0 ignores writes
abbrev pub register_written : State → ℕ → ℕ → State
register_written s r v = record s { registers = if r == 0 then s.registers else slice_set s.registers r v }
