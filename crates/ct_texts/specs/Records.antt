-- How what a step shows is spelled.
use Rattle.std.specs.Prelude.{ℕ, List, ◌++◌, Option, Some, None, codes}
use Rattle.rv_decode.specs.Text.{address_text}
use Rattle.rv_machine.specs.declared.touch.Touch.{Touch}
use Rattle.rv_machine.specs.declared.touch.Touch.TheVariants.{Nothing, Load, Store}
use Rattle.rv_machine.specs.declared.«record».Record.{Record}

-- the memory access of a step and its first address, or - where there is none
abbrev pub touch_text : Touch → List ℕ
touch_text Nothing = codes "-"
touch_text (Load address) = codes "load " ++ address_text address
touch_text (Store address) = codes "store " ++ address_text address

-- the next pc, or - where there is none
abbrev pub next_text : Option ℕ → List ℕ
next_text None = codes "-"
next_text (Some next) = address_text next

-- what a step touches and where it goes
unfoldable pub record_text : Record → List ℕ
record_text seen = codes "touch " ++ touch_text seen.touch ++ codes " next " ++ next_text seen.next
