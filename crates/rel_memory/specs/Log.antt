-- All writes since the first one at an address that is no number.
use Rattle.std.specs.Prelude.{◌≡◌, ℕ, ◌≤◌, ◌==◌, Bool, List, length, fold, All, Option, if◌then◌else◌}
use Rattle.std.specs.Option.{option_map_or}
use Rattle.bv_expr.specs.declared.q_node.QNode.{QNode}
use Rattle.rel_store.specs.Sides.{side_id}
use Rattle.rel_memory.specs.declared.contents.Kept.{Kept}
use Rattle.rel_memory.specs.declared.entry.Entry.{Entry}
use Rattle.rel_memory.specs.declared.entry.Entry.TheVariants.{Number, Computed}
use Rattle.rel_memory.specs.Contents.{Contents, IsWritten, kept_at, first_byte, byte_in, after_write}

-- the byte at an address after one of these writes, where `latest` was last put there as a number
abbrev pub after_entry : Bool → (ℕ → ℕ) → Option Kept → ℕ → ℕ → Entry → ℕ
after_entry right v latest at before (Number address) = if address == at then option_map_or (λ kept. v (side_id right kept.held)) latest before else before
after_entry right v latest at before (Computed one) = after_write right v at before one

-- an address and a byte of the arena, where the address is no number
abbrev pub IsEntry : List QNode → Entry → Type 0
IsEntry nodes (Number address) = Unit {0}
IsEntry nodes (Computed one) = IsWritten nodes one

-- all these writes, done in their order over the first bytes, give the bytes
pub record IsLogged (m : Contents) (log : List Entry) : Type 0 where
  pub means : (right : Bool) (v : ℕ → ℕ) (at : ℕ) → fold (after_entry right v (kept_at m at) at) (first_byte right v m at) log ≡ byte_in right v m at
  pub long : length m.computed ≤ length log
  pub each : (nodes : List QNode) → All (IsWritten nodes) m.computed → All (IsEntry nodes) log
