-- What the memory of two runs holds.
use Rattle.std.specs.Prelude.{◌≡◌, ◌≢◌, ℕ, ◌≤◌, ◌==◌, nat_eq, Bool, List, length, drop, fold, All, Option, Some, None, unwrap_or, if◌then◌else◌}
use Rattle.std.specs.Option.{option_map_or}
use Rattle.std.specs.Map.{lookup}
use Rattle.rv_image.specs.Cell.{Cell}
use Rattle.rv_image.specs.Image.{IsImage, cell_at, loaded_at}
use Rattle.bv_expr.specs.declared.q_node.QNode.{QNode}
use Rattle.bv_expr.specs.Nodes.{HasWidth}
use Rattle.rel_store.specs.Sides.{side_id, HasSides}
use Rattle.rel_memory.specs.declared.contents.Kept.{Kept}
use Rattle.rel_memory.specs.declared.contents.Written.{Written}

-- the loaded bytes and their rights, what was last put at each address that was written as a number, the writes at
-- addresses that are no numbers, oldest first, and how many writes of both kinds came since the first of these
pub record Contents : Type 0 where
  pub image : List Cell
  pub kept : List (ℕ × Kept)
  pub computed : List Written
  pub later : ℕ

-- the byte at an address in one of the runs after a write at an address that is no number, where v has the values of
-- the expressions
abbrev pub after_write : Bool → (ℕ → ℕ) → ℕ → ℕ → Written → ℕ
after_write right v at before one = if v one.address.0 == at then v (side_id right one.held) else before

-- what was last put at an address as a number
abbrev pub kept_at : Contents → ℕ → Option Kept
kept_at m at = lookup (nat_eq at) m.kept

-- the byte that was last put at an address as a number, and else the loaded one
abbrev pub first_byte : Bool → (ℕ → ℕ) → Contents → ℕ → ℕ
first_byte right v m at = option_map_or (λ kept. v (side_id right kept.held)) (kept_at m at) (unwrap_or (loaded_at m.image at) 0)

-- how many of the writes at addresses that are no numbers were before that
abbrev pub passed : Contents → ℕ → ℕ
passed m at = option_map_or (λ kept. kept.before) (kept_at m at) 0

-- the byte at an address in one of the runs
unfoldable pub byte_in : Bool → (ℕ → ℕ) → Contents → ℕ → ℕ
byte_in right v m at = fold (after_write right v at) (first_byte right v m at) (drop (passed m at) m.computed)

-- an address and a byte of the arena
pub record IsWritten (nodes : List QNode) (one : Written) : Type 0 where
  pub address : HasWidth nodes one.address.0 32
  pub held : HasSides nodes 8 one.held

-- what is kept is a byte of the arena, put after some of the computed writes
pub record IsKept (nodes : List QNode) (count : ℕ) (kept : Kept) : Type 0 where
  pub held : HasSides nodes 8 kept.held
  pub before : kept.before ≤ count

-- all expressions are of the arena
pub record IsMemory (nodes : List QNode) (m : Contents) : Type 0 where
  pub image : IsImage m.image
  pub kept : (at : ℕ) (one : Kept) → kept_at m at ≡ Some one → IsKept nodes (length m.computed) one
  pub computed : All (IsWritten nodes) m.computed

-- the address is accessible
abbrev pub IsAccessible : Contents → ℕ → Type 0
IsAccessible m at = cell_at m.image at ≢ None

-- nothing was written yet at an address that is no number
abbrev pub HasNumbersOnly : Contents → Type 0
HasNumbersOnly m = m.later ≡ 0

-- a byte was put at an address that is a number
pub record IsPut (old : Contents) (at : ℕ) (held : Kept) (new : Contents) : Type 0 where
  pub image : new.image ≡ old.image
  pub computed : new.computed ≡ old.computed
  pub kept : (other : ℕ) → kept_at new other ≡ (if other == at then Some held else kept_at old other)
