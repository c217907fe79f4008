-- How the bytes of several addresses become one choice by the bits of an address.
use Rattle.std.specs.Prelude.{◌≡◌, ℕ, ◌-◌, ◌/◌, ◌%◌, ◌<◌, Bool, List, length, Option, Some, None, slice_get, nat_eq}
use Rattle.std.specs.Option.{IsSomeAnd, MatchOption}
use Rattle.std.specs.Int.{bit_at}
use Rattle.std.specs.Map.{lookup}
use Rattle.bv_expr.specs.declared.expr_id.ExprId.{ExprId}
use Rattle.bv_expr.specs.declared.q_node.QNode.{QNode}
use Rattle.bv_expr.specs.Nodes.{IsValuation, HasWidth}
use Rattle.bv_expr.specs.Growth.{Extends}
use Rattle.rel_store.specs.Sides.{side_id, HasSides}
use Rattle.rel_store.specs.declared.rel_value.RelValue.{RelValue}
use Rattle.rel_memory.specs.Contents.{Contents, first_byte}

-- the new nodes come after the old ones, however many they are
abbrev pub Grows : List QNode → List QNode → Type 0
Grows old new = Extends old new (length new - length old)

-- the value that stands for a number
abbrev pub value_at : List (ℕ × RelValue) → ℕ → Option RelValue
value_at values at = lookup (nat_eq at) values

-- each value is a byte of the arena
abbrev pub AreHeld : List QNode → List (ℕ × RelValue) → Type 0
AreHeld nodes values = (at : ℕ) (held : RelValue) → value_at values at ≡ Some held → HasSides nodes 8 held

-- a byte of the arena that is the first byte at an address
pub record IsFirst (nodes : List QNode) (m : Contents) (at : ℕ) (held : RelValue) : Type 0 where
  pub width : HasSides nodes 8 held
  pub byte : (env v : ℕ → ℕ) → IsValuation env v nodes → (right : Bool) → v (side_id right held) ≡ first_byte right v m at

-- each value is the first byte at its address
abbrev pub AreFirst : List QNode → Contents → List (ℕ × RelValue) → Type 0
AreFirst nodes m values = (at : ℕ) (held : RelValue) → value_at values at ≡ Some held → IsFirst nodes m at held

-- where the bit of x at a place is b, the one value is the other
abbrev pub IsAtBit : List QNode → ℕ → ℕ → ℕ → RelValue → RelValue → Type 0
IsAtBit nodes x place b held joined = (env v : ℕ → ℕ) → IsValuation env v nodes → bit_at (v x) place ≡ b → (right : Bool) → v (side_id right joined) ≡ v (side_id right held)

-- each value, by the bit of x at a place, is there for half its number
abbrev pub AreJoined : List QNode → ℕ → ℕ → List (ℕ × RelValue) → List (ℕ × RelValue) → Type 0
AreJoined nodes x place values joined = (at : ℕ) (held : RelValue) → value_at values at ≡ Some held → IsSomeAnd (value_at joined (at / 2)) (IsAtBit nodes x place (at % 2) held)

-- the same of the first entries
abbrev pub AreJoinedFirst : List QNode → ℕ → ℕ → List (ℕ × RelValue) → ℕ → List (ℕ × RelValue) → Type 0
AreJoinedFirst nodes x place values count joined = (j at : ℕ) (held : RelValue) → j < count → slice_get values j ≡ Some (at, held) → value_at values at ≡ Some held → IsSomeAnd (value_at joined (at / 2)) (IsAtBit nodes x place (at % 2) held)

-- the expression, if it is made yet, is the bit of x at a place
abbrev pub IsBit : List QNode → ℕ → ℕ → Option ExprId → Type 0
IsBit nodes x place bit = MatchOption bit (Unit {0}) (λ id. HasWidth nodes id.0 1 × ((env v : ℕ → ℕ) → IsValuation env v nodes → v id.0 ≡ bit_at (v x) place))

-- how many nodes the bit still needs
abbrev pub bit_nodes : Option ExprId → ℕ
bit_nodes None = 4
bit_nodes (Some id) = 0
