-- A node whose bits are all fixed has a range of one number, and the answer is a constant.
use Rattle.std.proofs.Common.{◌≡◌, ℕ, ◌≤◌, List, Some, sym, subst, arith}
use Rattle.std.specs.Prelude.{◌≢◌, slice_get}
use Rattle.bv_expr.specs.Nodes.{HasWidth}
use Rattle.bv_expr.specs.Typing.{IsTyped}
use Rattle.bv_expr.specs.declared.q_node.QNode.{QNode}
use Rattle.bv_expr.specs.declared.q_node.QNode.TheVariants.{Constant}
use Rattle.bv_range.specs.Fixed.{AreFixed, fixed_of}
use Rattle.bv_range.specs.Remembered.{IsRangeOf}
use Rattle.bv_range.specs.declared.range.Range.{Range}
use Rattle.bv_range.proofs.BitLaws.{ones_le}
use Rattle.bv_range.proofs.NodeRanges.{proper}
use Rattle.bv_passes.specs.declared.rewrite.Rewrite.{Rewrite}
use Rattle.bv_passes.specs.declared.rewrite.Rewrite.TheVariants.{Keep, Old, Number, Operation, Raised}
use Rattle.bv_passes.specs.Rewriting.{IsSaid, IsKeepOrNumber}
use Rattle.bv_passes.specs.Knowing.{HasFewNodes, AreAllFixed, IsFixedAnswer}

pub one_number : (nodes : List QNode) (i w : ℕ) (r : Range) → IsTyped nodes → HasWidth nodes i w → AreFixed (fixed_of nodes) nodes → IsRangeOf nodes i r → AreAllFixed w (fixed_of nodes i)
    → (r.least ≡ (fixed_of nodes i).ones) × (r.least ≡ r.most)
one_number nodes i w r typed has fixed is all =
    let range = proper nodes i w r typed has is in
    let bits = is.bits (fixed_of nodes) fixed in
    let zeros : (fixed_of nodes i).zeros ≤ r.zeros = ones_le (fixed_of nodes i).zeros r.zeros bits.zeros in
    let ones : (fixed_of nodes i).ones ≤ r.ones = ones_le (fixed_of nodes i).ones r.ones bits.ones in
    (omega (arith, all, zeros, ones, range.shape.low, range.shape.high, range.filled), omega (arith, all, zeros, ones, range.shape.low, range.shape.high, range.filled))

-- what is said keeps its node, or answers a constant of the node's width
pub constant_said : (old new : List QNode) (i w answer : ℕ) (r : Rewrite) → ((u : ℕ) → HasWidth old i u → u ≡ w) → IsKeepOrNumber r → IsSaid new i w r answer → answer ≢ i
    → (u : ℕ) → HasWidth old i u → (x : ℕ) × (slice_get new answer ≡ Some (Constant u x))
constant_said old new i w answer Keep only kind said other u has = absurd (other said)
constant_said old new i w answer (Number x) only kind said other u has =
    let P : ℕ → Type 0 = λ k. slice_get new answer ≡ Some (Constant k x) in (x, subst P (sym (only u has)) said)
constant_said old new i w answer (Old j) only kind said other u has = absurd kind
constant_said old new i w answer (Operation op a b) only kind said other u has = absurd kind
constant_said old new i w answer (Raised op a b x) only kind said other u has = absurd kind

-- where the bits of a node are fixed, the answer is the constant of these bits
pub fixed_said : (old new : List QNode) (m i w answer : ℕ) (r : Rewrite) → ((u : ℕ) → HasWidth old i u → u ≡ w) → IsSaid new i w r answer
    → (HasFewNodes old m i → AreAllFixed w (fixed_of old i) → r ≡ Number (fixed_of old i).ones) → IsFixedAnswer old new m i answer
fixed_said old new m i w answer r only said fixed u has few all =
    let A : ℕ → Type 0 = λ k. AreAllFixed k (fixed_of old i) in
    let S : Rewrite → Type 0 = λ q. IsSaid new i w q answer in
    let P : ℕ → Type 0 = λ k. slice_get new answer ≡ Some (Constant k (fixed_of old i).ones) in
    subst P (sym (only u has)) (subst S (fixed few (subst A (only u has) all)) said)
