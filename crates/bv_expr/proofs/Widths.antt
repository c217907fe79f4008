-- Each node has one width.
use Rattle.std.proofs.Common.{◌≡◌, ℕ, zero, suc, ◌^◌, ◌<◌, List, length, get_or, take, Some, refl, sym, ◌∙◌, subst, inl, inr, arith}
use Rattle.std.specs.Prelude.{slice_get}
use Rattle.std.proofs.lemmas.Option.{slice_get_within, slice_get-get_or}
use Rattle.bv_expr.specs.declared.q_node.QNode.{QNode}
use Rattle.bv_expr.specs.declared.q_node.QNode.TheVariants.{Constant, Input, Alu, Test, Not, Both, Pick, Join, Byte}
use Rattle.bv_expr.specs.Nodes.{AreWidths, HasWidth, node_width}
use Rattle.bv_expr.specs.Typing.{IsWidth, IsTyped, IsTypedAt, HasEarlier, HasOperands, HaveOneWidth}
use Rattle.bv_expr.specs.Growth.{Extends}
use Rattle.bv_expr.proofs.Lists.{in_whole}
use Rattle.bv_expr.proofs.NodeLaws.{node_width-same}

-- widths of all nodes are widths of the first ones
pub front_widths : (ws : ℕ → ℕ) (nodes : List QNode) (k : ℕ) → AreWidths ws nodes → AreWidths ws (take k nodes)
front_widths ws nodes k was = record { at = λ i n h. was.at i n (in_whole nodes k i n h) }

widths_until : (us ws : ℕ → ℕ) (nodes : List QNode) → IsTyped nodes → AreWidths us nodes → AreWidths ws nodes → (k i : ℕ) → i < k → i < length nodes → us i ≡ ws i
widths_until us ws nodes typed p q zero i lt here = absurd (omega arith)
widths_until us ws nodes typed p q (suc k) i lt here =
    let n = get_or nodes i (Input 0) in
    let at = slice_get-get_or nodes i (Input 0) here in
    p.at i n at ∙ node_width-same us ws i n (typed.earlier i n at) (λ j l. widths_until us ws nodes typed p q k j (omega arith) (omega arith)) ∙ sym (q.at i n at)

-- no node has two widths
pub one_width : (us ws : ℕ → ℕ) (nodes : List QNode) → IsTyped nodes → AreWidths us nodes → AreWidths ws nodes → (i : ℕ) → i < length nodes → us i ≡ ws i
one_width us ws nodes typed p q i here = widths_until us ws nodes typed p q (suc i) i (omega arith) here

-- what some widths say of a node is its width
pub has_width : (us : ℕ → ℕ) (nodes : List QNode) → IsTyped nodes → AreWidths us nodes → (i : ℕ) → i < length nodes → HasWidth nodes i (us i)
has_width us nodes typed p i here = record { inside = here; is = λ ws q. one_width ws us nodes typed q p i here }

known_at : (ws : ℕ → ℕ) (i : ℕ) (n : QNode) → IsTypedAt ws i n → ((j : ℕ) → j < i → IsWidth (ws j)) → IsWidth (node_width ws n)
known_at ws i (Constant w x) t h = t.0
known_at ws i (Input k) t h = inr (inl refl)
known_at ws i (Alu op a b) t h = inr (inr refl)
known_at ws i (Test c a b) t h = inl refl
known_at ws i (Not a) t h = inl refl
known_at ws i (Both a b) t h = inl refl
known_at ws i (Pick p x y) t h = h x t.1.0
known_at ws i (Join a b c d) t h = inr (inr refl)
known_at ws i (Byte a k) t h = inr (inl refl)

known_until : (ws : ℕ → ℕ) (nodes : List QNode) → IsTyped nodes → AreWidths ws nodes → (k i : ℕ) → i < k → i < length nodes → IsWidth (ws i)
known_until ws nodes typed p zero i lt here = absurd (omega arith)
known_until ws nodes typed p (suc k) i lt here =
    let n = get_or nodes i (Input 0) in
    let at = slice_get-get_or nodes i (Input 0) here in
    rw (p.at i n at) (known_at ws i n (typed.at i n at ws (front_widths ws nodes i p)) (λ j l. known_until ws nodes typed p k j (omega arith) (omega arith)))

-- each width is 1, 8 or 32
pub known_width : (ws : ℕ → ℕ) (nodes : List QNode) → IsTyped nodes → AreWidths ws nodes → (i : ℕ) → i < length nodes → IsWidth (ws i)
known_width ws nodes typed p i here = known_until ws nodes typed p (suc i) i (omega arith) here

-- a constant is below 2 to the power of its width
pub constant_fits : (us : ℕ → ℕ) (nodes : List QNode) → IsTyped nodes → AreWidths us nodes → (i k x w : ℕ) → slice_get nodes i ≡ Some (Constant k x) → HasWidth nodes i w → x < 2 ^ w
constant_fits us nodes typed p i k x w at has =
    let same : k ≡ w = sym (p.at i (Constant k x) at) ∙ has.is us p in
    let P : ℕ → Type 0 = λ t. x < 2 ^ t in
    subst P same ((typed.at i (Constant k x) at us (front_widths us nodes i p)).1)

pub HasWidth-later : (old new : List QNode) (n i w : ℕ) → Extends old new n → HasWidth old i w → HasWidth new i w
HasWidth-later old new n i w grown has = record { inside = omega (arith, has.inside, grown.least); is = λ ws p. has.is ws (grown.widths ws p) }

pub HaveOneWidth-of : (nodes : List QNode) (a b w : ℕ) → HasWidth nodes a w → HasWidth nodes b w → HaveOneWidth nodes a b
HaveOneWidth-of nodes a b w p q = record { left = p.inside; right = q.inside; same = λ ws r. p.is ws r ∙ sym (q.is ws r) }

operand : (nodes : List QNode) (i a w : ℕ) → i < length nodes → a < i → ((ws : ℕ → ℕ) → AreWidths ws nodes → ws a ≡ w) → HasWidth nodes a w
operand nodes i a w lt h is = record { inside = omega arith; is = is }

operands_at : (us : ℕ → ℕ) (nodes : List QNode) (i : ℕ) (n : QNode) → AreWidths us nodes → i < length nodes → HasEarlier i n → ((ws : ℕ → ℕ) → AreWidths ws nodes → IsTypedAt ws i n) → HasOperands nodes n
operands_at us nodes i (Constant w x) p lt e t = t us p
operands_at us nodes i (Input k) p lt e t = tt
operands_at us nodes i (Alu op a b) p lt e t = (operand nodes i a 32 lt e.0 (λ ws q. (t ws q).0.1), operand nodes i b 32 lt e.1 (λ ws q. (t ws q).1.1))
operands_at us nodes i (Test c a b) p lt e t = (operand nodes i a 32 lt e.0 (λ ws q. (t ws q).0.1), operand nodes i b 32 lt e.1 (λ ws q. (t ws q).1.1))
operands_at us nodes i (Not a) p lt e t = operand nodes i a 1 lt e (λ ws q. (t ws q).1)
operands_at us nodes i (Both a b) p lt e t = (operand nodes i a 1 lt e.0 (λ ws q. (t ws q).0.1), operand nodes i b 1 lt e.1 (λ ws q. (t ws q).1.1))
operands_at us nodes i (Pick c x y) p lt e t = (operand nodes i c 1 lt e.0 (λ ws q. (t ws q).0.1), record { left = omega (arith, e.1); right = omega (arith, e.2); same = λ ws q. (t ws q).1.1 })
operands_at us nodes i (Join a b c d) p lt e t = (operand nodes i a 8 lt e.0 (λ ws q. (t ws q).0.1), operand nodes i b 8 lt e.1 (λ ws q. (t ws q).1.1), operand nodes i c 8 lt e.2 (λ ws q. (t ws q).2.1), operand nodes i d 8 lt e.3 (λ ws q. (t ws q).3.1))
operands_at us nodes i (Byte a k) p lt e t = (operand nodes i a 32 lt e (λ ws q. (t ws q).0.1), (t us p).1)

-- the operands of each node have the widths that its kind asks for
pub typed_operands : (us : ℕ → ℕ) (nodes : List QNode) → IsTyped nodes → AreWidths us nodes → (i : ℕ) (n : QNode) → slice_get nodes i ≡ Some n → HasOperands nodes n
typed_operands us nodes typed p i n at = operands_at us nodes i n p (slice_get_within nodes i n at) (typed.earlier i n at) (λ ws q. typed.at i n at ws (front_widths ws nodes i q))
