-- Answers of passes, one after another.
use Rattle.std.proofs.Common.{◌≡◌, ℕ, ◌*◌, ◌<◌, Bool, true, false, List, length, ◌∙◌, refl, arith}
use Rattle.bv_expr.specs.declared.q_node.QNode.{QNode}
use Rattle.bv_expr.specs.Growth.{Extends, AddsNoInput}
use Rattle.bv_expr.proofs.Widths.{HasWidth-later}
use Rattle.bv_expr.proofs.Growing.{Extends-refl, Extends-then, AddsNoInput-refl, AddsNoInput-then}
use Rattle.bv_passes.specs.Answering.{IsAnswer}
use Rattle.rel_store.specs.Sides.{side_id}
use Rattle.rel_store.specs.declared.rel_value.RelValue.{RelValue}

-- an expression of the same value and width in an arena that got at most n nodes
pub record IsSimpler (old new : List QNode) (id simple n : ℕ) : Type 0 where
  pub answer : IsAnswer old new id simple
  pub extends : Extends old new n
  pub no_input : AddsNoInput old new

pub IsAnswer-refl : (nodes : List QNode) (id : ℕ) → id < length nodes → IsAnswer nodes nodes id id
IsAnswer-refl nodes id here = record { inside = here; width = λ w h. h; value = λ env v b h. refl }

pub IsAnswer-then : (a b c : List QNode) (n x y z : ℕ) → Extends b c n → IsAnswer a b x y → IsAnswer b c y z → IsAnswer a c x z
IsAnswer-then a b c n x y z more p q = record {
  inside = q.inside;
  width = λ w h. q.width w (p.width w h);
  value = λ env v bytes h. q.value env v bytes h ∙ p.value env v bytes (more.values env v h);
}

pub IsSimpler-refl : (nodes : List QNode) (id n : ℕ) → id < length nodes → IsSimpler nodes nodes id id n
IsSimpler-refl nodes id n here = record { answer = IsAnswer-refl nodes id here; extends = Extends-refl nodes n; no_input = AddsNoInput-refl nodes }

-- one pass more
pub IsSimpler-more : (a b c : List QNode) (x y z n k : ℕ) → IsSimpler a b x y (4 * n) → IsAnswer b c y z → Extends b c 4 → AddsNoInput b c → n < k → IsSimpler a c x z (4 * k)
IsSimpler-more a b c x y z n k p q more none lt = record {
  answer = IsAnswer-then a b c 4 x y z more p.answer q;
  extends = Extends-then a b c (4 * n) 4 (4 * k) p.extends more (omega arith);
  no_input = AddsNoInput-then a b c p.no_input none;
}

IsAnswer-later : (a b c : List QNode) (n x y : ℕ) → Extends b c n → IsAnswer a b x y → IsAnswer a c x y
IsAnswer-later a b c n x y more p = record {
  inside = omega (arith, p.inside, more.least);
  width = λ w h. HasWidth-later b c n y w more (p.width w h);
  value = λ env v bytes is. p.value env v bytes (more.values env v is);
}

IsAnswer-before : (a b c : List QNode) (n x y : ℕ) → Extends a b n → IsAnswer b c x y → IsAnswer a c x y
IsAnswer-before a b c n x y more p = record { inside = p.inside; width = λ w h. p.width w (HasWidth-later a b n x w more h); value = p.value }

IsAnswer-at : (a c : List QNode) (x y l m : ℕ) → x ≡ l → y ≡ m → IsAnswer a c l m → IsAnswer a c x y
IsAnswer-at a c x y l m e f p = rw e (rw f p)

-- the left side is simplified before the right one
pub simpler_sides : (a b c : List QNode) (n l r x y : ℕ) (value simple : RelValue) → Extends a b n → Extends b c n → IsAnswer a b l x → IsAnswer b c r y
    → side_id false value ≡ l → side_id true value ≡ r → side_id false simple ≡ x → side_id true simple ≡ y
    → (right : Bool) → IsAnswer a c (side_id right value) (side_id right simple)
simpler_sides a b c n l r x y value simple first second p q el er ex ey false = IsAnswer-at a c (side_id false value) (side_id false simple) l x el ex (IsAnswer-later a b c n l x second p)
simpler_sides a b c n l r x y value simple first second p q el er ex ey true = IsAnswer-at a c (side_id true value) (side_id true simple) r y er ey (IsAnswer-before a b c n r y first q)
