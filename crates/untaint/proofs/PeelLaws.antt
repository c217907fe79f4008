-- What comes of an equality when equal operations are taken off.
use Rattle.std.proofs.Common.{◌≡◌, ℕ, ◌^◌, ◌<◌, Bool, true, false, List, [], ◌∷◌, ◌++◌, length, All, Option, Some, None, refl, sym, subst, ◌∙◌, arith}
use Rattle.std.specs.Prelude.{IfSome, nat_lt, nat_eq, ◌==◌, if◌then◌else◌}
use Rattle.std.proofs.lemmas.Bool.{ltb-true, ltb-false, eqb-true}
use Rattle.std.proofs.lemmas.List.Elements.{All-nil, All-cons}
use Rattle.ct_words.specs.Words.{alu_value, flag}
use Rattle.ct_words.specs.declared.alu_op.AluOp.TheVariants as ops
use Rattle.bv_expr.specs.Nodes.{IsValuation, AreBytes}
use Rattle.bv_expr.specs.Typing.{IsTyped}
use Rattle.bv_expr.specs.declared.q_node.QNode.{QNode}
use Rattle.bv_expr.proofs.Fits.{value_fits}
use Rattle.untaint.specs.declared.equality.Equality.{Equality}
use Rattle.untaint.specs.declared.outermost.Outermost.{Outermost}
use Rattle.untaint.specs.declared.outermost.Outermost.TheVariants.{Not, Sum, Xor, Difference}
use Rattle.untaint.specs.Kept.{sides, equality, Holds, IsOf, IsOrdered}
use Rattle.untaint.specs.Outer.{outermost_at}
use Rattle.untaint.specs.Peeling.{inner_of, peeled, Peels, ComesOf}
use Rattle.untaint.proofs.Undoing.{sum_undone, difference_undone, xor_undone, not_undone}
use Rattle.untaint.proofs.OuterLaws.{IsInner, IsOutermost, outermost_is}

comes_by : (nodes : List QNode) (one : Equality) (a b : ℕ) → a < one.left.0 → b < one.right.0 → a < length nodes → b < length nodes
    → ((env v : ℕ → ℕ) → AreBytes env → IsValuation env v nodes → Holds v one → v a ≡ v b) → (turned : Bool) → nat_lt b a ≡ turned → ComesOf nodes one (if turned then sides b a else sides a b)
comes_by nodes one a b la lb ia ib same true e = record {
  inside = record { left = ib; right = ia };
  ordered = omega (arith, ltb-true b a e);
  falls = omega arith;
  holds = λ env v bytes run h. sym (same env v bytes run h);
}
comes_by nodes one a b la lb ia ib same false e = record {
  inside = record { left = ia; right = ib };
  ordered = ltb-false b a e;
  falls = omega arith;
  holds = same;
}

-- what is below two nodes that are one function of it, which can be undone
comes_of_inner : (nodes : List QNode) (one : Equality) → IsTyped nodes → (a b w : ℕ) (f : ℕ → ℕ) → IsInner nodes one.left.0 a w f → IsInner nodes one.right.0 b w f
    → ((x y : ℕ) → x < 2 ^ w → y < 2 ^ w → f x ≡ f y → x ≡ y) → ComesOf nodes one (equality a b)
comes_of_inner nodes one typed a b w f p q undone =
    comes_by nodes one a b p.earlier q.earlier p.width.inside q.width.inside
    (λ env v bytes run h. undone (v a) (v b) (value_fits env v nodes bytes typed run a w p.width) (value_fits env v nodes bytes typed run b w q.width) (sym (p.values env v run) ∙ h ∙ q.values env v run))
    (nat_lt b a) refl

-- the same, where the functions have equal numbers in them
comes_of_numbers : (nodes : List QNode) (one : Equality) → IsTyped nodes → (c d a b : ℕ) (f : ℕ → ℕ → ℕ) → IsInner nodes one.left.0 a 32 (f c) → IsInner nodes one.right.0 b 32 (f d)
    → ((x y : ℕ) → x < 2 ^ 32 → y < 2 ^ 32 → f c x ≡ f c y → x ≡ y) → (t : Bool) → nat_eq c d ≡ t → IfSome (if t then Some (equality a b) else None) (ComesOf nodes one)
comes_of_numbers nodes one typed c d a b f p q undone true e =
    let same : d ≡ c = sym (eqb-true c d e) in
    let P : ℕ → Type 0 = λ n. IsInner nodes one.right.0 b 32 (f n) in
    comes_of_inner nodes one typed a b 32 (f c) p (subst P same q) undone
comes_of_numbers nodes one typed c d a b f p q undone false e = tt

inner_comes : (nodes : List QNode) (one : Equality) → IsTyped nodes → (l r : Outermost) → IsOutermost nodes one.left.0 l → IsOutermost nodes one.right.0 r → IfSome (inner_of l r) (ComesOf nodes one)
inner_comes nodes one typed (Not a) (Not b) p q = comes_of_inner nodes one typed a b 1 (λ x. flag (x == 0)) p q not_undone
inner_comes nodes one typed (Sum c a) (Sum d b) p q = comes_of_numbers nodes one typed c d a b (λ n x. alu_value ops.Add x n) p q (sum_undone c) (nat_eq c d) refl
inner_comes nodes one typed (Xor c a) (Xor d b) p q = comes_of_numbers nodes one typed c d a b (λ n x. alu_value ops.Xor x n) p q (xor_undone c) (nat_eq c d) refl
inner_comes nodes one typed (Difference c a) (Difference d b) p q = comes_of_numbers nodes one typed c d a b (λ n x. alu_value ops.Sub n x) p q (difference_undone c) (nat_eq c d) refl
inner_comes nodes one typed _ _ p q = tt

pub peeled_comes : (nodes : List QNode) → IsTyped nodes → (one : Equality) → IfSome (peeled nodes one) (ComesOf nodes one)
unfolding peeled
peeled_comes nodes typed one = inner_comes nodes one typed (outermost_at nodes one.left.0) (outermost_at nodes one.right.0) (outermost_is nodes typed one.left.0) (outermost_is nodes typed one.right.0)

-- one equality more is peeled
pub Peels-push : (nodes : List QNode) (start : Option Equality) (more : List Equality) (one : Equality) → Peels nodes start more (Some one) → Peels nodes start (more ++ one ∷ []) (peeled nodes one)
Peels-push nodes start [] one p = (p, refl)
Peels-push nodes start (x ∷ more) one p = (p.0, Peels-push nodes (peeled nodes x) more one p.1)

pub if_some-same : (P : Equality → Type 0) (o : Option Equality) (one : Equality) → o ≡ Some one → IfSome o P → P one
if_some-same P o one e h = let Q : Option Equality → Type 0 = λ q. IfSome q P in subst Q e h

-- what holds of the first, and passes from each to the next, holds of all
pub Peels-all : (nodes : List QNode) (P : Equality → Type 0) → ((one : Equality) → P one → IfSome (peeled nodes one) P) → (start end : Option Equality) (more : List Equality) → IfSome start P → Peels nodes start more end → All P more
Peels-all nodes P next start end [] first p = All-nil P
Peels-all nodes P next start end (x ∷ more) first p =
    let here : P x = if_some-same P start x p.0 first in
    All-cons P x more here (Peels-all nodes P next (peeled nodes x) end more (next x here) p.1)

pub if_some-weaker : (P Q : Equality → Type 0) (o : Option Equality) → ((x : Equality) → P x → Q x) → IfSome o P → IfSome o Q
if_some-weaker P Q None f h = tt
if_some-weaker P Q (Some x) f h = f x h

-- all are of the arena, all are ordered, and all hold where the first does
pub peeled_inside : (nodes : List QNode) → IsTyped nodes → (first : Equality) (end : Option Equality) (all : List Equality) → IsOf nodes first → Peels nodes (Some first) all end → All (IsOf nodes) all
peeled_inside nodes typed first end all inside p =
    Peels-all nodes (IsOf nodes) (λ one _. if_some-weaker (ComesOf nodes one) (IsOf nodes) (peeled nodes one) (λ x c. c.inside) (peeled_comes nodes typed one)) (Some first) end all inside p

pub peeled_ordered : (nodes : List QNode) → IsTyped nodes → (first : Equality) (end : Option Equality) (all : List Equality) → IsOrdered first → Peels nodes (Some first) all end → All IsOrdered all
peeled_ordered nodes typed first end all ordered p =
    Peels-all nodes IsOrdered (λ one _. if_some-weaker (ComesOf nodes one) IsOrdered (peeled nodes one) (λ x c. c.ordered) (peeled_comes nodes typed one)) (Some first) end all ordered p

pub peeled_hold : (nodes : List QNode) → IsTyped nodes → (first : Equality) (end : Option Equality) (all : List Equality) → Peels nodes (Some first) all end
    → (env v : ℕ → ℕ) → AreBytes env → IsValuation env v nodes → Holds v first → All (Holds v) all
peeled_hold nodes typed first end all p env v bytes run h =
    Peels-all nodes (Holds v) (λ one is. if_some-weaker (ComesOf nodes one) (Holds v) (peeled nodes one) (λ x c. c.holds env v bytes run is) (peeled_comes nodes typed one)) (Some first) end all h p
