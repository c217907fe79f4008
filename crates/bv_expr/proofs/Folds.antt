-- What a folded node gives is what its operation gives.
use Rattle.std.proofs.Common.{◌≡◌, ℕ, List, Option, Some, None, Result, Ok, Err, refl, subst, ◌∙◌}
use Rattle.std.specs.Prelude.{slice_get, IfSome, IfOk, if◌then◌else◌, ◌==◌}
use Rattle.std.specs.Option.{option_and_then, option_zip, option_map_or}
use Rattle.bv_expr.specs.declared.q_node.QNode.{QNode}
use Rattle.bv_expr.specs.declared.q_node.QNode.TheVariants.{Constant, Input, Alu, Test, Not, Both, Pick, Join, Byte}
use Rattle.bv_expr.specs.Nodes.{IsValuation, node_value, joined_bytes}
use Rattle.bv_expr.specs.Growth.{Extends}
use Rattle.bv_expr.specs.Folding.{constant_in, constant_value, pick_node, join_node}

value_of_constant : (env v : ℕ → ℕ) (n : QNode) (x : ℕ) → constant_value n ≡ Some x → node_value env v n ≡ x
value_of_constant env v (Constant w y) x e = cc
value_of_constant env v (Input k) x e = cc
value_of_constant env v (Alu op a b) x e = cc
value_of_constant env v (Test c a b) x e = cc
value_of_constant env v (Not a) x e = cc
value_of_constant env v (Both a b) x e = cc
value_of_constant env v (Pick p a b) x e = cc
value_of_constant env v (Join a b c d) x e = cc
value_of_constant env v (Byte a k) x e = cc

constant_at : (env v : ℕ → ℕ) (nodes : List QNode) (a x : ℕ) (o : Option QNode) → IsValuation env v nodes → slice_get nodes a ≡ o → option_and_then constant_value o ≡ Some x → v a ≡ x
constant_at env v nodes a x None run is e = cc
constant_at env v nodes a x (Some n) run is e = run.at a n is ∙ value_of_constant env v n x e

-- the value of a constant
pub constant_is : (env v : ℕ → ℕ) (nodes : List QNode) (a x : ℕ) → IsValuation env v nodes → constant_in nodes a ≡ Some x → v a ≡ x
constant_is env v nodes a x run e = constant_at env v nodes a x (slice_get nodes a) run refl e

pick_is : (env v : ℕ → ℕ) (w c a b : ℕ) (oc oa ob : Option ℕ) → ((x : ℕ) → oc ≡ Some x → v c ≡ x) → ((x : ℕ) → oa ≡ Some x → v a ≡ x) → ((x : ℕ) → ob ≡ Some x → v b ≡ x)
    → node_value env v (option_map_or (λ p. Constant w (if p.0 == 0 then p.1.1 else p.1.0)) (option_zip oc (option_zip oa ob)) (Pick c a b)) ≡ (if v c == 0 then v b else v a)
pick_is env v w c a b None oa ob p q r = refl
pick_is env v w c a b (Some x) None ob p q r = refl
pick_is env v w c a b (Some x) (Some y) None p q r = refl
pick_is env v w c a b (Some x) (Some y) (Some z) p q r = rw (p x refl) (rw (q y refl) (rw (r z refl) refl))

pub pick_value : (env v : ℕ → ℕ) (old new : List QNode) (w c a b i : ℕ) → Extends old new 1 → slice_get new i ≡ Some (pick_node old w c a b) → IsValuation env v new → v i ≡ (if v c == 0 then v b else v a)
pick_value env v old new w c a b i grown at run =
    let was = grown.values env v run in
    run.at i _ at ∙ pick_is env v w c a b (constant_in old c) (constant_in old a) (constant_in old b) (λ x e. constant_is env v old c x was e) (λ x e. constant_is env v old a x was e) (λ x e. constant_is env v old b x was e)

join_is : (env v : ℕ → ℕ) (a b c d : ℕ) (oa ob oc od : Option ℕ) → ((x : ℕ) → oa ≡ Some x → v a ≡ x) → ((x : ℕ) → ob ≡ Some x → v b ≡ x) → ((x : ℕ) → oc ≡ Some x → v c ≡ x) → ((x : ℕ) → od ≡ Some x → v d ≡ x)
    → node_value env v (option_map_or (λ p. Constant 32 (joined_bytes p.0.0 p.0.1 p.1.0 p.1.1)) (option_zip (option_zip oa ob) (option_zip oc od)) (Join a b c d)) ≡ joined_bytes (v a) (v b) (v c) (v d)
join_is env v a b c d None ob oc od p q r s = refl
join_is env v a b c d (Some x) None oc od p q r s = refl
join_is env v a b c d (Some x) (Some y) None od p q r s = refl
join_is env v a b c d (Some x) (Some y) (Some z) None p q r s = refl
join_is env v a b c d (Some x) (Some y) (Some z) (Some u) p q r s = rw (p x refl) (rw (q y refl) (rw (r z refl) (rw (s u refl) refl)))

pub join_value : (env v : ℕ → ℕ) (old new : List QNode) (a b c d i : ℕ) → Extends old new 1 → slice_get new i ≡ Some (join_node old a b c d) → IsValuation env v new → v i ≡ joined_bytes (v a) (v b) (v c) (v d)
join_value env v old new a b c d i grown at run =
    let was = grown.values env v run in
    run.at i _ at ∙ join_is env v a b c d (constant_in old a) (constant_in old b) (constant_in old c) (constant_in old d)
    (λ x e. constant_is env v old a x was e) (λ x e. constant_is env v old b x was e) (λ x e. constant_is env v old c x was e) (λ x e. constant_is env v old d x was e)

-- what is known of two values is known of their pair
pub zipped : {X Y : Type 0} (o : Option X) (q : Option Y) (P : X → Type 0) (Q : Y → Type 0) (p : X × Y) → IfSome o P → IfSome q Q → option_zip o q ≡ Some p → P p.0 × Q p.1
zipped None q P Q p h g e = cc
zipped (Some x) None P Q p h g e = cc
zipped {X} {Y} (Some x) (Some y) P Q p h g e = let s : (x, y) ≡ p = cc in let M : X × Y → Type 0 = λ t. P t.0 × Q t.1 in subst M s (h, g)

-- what follows from what is known of the value
pub ok_then : {X E : Type 0} (r : Result X E) (P Q : X → Type 0) → IfOk r P → ((x : X) → P x → Q x) → IfOk r Q
ok_then (Ok x) P Q h f = f x h
ok_then (Err e) P Q h f = tt
