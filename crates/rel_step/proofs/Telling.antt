-- Expressions that tell where two others are different.
use Rattle.std.proofs.Common.{◌≡◌, ◌⊎◌, ℕ, zero, suc, ◌<◌, ◌^◌, ◌==◌, if◌then◌else◌, not, List, Option, Some, None, MatchOption, refl, sym, ◌∙◌, ap, subst, inl, inr, arith}
use Rattle.std.proofs.lemmas.Bool.Decides.{eqb_tells}
use Rattle.ct_words.specs.Words.{flag, test_value}
use Rattle.ct_words.specs.declared.cond.Cond.TheVariants as conds
use Rattle.bv_expr.specs.declared.q_node.QNode.{QNode}
use Rattle.bv_expr.specs.declared.expr_id.ExprId.{ExprId}
use Rattle.bv_expr.specs.Nodes.{AreBytes, IsValuation, HasWidth}
use Rattle.bv_expr.specs.Growth.{Extends}
use Rattle.rel_step.proofs.Growing.{HasWidth-grows}
use Rattle.rel_step.specs.Runs.{Always, IsFlag, Tells}
use Rattle.rel_step.specs.Onward.{TellsApart}

pub none_apart : (nodes : List QNode) (l r : ExprId) → l.0 ≡ r.0 → TellsApart nodes l r None
none_apart nodes l r e = record { tells = e; one = λ _. refl }

pub some_apart : (nodes : List QNode) (l r id : ExprId) → (l.0 ≡ r.0 → ⊥) → HasWidth nodes id.0 1 → Always nodes (λ v. IsFlag (v id.0) (v l.0 ≡ v r.0 → ⊥)) → TellsApart nodes l r (Some id)
some_apart nodes l r id n width flag_is = record { tells = record { width = width; flag_is = flag_is }; one = λ e. absurd (n e) }

at_value : (x y : ℕ) (P : Type 0) → x ≡ y → IsFlag y P → IsFlag x P
at_value x y P e h = let F : ℕ → Type 0 = λ k. IsFlag k P in subst F (sym e) h

ne_flag : (x y : ℕ) → IsFlag (flag (test_value conds.Ne x y)) (x ≡ y → ⊥)
unfolding test_value
ne_flag x y = elim (eqb_tells x y) [
  | inl (t, e) ↦ inr (ap (λ b. flag (not b)) t, λ n. n e)
  | inr (f, n) ↦ inl (ap (λ b. flag (not b)) f, n)
]

pub words_tell : (nodes : List QNode) (l r id : ExprId) → (l.0 ≡ r.0 → ⊥) → HasWidth nodes id.0 1 → ((env v : ℕ → ℕ) → IsValuation env v nodes → v id.0 ≡ flag (test_value conds.Ne (v l.0) (v r.0))) → TellsApart nodes l r (Some id)
words_tell nodes l r id n width value = some_apart nodes l r id n width
    (λ env v bytes is. at_value (v id.0) (flag (test_value conds.Ne (v l.0) (v r.0))) (v l.0 ≡ v r.0 → ⊥) (value env v is) (ne_flag (v l.0) (v r.0)))

bit_cases : (x : ℕ) → x < 2 ^ 1 → (x ≡ 0) ⊎ (x ≡ 1)
bit_cases zero lt = inl refl
bit_cases (suc zero) lt = inr refl
bit_cases (suc (suc x)) lt = absurd (omega arith)

zero_one : ◌≡◌ {A = ℕ} 0 1 → ⊥
zero_one e = omega (arith, e)

bit_flag : (x y : ℕ) → (x ≡ 0) ⊎ (x ≡ 1) → (y ≡ 0) ⊎ (y ≡ 1) → IsFlag (if x == 0 then y else flag (y == 0)) (x ≡ y → ⊥)
bit_flag x y (inl e) (inl f) = rw e (rw f (inr (refl, λ n. n refl)))
bit_flag x y (inl e) (inr f) = rw e (rw f (inl (refl, zero_one)))
bit_flag x y (inr e) (inl f) = rw e (rw f (inl (refl, λ h. zero_one (sym h))))
bit_flag x y (inr e) (inr f) = rw e (rw f (inr (refl, λ n. n refl)))

pub bits_tell : (mid new : List QNode) (k : ℕ) (l r other id : ExprId) → (l.0 ≡ r.0 → ⊥) → HasWidth new id.0 1 → HasWidth new l.0 1 → HasWidth new r.0 1 → Extends mid new k
    → ((env v : ℕ → ℕ) → IsValuation env v mid → v other.0 ≡ flag (v r.0 == 0))
    → ((env v : ℕ → ℕ) → IsValuation env v new → v id.0 ≡ (if v l.0 == 0 then v r.0 else v other.0))
    → ((env v : ℕ → ℕ) → AreBytes env → IsValuation env v new → (i w : ℕ) → HasWidth new i w → v i < 2 ^ w) → TellsApart new l r (Some id)
bits_tell mid new k l r other id n width left right more negated value fits = some_apart new l r id n width
    (λ env v bytes is. at_value (v id.0) (if v l.0 == 0 then v r.0 else flag (v r.0 == 0)) (v l.0 ≡ v r.0 → ⊥)
    (value env v is ∙ ap (λ x. if v l.0 == 0 then v r.0 else x) (negated env v (more.values env v is)))
    (bit_flag (v l.0) (v r.0) (bit_cases (v l.0) (fits env v bytes is l.0 1 left)) (bit_cases (v r.0) (fits env v bytes is r.0 1 right))))

tells_grow : (old new : List QNode) (n : ℕ) (l r : ExprId) (apart : Option ExprId) → Extends old new n → MatchOption apart (l.0 ≡ r.0) (λ id. Tells old id.0 (λ v. v l.0 ≡ v r.0 → ⊥))
    → MatchOption apart (l.0 ≡ r.0) (λ id. Tells new id.0 (λ v. v l.0 ≡ v r.0 → ⊥))
tells_grow old new n l r None more h = h
tells_grow old new n l r (Some id) more h = record {
  width = HasWidth-grows old new n id.0 1 more h.width;
  flag_is = λ env v bytes is. h.flag_is env v bytes (more.values env v is);
}

pub TellsApart-grows : (old new : List QNode) (n : ℕ) (l r : ExprId) (apart : Option ExprId) → Extends old new n → TellsApart old l r apart → TellsApart new l r apart
TellsApart-grows old new n l r apart more h = record { tells = tells_grow old new n l r apart more h.tells; one = h.one }
