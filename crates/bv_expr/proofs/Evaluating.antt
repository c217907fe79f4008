-- The values of the first nodes, one after another.
use Rattle.std.proofs.Common.{◌≡◌, ℕ, ◌+◌, ◌^◌, ◌<◌, ◌≤◌, List, [], ◌∷◌, ◌++◌, length, take, Some, refl, ap, sym, ◌∙◌, subst, inl, inr, arith}
use Rattle.std.specs.Prelude.{slice_get, slice_index}
use Rattle.std.proofs.lemmas.Bool.{cases_lt}
use Rattle.std.proofs.lemmas.Option.{slice_get_within, get_or_from_slice_get}
use Rattle.std.proofs.lemmas.List.{get_or_append_left, get_or_push, length_push, length-take-le}
use Rattle.std.proofs.lemmas.Grind.{take_at_read}
use Rattle.bv_expr.specs.declared.q_node.QNode.{QNode}
use Rattle.bv_expr.specs.declared.q_node.QNode.TheVariants.{Constant, Input, Alu, Test, Not, Both, Pick, Join, Byte}
use Rattle.bv_expr.specs.Nodes.{IsValuation, node_value}
use Rattle.bv_expr.specs.Typing.{IsTyped, IsTypedAt, CanEvaluate}
use Rattle.bv_expr.specs.Valuations.{widths_of}
use Rattle.bv_expr.proofs.Lists.{in_whole, old_or_last}
use Rattle.bv_expr.proofs.NodeLaws.{node_value-same}
use Rattle.bv_expr.proofs.Widths.{front_widths}
use Rattle.bv_expr.proofs.Valuing.{widths_exist, one_valuation, front_values}
use Rattle.bv_expr.proofs.Fits.{node_fits}

-- the results are the values of the first i nodes
pub record Evaluated (env : ℕ → ℕ) (nodes : List QNode) (results : List ℕ) (i : ℕ) : Type 0 where
  pub count : length results ≡ i
  pub values : IsValuation env (slice_index results) (take i nodes)
  pub fits : (j : ℕ) → j < i → slice_index results j < 2 ^ slice_index (widths_of nodes) j

byte_fits : (x w : ℕ) → w ≡ 8 → x < 2 ^ w → x < 2 ^ 8
byte_fits x w e h = let P : ℕ → Type 0 = λ t. x < 2 ^ t in subst P e h

can_at : (ws : ℕ → ℕ) (results : List ℕ) (n : QNode) → IsTypedAt ws (length results) n → ((j : ℕ) → j < length results → slice_index results j < 2 ^ ws j) → CanEvaluate results n
can_at ws results (Constant w x) t h = tt
can_at ws results (Input k) t h = tt
can_at ws results (Alu op a b) t h = (t.0.0, t.1.0)
can_at ws results (Test c a b) t h = (t.0.0, t.1.0)
can_at ws results (Not a) t h = t.0
can_at ws results (Both a b) t h = (t.0.0, t.1.0)
can_at ws results (Pick p x y) t h = (t.0.0, t.1.0, t.2.0)
can_at ws results (Join a b c d) t h = ((t.0.0, t.1.0, t.2.0, t.3.0), byte_fits _ _ t.0.1 (h a t.0.0), byte_fits _ _ t.1.1 (h b t.1.0), byte_fits _ _ t.2.1 (h c t.2.0), byte_fits _ _ t.3.1 (h d t.3.0))
can_at ws results (Byte a k) t h = (t.0.0, t.1)

typed_at : (nodes : List QNode) → IsTyped nodes → (i : ℕ) (n : QNode) → slice_get nodes i ≡ Some n → IsTypedAt (slice_index (widths_of nodes)) i n
typed_at nodes typed i n at = typed.at i n at _ (front_widths _ nodes i (widths_exist nodes typed))

-- the next node can be evaluated
pub can_evaluate : (env : ℕ → ℕ) (nodes : List QNode) (results : List ℕ) (i : ℕ) (n : QNode) → IsTyped nodes → Evaluated env nodes results i → slice_get nodes i ≡ Some n → CanEvaluate results n
can_evaluate env nodes results i n typed done at =
    let P : ℕ → Type 0 = λ t. IsTypedAt (slice_index (widths_of nodes)) t n in
    can_at (slice_index (widths_of nodes)) results n (subst P (sym done.count) (typed_at nodes typed i n at)) (λ j lt. done.fits j (omega (arith, done.count)))

fits_more : (ws : ℕ → ℕ) (results : List ℕ) (x i : ℕ) → length results ≡ i → ((j : ℕ) → j < i → slice_index results j < 2 ^ ws j) → x < 2 ^ ws i
    → (j : ℕ) → j < i + 1 → slice_index (results ++ x ∷ []) j < 2 ^ ws j
fits_more ws results x i e h new j lt = elim (cases_lt j i) [
  | inl l ↦ rw (get_or_append_left results (x ∷ []) 0 j (omega (arith, e))) (h j l)
  | inr g ↦ (let same : j ≡ i = omega arith in rw same (rw (get_or_push results x 0 i e) new))
]

-- one node more
pub evaluated_push : (env : ℕ → ℕ) (nodes : List QNode) (results : List ℕ) (i x : ℕ) (n : QNode) → IsTyped nodes → Evaluated env nodes results i → slice_get nodes i ≡ Some n
    → x ≡ node_value env (slice_index results) n → ((k : ℕ) → n ≡ Input k → x < 2 ^ 8) → Evaluated env nodes (results ++ x ∷ []) (i + 1)
evaluated_push env nodes results i x n typed done at is bytes =
    let front : (k : ℕ) → k < i → slice_index results k ≡ slice_index (results ++ x ∷ []) k = λ k lt. sym (get_or_append_left results (x ∷ []) 0 k (omega (arith, done.count))) in
    let inside = slice_get_within nodes i n at in
    let more : take (i + 1) nodes ≡ take i nodes ++ n ∷ [] = (take_at_read nodes i n inside).1 ∙ (rw (get_or_from_slice_get nodes i n n at) refl) in
    let long = length-take-le i nodes (omega (arith, inside)) in
    record {
      count = omega (arith, length_push results x, done.count);
      values = record {
        at = λ j m h. elim (old_or_last (take i nodes) n j m (rw (← more) h)) [
          | inl o ↦ (let lt = slice_get_within (take i nodes) j m o in
              sym (front j (omega (arith, lt, long))) ∙ done.values.at j m o ∙ node_value-same env _ _ j m (typed.earlier j m (in_whole nodes i j m o)) (λ k l. front k (omega (arith, lt, long))))
          | inr e ↦ (get_or_push results x 0 j (done.count ∙ sym (e.0 ∙ long)) ∙ is ∙ node_value-same env _ _ i n (typed.earlier i n at) front ∙ (rw e.1 refl))
        ];
      };
      fits = fits_more (slice_index (widths_of nodes)) results x i done.count done.fits
          (rw is (rw ((widths_exist nodes typed).at i n at) (node_fits env (slice_index results) (slice_index (widths_of nodes)) i n (λ k e. let same : x ≡ env k = is ∙ ap (node_value env (slice_index results)) e in let P : ℕ → Type 0 = λ t. t < 2 ^ 8 in subst P same (bytes k e)) (typed_at nodes typed i n at) done.fits)));
    }

-- the result for a node is its value
pub evaluated_is : (env v : ℕ → ℕ) (nodes : List QNode) (results : List ℕ) (i j : ℕ) → IsTyped nodes → Evaluated env nodes results i → i ≤ length nodes → j < i → IsValuation env v nodes → v j ≡ slice_index results j
evaluated_is env v nodes results i j typed done le lt val =
    one_valuation env v (slice_index results) (take i nodes) (λ k n h. typed.earlier k n (in_whole nodes i k n h)) (front_values env v nodes i val) done.values j (omega (arith, length-take-le i nodes le))
