-- One node more, or one that is there.
use Rattle.std.proofs.Common.{◌≡◌, ℕ, ◌+◌, ◌<◌, ◌≤◌, Bool, true, false, cond, List, [], ◌∷◌, ◌++◌, length, take, refl, ap, sym, ◌∙◌, subst, inl, inr, arith, length-append}
use Rattle.std.specs.Prelude.{slice_index}
use Rattle.std.proofs.lemmas.Option.{slice_get_within}
use Rattle.std.proofs.lemmas.List.{take-append-le, take_at, take_all, length_push, get_or_append_left, get_or_push}
use Rattle.bv_expr.specs.declared.q_node.QNode.{QNode}
use Rattle.bv_expr.specs.declared.q_node.QNode.TheVariants.{Input}
use Rattle.bv_expr.specs.Nodes.{AreWidths, node_width}
use Rattle.bv_expr.specs.Typing.{IsTyped, IsTypedAt, HasEarlier}
use Rattle.bv_expr.specs.Growth.{Extends, AddsNoInput, is_input}
use Rattle.bv_expr.proofs.Lists.{in_longer, old_or_last}
use Rattle.bv_expr.proofs.NodeLaws.{node_width-same, typed_earlier}

pub Extends-refl : (nodes : List QNode) (n : ℕ) → Extends nodes nodes n
Extends-refl nodes n = record { least = omega arith; most = omega arith; stays = λ _ _ h. h; widths = λ _ p. p; values = λ _ _ p. p }

-- growth in two steps
pub Extends-then : (a b c : List QNode) (m n k : ℕ) → Extends a b m → Extends b c n → m + n ≤ k → Extends a c k
Extends-then a b c m n k p q le = record {
  least = omega (arith, p.least, q.least);
  most = omega (arith, p.most, q.most);
  stays = λ i g h. q.stays i g (p.stays i g h);
  widths = λ ws h. p.widths ws (q.widths ws h);
  values = λ env v h. p.values env v (q.values env v h);
}

pub AddsNoInput-refl : (nodes : List QNode) → AddsNoInput nodes nodes
AddsNoInput-refl nodes = record { at = λ _ _ h. h }

pub AddsNoInput-then : (a b c : List QNode) → AddsNoInput a b → AddsNoInput b c → AddsNoInput a c
AddsNoInput-then a b c p q = record { at = λ i k h. p.at i k (q.at i k h) }

Extends-push : (nodes : List QNode) (n : QNode) → Extends nodes (nodes ++ n ∷ []) 1
Extends-push nodes n = record {
  least = omega (arith, length-append nodes (n ∷ []));
  most = omega (arith, length-append nodes (n ∷ []));
  stays = λ i m e. in_longer nodes (n ∷ []) i m e;
  widths = λ ws r. record { at = λ i m e. r.at i m (in_longer nodes (n ∷ []) i m e) };
  values = λ env v r. record { at = λ i m e. r.at i m (in_longer nodes (n ∷ []) i m e) };
}

pub Extends-insert : (nodes : List QNode) (n : QNode) (b : Bool) → Extends nodes (cond b nodes (nodes ++ n ∷ [])) 1
Extends-insert nodes n true = Extends-refl nodes 1
Extends-insert nodes n false = Extends-push nodes n

no_input : (k : ℕ) (n : QNode) {P : Type 0} → n ≡ Input k → is_input n ≡ false → P
no_input k n e h = let t : is_input n ≡ true = ap is_input e in cc

pub AddsNoInput-insert : (nodes : List QNode) (n : QNode) (b : Bool) → is_input n ≡ false → AddsNoInput nodes (cond b nodes (nodes ++ n ∷ []))
AddsNoInput-insert nodes n true h = AddsNoInput-refl nodes
AddsNoInput-insert nodes n false h = record { at = λ i k e. elim (old_or_last nodes n i (Input k) e) [ inl o ↦ o | inr l ↦ no_input k n (sym l.1) h ] }

-- the widths with one more, and cut to the number of nodes
widths_push : (nodes : List QNode) (ws : List ℕ) (n : QNode) (w : ℕ) → IsTyped nodes → AreWidths (slice_index ws) nodes → length ws ≡ length nodes
    → HasEarlier (length nodes) n → node_width (slice_index ws) n ≡ w → AreWidths (slice_index (ws ++ w ∷ [])) (nodes ++ n ∷ [])
widths_push nodes ws n w typed p long earlier is =
    let front : (k : ℕ) → k < length nodes → slice_index ws k ≡ slice_index (ws ++ w ∷ []) k = λ k lt. sym (get_or_append_left ws (w ∷ []) 0 k (omega arith)) in
    record {
      at = λ i m h. elim (old_or_last nodes n i m h) [
        | inl o ↦ (let lt = slice_get_within nodes i m o in
            sym (front i lt) ∙ p.at i m o ∙ node_width-same (slice_index ws) (slice_index (ws ++ w ∷ [])) i m (typed.earlier i m o) (λ k less. front k (omega arith)))
        | inr e ↦ (get_or_push ws w 0 i (long ∙ sym e.0) ∙ sym is ∙ node_width-same (slice_index ws) (slice_index (ws ++ w ∷ [])) (length nodes) n earlier front
            ∙ (rw e.1 refl))
      ];
    }

typed_push : (nodes : List QNode) (n : QNode) → IsTyped nodes → HasEarlier (length nodes) n → ((ws : ℕ → ℕ) → AreWidths ws nodes → IsTypedAt ws (length nodes) n) → IsTyped (nodes ++ n ∷ [])
typed_push nodes n was earlier new = record {
  earlier = λ i m h. elim (old_or_last nodes n i m h) [
    | inl o ↦ was.earlier i m o
    | inr e ↦ (rw e.0 (rw e.1 earlier))
  ];
  at = λ i m h. elim (old_or_last nodes n i m h) [
    | inl o ↦ (λ ws w. was.at i m o ws (rw (← take-append-le i nodes (n ∷ []) (omega (arith, slice_get_within nodes i m o))) w))
    | inr e ↦ (λ ws w.
        let P : ℕ → QNode → Type 0 = λ k x. IsTypedAt ws k x in
        let Q : QNode → Type 0 = λ x. IsTypedAt ws i x in
        let R : ℕ → Type 0 = λ k. IsTypedAt ws k n in
        let T : List QNode → Type 0 = λ xs. AreWidths ws xs in
        subst Q (sym e.1) (subst R (sym e.0) (new ws (subst T (take_at nodes (n ∷ []) i (sym e.0)) w))))
  ];
}

-- what an arena keeps of its nodes and widths, after one insertion
pub kept : (nodes : List QNode) (ws : List ℕ) (n : QNode) (w : ℕ) (b : Bool) → (IsTyped nodes × AreWidths (slice_index ws) nodes × (length ws ≡ length nodes))
    → ((us : ℕ → ℕ) → AreWidths us nodes → IsTypedAt us (length nodes) n) → ((us : ℕ → ℕ) → AreWidths us nodes → node_width us n ≡ w)
    → IsTyped (cond b nodes (nodes ++ n ∷ []))
    × AreWidths (slice_index (take (length (cond b nodes (nodes ++ n ∷ []))) (ws ++ w ∷ []))) (cond b nodes (nodes ++ n ∷ []))
    × (length (take (length (cond b nodes (nodes ++ n ∷ []))) (ws ++ w ∷ [])) ≡ length (cond b nodes (nodes ++ n ∷ [])))
kept nodes ws n w true was typed width = rw (take_at ws (w ∷ []) (length nodes) was.2) was
kept nodes ws n w false was typed width =
    let earlier = typed_earlier (slice_index ws) (length nodes) n (typed (slice_index ws) was.1) in
    let all : take (length (nodes ++ n ∷ [])) (ws ++ w ∷ []) ≡ ws ++ w ∷ [] = take_all (length (nodes ++ n ∷ [])) (ws ++ w ∷ []) (omega (arith, length_push ws w, length_push nodes n, was.2)) in
    rw all (
      typed_push nodes n was.0 earlier typed,
      widths_push nodes ws n w was.0 was.1 was.2 earlier (width (slice_index ws) was.1),
      omega (arith, length_push ws w, length_push nodes n, was.2),
    )
