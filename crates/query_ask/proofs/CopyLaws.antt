-- Copies of nodes have the widths and the values of those from which they come.
use Rattle.std.proofs.Common.{◌≡◌, ℕ, ◌<◌, List, [], ◌∷◌, ◌++◌, length, take, Some, refl, sym, ap, ◌∙◌, subst, inl, inr, arith}
use Rattle.std.specs.Prelude.{slice_get, slice_index}
use Rattle.std.proofs.lemmas.Option.{slice_get_within}
use Rattle.std.proofs.lemmas.List.{length_push, length-take, get_or_append_left, get_or_push}
use Rattle.bv_expr.specs.declared.q_node.QNode.{QNode}
use Rattle.bv_expr.specs.declared.q_node.QNode.TheVariants.{Constant, Input, Alu, Test, Not, Both, Pick, Join, Byte}
use Rattle.bv_expr.specs.Nodes.{node_value, node_width, AreWidths, HasWidth}
use Rattle.bv_expr.specs.Typing.{HasEarlier, IsTyped, IsTypedAt}
use Rattle.bv_expr.specs.Valuations.{values_of, widths_of}
use Rattle.bv_expr.proofs.Lists.{in_whole, old_or_last}
use Rattle.bv_expr.proofs.Widths.{front_widths, has_width}
use Rattle.bv_expr.proofs.Valuing.{width_is_local, only_one, values_exist, one_valuation, widths_exist}
use Rattle.query_ask.specs.Copies.{renumbered, AreCopies, KeepsNumbers}

renumbered_value : (env v f : ℕ → ℕ) (n : QNode) → node_value env v (renumbered f n) ≡ node_value env (λ k. v (f k)) n
renumbered_value env v f (Constant k x) = refl
renumbered_value env v f (Input k) = refl
renumbered_value env v f (Alu op a b) = refl
renumbered_value env v f (Test c a b) = refl
renumbered_value env v f (Not a) = refl
renumbered_value env v f (Both a b) = refl
renumbered_value env v f (Pick p x y) = refl
renumbered_value env v f (Join a b c d) = refl
renumbered_value env v f (Byte a k) = refl

renumbered_width : (ws f : ℕ → ℕ) (n : QNode) → node_width ws (renumbered f n) ≡ node_width (λ k. ws (f k)) n
renumbered_width ws f (Constant k x) = refl
renumbered_width ws f (Input k) = refl
renumbered_width ws f (Alu op a b) = refl
renumbered_width ws f (Test c a b) = refl
renumbered_width ws f (Not a) = refl
renumbered_width ws f (Both a b) = refl
renumbered_width ws f (Pick p x y) = refl
renumbered_width ws f (Join a b c d) = refl
renumbered_width ws f (Byte a k) = refl

renumbered-same : (f g : ℕ → ℕ) (i : ℕ) (n : QNode) → HasEarlier i n → ((k : ℕ) → k < i → f k ≡ g k) → renumbered f n ≡ renumbered g n
renumbered-same f g i (Constant k x) e h = refl
renumbered-same f g i (Input k) e h = refl
renumbered-same f g i (Alu op a b) e h = rw (h a e.0) (rw (h b e.1) refl)
renumbered-same f g i (Test c a b) e h = rw (h a e.0) (rw (h b e.1) refl)
renumbered-same f g i (Not a) e h = rw (h a e) refl
renumbered-same f g i (Both a b) e h = rw (h a e.0) (rw (h b e.1) refl)
renumbered-same f g i (Pick p x y) e h = rw (h p e.0) (rw (h x e.1) (rw (h y e.2) refl))
renumbered-same f g i (Join a b c d) e h = rw (h a e.0) (rw (h b e.1) (rw (h c e.2) (rw (h d e.3) refl)))
renumbered-same f g i (Byte a k) e h = rw (h a e) refl

-- what is asked of the operands is asked of their copies
typed_copy : (ws us f : ℕ → ℕ) (i o : ℕ) (n : QNode) → HasEarlier i n → ((k : ℕ) → k < i → ws k ≡ us (f k)) → IsTypedAt us o (renumbered f n) → IsTypedAt ws i n
typed_copy ws us f i o (Constant k x) e h t = t
typed_copy ws us f i o (Input k) e h t = tt
typed_copy ws us f i o (Alu op a b) e h t = ((e.0, h a e.0 ∙ t.0.1), (e.1, h b e.1 ∙ t.1.1))
typed_copy ws us f i o (Test c a b) e h t = ((e.0, h a e.0 ∙ t.0.1), (e.1, h b e.1 ∙ t.1.1))
typed_copy ws us f i o (Not a) e h t = (e, h a e ∙ t.1)
typed_copy ws us f i o (Both a b) e h t = ((e.0, h a e.0 ∙ t.0.1), (e.1, h b e.1 ∙ t.1.1))
typed_copy ws us f i o (Pick p x y) e h t = ((e.0, h p e.0 ∙ t.0.1), (e.1, h x e.1 ∙ t.1.1 ∙ sym (h y e.2)), (e.2, refl))
typed_copy ws us f i o (Join a b c d) e h t = ((e.0, h a e.0 ∙ t.0.1), (e.1, h b e.1 ∙ t.1.1), (e.2, h c e.2 ∙ t.2.1), (e.3, h d e.3 ∙ t.3.1))
typed_copy ws us f i o (Byte a k) e h t = ((e, h a e ∙ t.0.1), t.1)

module _ (nodes : List QNode) (origins : List ℕ) (copies : List QNode) (c : AreCopies nodes origins copies) where
  -- widths of the nodes are widths of the copies
  copied_widths : (us : ℕ → ℕ) → AreWidths us nodes → AreWidths (λ k. us (slice_index origins k)) copies
  copied_widths us w = record { at = λ k n h. w.at (slice_index origins k) (renumbered (slice_index origins) n) (c.at k n h) ∙ renumbered_width us (slice_index origins) n }

  pub typed_copies : IsTyped nodes → IsTyped copies
  typed_copies typed = record {
    earlier = c.earlier;
    at = λ i n h ws w.
        let us = slice_index (widths_of nodes) in
        let wide = widths_exist nodes typed in
        let o = slice_index origins i in
        let same : (k : ℕ) → k < i → ws k ≡ us (slice_index origins k) = λ k lt.
        only_one 0 node_width width_is_local ws (λ j. us (slice_index origins j)) (take i copies) (λ j m p. c.earlier j m (in_whole copies i j m p)) w.at
        ((front_widths (λ j. us (slice_index origins j)) copies i (copied_widths us wide)).at) k (let q = slice_get_within copies i n h in rw (length-take i copies) (omega (arith, q, lt))) in
        typed_copy ws us (slice_index origins) i o n (c.earlier i n h) same (typed.at o (renumbered (slice_index origins) n) (c.at i n h) us (front_widths us nodes o wide));
  }

  -- a copy has the width of its node
  pub copy_width : IsTyped nodes → (k w : ℕ) → k < length copies → HasWidth nodes (slice_index origins k) w → HasWidth copies k w
  copy_width typed k w here has =
      let us = slice_index (widths_of nodes) in
      let wide = widths_exist nodes typed in
      subst (λ (x : ℕ). HasWidth copies k x) (has.is us wide) (has_width (λ j. us (slice_index origins j)) copies (typed_copies typed) (copied_widths us wide) k here)

  -- and its value
  pub copy_value : IsTyped nodes → (env : ℕ → ℕ) (k : ℕ) → k < length copies → slice_index (values_of env copies) k ≡ slice_index (values_of env nodes) (slice_index origins k)
  copy_value typed env k here =
      let v = slice_index (values_of env nodes) in
      let was = values_exist env nodes typed in
      one_valuation env (slice_index (values_of env copies)) (λ j. v (slice_index origins j)) copies c.earlier (values_exist env copies (typed_copies typed))
      (record { at = λ j n h. was.at (slice_index origins j) (renumbered (slice_index origins) n) (c.at j n h) ∙ renumbered_value env v (slice_index origins) n }) k here

pub no_copies : (nodes : List QNode) → AreCopies nodes [] []
no_copies nodes = record { as_many = refl; earlier = λ k n h. cc; at = λ k n h. cc }

pub keeps_push : (origins : List ℕ) (top : ℕ) → KeepsNumbers origins (origins ++ top ∷ [])
keeps_push origins top = λ k lt. (omega (arith, length_push origins top), get_or_append_left origins (top ∷ []) 0 k lt)

-- one copy more
pub more_copies : (nodes : List QNode) (origins : List ℕ) (copies : List QNode) (top : ℕ) (node copy : QNode) → AreCopies nodes origins copies
    → slice_get nodes top ≡ Some node → node ≡ renumbered (slice_index origins) copy → HasEarlier (length origins) copy → AreCopies nodes (origins ++ top ∷ []) (copies ++ copy ∷ [])
more_copies nodes origins copies top node copy c here is before =
    let grown : (k : ℕ) → k < length origins → slice_index origins k ≡ slice_index (origins ++ top ∷ []) k = λ k lt. sym (get_or_append_left origins (top ∷ []) 0 k lt) in
    record {
      as_many = omega (arith, c.as_many, length_push origins top, length_push copies copy);
      earlier = λ k n h. elim (old_or_last copies copy k n h) [
        | inl was ↦ c.earlier k n was
        | inr last ↦ (let at : length origins ≡ k = omega (arith, last.0, c.as_many) in
            subst (λ (m : QNode). HasEarlier k m) (sym last.1) (subst (λ (j : ℕ). HasEarlier j copy) at before))
      ];
      at = λ k n h. elim (old_or_last copies copy k n h) [
        | inl was ↦ (let low : k < length origins = let q = slice_get_within copies k n was in omega (arith, c.as_many, q) in
            rw (← grown k low) (c.at k n was ∙ ap (λ (m : QNode). Some m) (renumbered-same (slice_index origins) (slice_index (origins ++ top ∷ [])) k n (c.earlier k n was) (λ j lt. grown j (omega (arith, lt, low))))))
        | inr last ↦ (let at : k ≡ length origins = omega (arith, last.0, c.as_many) in
            let place : slice_index (origins ++ top ∷ []) k ≡ top = get_or_push origins top 0 k (sym at) in
            rw place (here ∙ ap (λ (m : QNode). Some m) (is ∙ renumbered-same (slice_index origins) (slice_index (origins ++ top ∷ [])) (length origins) copy before grown ∙ ap (renumbered (slice_index (origins ++ top ∷ []))) (sym last.1))))
      ];
    }

-- the copy of an input is one of its variable
pub copied_input : (nodes : List QNode) (origins : List ℕ) (copies : List QNode) → AreCopies nodes origins copies → (i variable : ℕ) → slice_get copies i ≡ Some (Input variable) → (i < length origins) × (slice_get nodes (slice_index origins i) ≡ Some (Input variable))
copied_input nodes origins copies c i variable h = (let q = slice_get_within copies i (Input variable) h in omega (arith, c.as_many, q), c.at i (Input variable) h)
