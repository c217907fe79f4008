-- The wires of roots, one by one.
use Rattle.std.proofs.Common.{◌≡◌, ℕ, ◌+◌, ◌<◌, List, [], ◌∷◌, ◌++◌, length, take, get_or, Option, Some, sym, ap, ◌∙◌, subst, inl, inr, arith}
use Rattle.std.specs.Prelude.{slice_index, All}
use Rattle.std.proofs.lemmas.Bool.{cases_lt}
use Rattle.std.proofs.lemmas.List.{length_push, get_or_append_left, get_or_push, take_more}
use Rattle.ct_words.specs.Words.{flag}
use Rattle.gate_form.specs.declared.wire.Wire.{Wire}
use Rattle.gate_form.specs.declared.wire.Gate.{Gate}
use Rattle.gate_form.specs.Net.{bit}
use Rattle.bit_arith.specs.Number.{word}
use Rattle.bit_arith.proofs.WordLaws.{AreIn-push}
use Rattle.bv_expr.specs.declared.q_node.QNode.{QNode}
use Rattle.bv_expr.specs.Nodes.{AreWidths, HasWidth}
use Rattle.bv_expr.specs.Typing.{IsTyped}
use Rattle.bv_expr.specs.Valuations.{widths_of}
use Rattle.bv_expr.proofs.Valuing.{widths_exist}
use Rattle.bit_blast.specs.Bytes.{HasBytes}
use Rattle.bit_blast.specs.Blasting.{IsNodeWord, AreWords}
use Rattle.bit_blast.specs.Roots.{AreRoots}
use Rattle.bit_blast.proofs.NodeLaws.{first_bit}
use Rattle.bit_blast.proofs.Rightness.{nothing_more}

AreRoots-push : (nodes : List QNode) (roots : List ℕ) (gates : List Gate) (vars : List ℕ) (wires word_wires : List Wire) (r : ℕ) (d : Wire) → AreRoots nodes roots gates vars wires → IsNodeWord gates vars nodes r word_wires → length word_wires ≡ 1
    → AreRoots nodes (roots ++ r ∷ []) gates vars (wires ++ get_or word_wires 0 d ∷ [])
AreRoots-push nodes roots gates vars wires word_wires r d was is one = record {
  count = length_push wires last ∙ omega (arith, was.count, length_push roots r);
  inside = AreIn-push gates gates wires last (omega arith) was.inside (is.inside 0 d (omega (arith, one)));
  value_is = λ env v g bytes valuation run has k e lt. elim (cases_lt k (length roots)) [
    | inl l ↦ ap (λ (w : Wire). flag (bit g w)) (get_or_append_left wires (last ∷ []) e k (omega (arith, was.count))) ∙ was.value_is env v g bytes valuation run has k e l ∙ ap v (sym (get_or_append_left roots (r ∷ []) 0 k l))
    | inr l ↦ (let end : k ≡ length roots = omega (arith, length_push roots r) in
        let P : List ℕ → Type 0 = λ xs. HasBytes env g gates xs in
        let value : word g word_wires ≡ v r = is.value_is env v g [] bytes valuation run (subst P (sym (nothing_more vars)) has) in
        ap (λ (w : Wire). flag (bit g w)) (get_or_push wires last e k (omega (arith, was.count))) ∙ sym (first_bit g word_wires d one) ∙ value ∙ ap v (sym (get_or_push roots r 0 k (omega arith))))
  ];
}
  where
    last : Wire
    last = get_or word_wires 0 d

pub root_width : (nodes : List QNode) (gates : List Gate) (vars : List ℕ) (r : ℕ) (wires : List Wire) → IsTyped nodes → HasWidth nodes r 1 → IsNodeWord gates vars nodes r wires → length wires ≡ 1
root_width nodes gates vars r wires typed has is = let us : ℕ → ℕ = slice_index (widths_of nodes) in let widths : AreWidths us nodes = widths_exist nodes typed in is.width_is us widths ∙ has.is us widths

-- one root more
pub AreRoots-more : (nodes : List QNode) (roots : List ℕ) (gates : List Gate) (vars : List ℕ) (bytes words : ℕ → Option (List Wire)) (wires more word_wires : List Wire) (i : ℕ) (d : Wire) (e : ℕ) → IsTyped nodes → AreWords nodes gates vars bytes words
    → All (λ r. HasWidth nodes r 1) roots → i < length roots → words (get_or roots i e) ≡ Some word_wires → more ≡ wires ++ get_or word_wires 0 d ∷ [] → AreRoots nodes (take i roots) gates vars wires → AreRoots nodes (take (i + 1) roots) gates vars more
AreRoots-more nodes roots gates vars bytes words wires more word_wires i d e typed right bits lt found is was =
    let this : IsNodeWord gates vars nodes (get_or roots i e) word_wires = right.words_are (get_or roots i e) word_wires found in
    let one : length word_wires ≡ 1 = root_width nodes gates vars (get_or roots i e) word_wires typed (bits i e lt) this in
    let P : List ℕ → Type 0 = λ xs. AreRoots nodes xs gates vars more in
    let Q : List Wire → Type 0 = λ ws. AreRoots nodes (take i roots ++ get_or roots i e ∷ []) gates vars ws in
    subst P (sym (take_more roots i e lt)) (subst Q (sym is) (AreRoots-push nodes (take i roots) gates vars wires word_wires (get_or roots i e) d was this one))
