-- One more node.
use Rattle.std.proofs.Common.{◌≡◌, ℕ, ◌<◌, ◌≤◌, List, length, get_or, false, eqb, eqb-true, eq-eqb, Some, sym, ◌∙◌, ap, inl, inr, arith}
use Rattle.std.specs.Prelude.{slice_get, IsTrue, ◌↔◌}
use Rattle.std.proofs.lemmas.Bool.{cases_lt}
use Rattle.std.proofs.lemmas.Option.{slice_get_within, slice_get-get_or}
use Rattle.bv_expr.specs.declared.q_node.QNode.{QNode}
use Rattle.bv_expr.specs.declared.q_node.QNode.TheVariants.{Input, Pick}
use Rattle.bv_expr.specs.Nodes.{IsValuation, HasWidth, node_value, node_width}
use Rattle.bv_expr.specs.Typing.{IsTyped, HaveOneWidth}
use Rattle.bv_expr.specs.Growth.{Extends, AddsNoInput}
use Rattle.bv_expr.proofs.Widths.{has_width}
use Rattle.rel_step.specs.Building.{IsBuilt, AddsOnly, HasVariableBelow}
use Rattle.rel_step.specs.PathNodes.{AreVariablesBelow}

-- a node of a width that doesn't depend on its operands
pub built : (new : List QNode) (id : ℕ) (what : QNode) (w : ℕ) → ((env v : ℕ → ℕ) → IsValuation env v new → v id ≡ node_value env v what) → HasWidth new id w → ((ws : ℕ → ℕ) → w ≡ node_width ws what) → IsBuilt new id what
built new id what w value has is = record { inside = has.inside; value = value; width = λ ws are. has.is ws are ∙ is ws }

-- a node that is there
pub built_there : (nodes : List QNode) (id : ℕ) (what : QNode) → slice_get nodes id ≡ Some what → IsBuilt nodes id what
built_there nodes id what at = record {
  inside = slice_get_within nodes id what at;
  value = λ env v is. is.at id what at;
  width = λ ws are. are.at id what at;
}

-- a choice has the width of its sides
pub built_pick : (old new : List QNode) (n id when this that : ℕ) → IsTyped old → HaveOneWidth old this that → Extends old new n → id < length new
    → ((env v : ℕ → ℕ) → IsValuation env v new → v id ≡ node_value env v (Pick when this that)) → ((w : ℕ) → HasWidth old this w → HasWidth new id w) → IsBuilt new id (Pick when this that)
built_pick old new n id when this that typed sides grown inside value width = record {
  inside = inside;
  value = value;
  width = λ ws are. (width (ws this) (has_width ws old typed (grown.widths ws are) this sides.left)).is ws are;
}

pub adds_none : (old new : List QNode) (what : QNode) → AddsNoInput old new → AddsOnly old new what
adds_none old new what h i variable at = inl (h.at i variable at)

-- whether a node is an input
pub input_same : (nodes : List QNode) (id other variable : ℕ) → slice_get nodes id ≡ Some (Input other) → IsTrue (eqb other variable) ↔ (slice_get nodes id ≡ Some (Input variable))
input_same nodes id other variable there = (
  λ t1. there ∙ ap (λ k. Some (Input k)) (eqb-true other variable t1),
  λ e. eq-eqb other variable (let same : Some (Input other) ≡ Some (Input variable) = sym there ∙ e in cc),
)

pub input_other : (nodes : List QNode) (id variable : ℕ) (n : QNode) → slice_get nodes id ≡ Some n → ((k : ℕ) → n ≡ Input k → ⊥) → IsTrue false ↔ (slice_get nodes id ≡ Some (Input variable))
input_other nodes id variable n there h = (
  λ t1. absurd cc,
  λ e. absurd (h variable (let same : Some n ≡ Some (Input variable) = sym there ∙ e in cc)),
)

-- an input that wasn't there is the only new node
pub adds_input : (old new : List QNode) (id variable : ℕ) → Extends old new 1 → slice_get new id ≡ Some (Input variable) → ((i : ℕ) → slice_get old i ≡ Some (Input variable) → ⊥) → AddsOnly old new (Input variable)
adds_input old new id variable grown at fresh i other there = elim (cases_lt i (length old)) [ inl inside ↦ inl (was i (Input other) inside there) | inr past ↦ inr (last_is past) ]
  where
    was : (k : ℕ) (n : QNode) → k < length old → slice_get new k ≡ Some n → slice_get old k ≡ Some n
    was k n inside e =
        let here = slice_get-get_or old k n inside in
        here ∙ sym (grown.stays k (get_or old k n) here) ∙ e

    last : (k : ℕ) (n : QNode) → length old ≤ k → slice_get new k ≡ Some n → k ≡ length old
    last k n past e = omega (arith, slice_get_within new k n e, grown.most)

    id_past : length old ≤ id
    id_past = elim (cases_lt id (length old)) [ inl inside ↦ absurd (fresh id (was id (Input variable) inside at)) | inr past ↦ past ]

    last_is : length old ≤ i → Input variable ≡ Input other
    last_is past =
        let same : i ≡ id = last i (Input other) past there ∙ sym (last id (Input variable) id_past at) in
        let e : Some (Input variable) ≡ Some (Input other) = sym at ∙ ap (slice_get new) (sym same) ∙ there in cc

pub variables_grow : (old new : List QNode) (what : QNode) (count : ℕ) → AddsOnly old new what → HasVariableBelow count what → AreVariablesBelow count old → AreVariablesBelow count new
variables_grow old new what count adds below were i variable at = elim (adds i variable at) [ inl was ↦ were i variable was | inr is ↦ below variable is ]
