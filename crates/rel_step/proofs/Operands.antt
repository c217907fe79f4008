-- The words that instructions read from registers.
use Rattle.std.proofs.Common.{◌≡◌, ℕ, cond, Bool, List, map, Some, sym, ◌∙◌, ap, subst, inl, inr}
use Rattle.std.specs.Prelude.{slice_get, slice_index}
use Rattle.std.specs.Option.{option_map}
use Rattle.std.specs.List.{All}
use Rattle.std.proofs.lemmas.Bool.Decides.{eqb_tells}
use Rattle.std.proofs.lemmas.Option.{slice_get-map, slice_get_within, get_or_from_slice_get}
use Rattle.rv_machine.specs.State.{register_value}
use Rattle.bv_expr.specs.declared.q_node.QNode.{QNode}
use Rattle.rel_store.specs.Sides.{side_id, HasSides}
use Rattle.rel_store.specs.declared.rel_value.RelValue.{RelValue}
use Rattle.rel_step.specs.declared.here.Here.{Here}
use Rattle.rel_step.specs.Runs.{Always, IsHere, state_of}

pub element : {X : Type 0} (P : X → Type 0) (xs : List X) (k : ℕ) (x : X) → All P xs → slice_get xs k ≡ Some x → P x
element P xs k x h e = subst P (get_or_from_slice_get xs k x x e) (h k x (slice_get_within xs k x e))

-- the word that a register holds
pub register_is : (nodes : List QNode) (here : Here) (r : ℕ) (x : RelValue) → IsHere nodes here → slice_get here.registers r ≡ Some x → (right : Bool) → Always nodes (λ v. register_value (state_of right v here) r ≡ v (side_id right x))
register_is nodes here r x h e right env v bytes is =
    elim (eqb_tells r 0) [
      | inl (t, z) ↦ ap (λ b. cond b 0 (slice_index rs r)) t ∙ sym (h.zero_is right env v bytes is) ∙ ap (λ k. slice_index rs k) (sym z) ∙ read
      | inr (f, n) ↦ ap (λ b. cond b 0 (slice_index rs r)) f ∙ read
    ]
  where
    rs : List ℕ
    rs = map (λ value. v (side_id right value)) here.registers

    read : slice_index rs r ≡ v (side_id right x)
    read = get_or_from_slice_get rs r (v (side_id right x)) 0 (slice_get-map (λ value. v (side_id right value)) here.registers r ∙ ap (option_map (λ value. v (side_id right value))) e)

pub register_sides : (nodes : List QNode) (here : Here) (r : ℕ) (x : RelValue) → IsHere nodes here → slice_get here.registers r ≡ Some x → HasSides nodes 32 x
register_sides nodes here r x h e = element (HasSides nodes 32) here.registers r x h.words e
