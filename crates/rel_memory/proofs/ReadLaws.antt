-- How a read goes through the writes.
use Rattle.std.proofs.Common.{◌≡◌, ℕ, ◌+◌, ◌<◌, ◌≤◌, Bool, List, length, get_or, drop, All, Option, Some, None, refl, sym, ap, ◌∙◌, subst, arith}
use Rattle.std.specs.Prelude.{fold, IsSome}
use Rattle.std.proofs.lemmas.List.{at_drop_more, at_drop_all, drop_all}
use Rattle.bv_expr.specs.declared.q_node.QNode.{QNode}
use Rattle.bv_expr.specs.Nodes.{IsValuation}
use Rattle.rel_store.specs.Sides.{side_id}
use Rattle.rel_store.specs.declared.rel_value.RelValue.{RelValue}
use Rattle.rel_memory.specs.Contents.{Contents, first_byte, passed, byte_in, after_write}
use Rattle.bv_range.specs.Known.{IsWithin}
use Rattle.bv_range.specs.declared.range.Range.{Range}
use Rattle.rel_memory.specs.Selecting.{AreFirst, value_at}

module _ {A B : Type 0} (f : B → A → B) (xs : List A) (i : ℕ) (total : B) where
  -- one step of what is left
  pub fold_step : (a next : B) (x : A) → i < length xs → x ≡ get_or xs i x → next ≡ f a x → fold f a (drop i xs) ≡ total → fold f next (drop (i + 1) xs) ≡ total
  fold_step a next x inside is step was =
      ap (λ (b : B). fold f b (drop (i + 1) xs)) (step ∙ ap (f a) is) ∙ sym (at_drop_more (fold f a) xs i x inside) ∙ was

  -- nothing is left
  pub fold_end : (a : B) → length xs ≤ i → fold f a (drop i xs) ≡ total → a ≡ total
  fold_end a over was = sym (at_drop_all (fold f a) xs i over) ∙ was

-- what stands for each candidate is its first byte
pub selected_first : (nodes : List QNode) (m : Contents) (values : List (ℕ × RelValue)) (at byte : ℕ) (env v : ℕ → ℕ) (right : Bool) → AreFirst nodes m values → IsValuation env v nodes → IsSome (value_at values at)
    → ((held : RelValue) → value_at values at ≡ Some held → byte ≡ v (side_id right held)) → byte ≡ first_byte right v m at
selected_first nodes m values at byte env v right first run some is = by_value (value_at values at) refl some
  where
    by_value : (o : Option RelValue) → value_at values at ≡ o → IsSome o → byte ≡ first_byte right v m at
    by_value None e h = absurd cc
    by_value (Some held) e h = is held e ∙ (first at held e).byte env v run right

-- an element, by its place
pub All-at : {A : Type 0} (P : A → Type 0) (xs : List A) (i : ℕ) (x : A) → All P xs → i < length xs → x ≡ get_or xs i x → P x
All-at P xs i x all inside is = subst P (sym is) (all i x inside)

-- where no later write is at an address that is no number, the first byte is the byte
pub byte_in-passed : (right : Bool) (v : ℕ → ℕ) (m : Contents) (at : ℕ) → length m.computed ≤ passed m at → byte_in right v m at ≡ first_byte right v m at
unfolding byte_in
byte_in-passed right v m at over = rw (drop_all (passed m at) m.computed over) refl

-- else the later ones go over it
pub byte_in-written : (right : Bool) (v : ℕ → ℕ) (m : Contents) (at first count byte : ℕ) → count ≡ passed m at → first ≡ first_byte right v m at → byte ≡ fold (after_write right v at) first (drop count m.computed) → byte ≡ byte_in right v m at
unfolding byte_in
byte_in-written right v m at first count byte is_count is_first is = is ∙ (rw (is_count, is_first) refl)

-- the only number of a range
pub only_number : (r : Range) (x : ℕ) → IsWithin r x → r.least ≡ r.most → x ≡ r.least
only_number r x within one = omega (arith, within.least, within.most)
