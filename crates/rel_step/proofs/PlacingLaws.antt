-- An input byte in its place.
use Rattle.std.proofs.Common.{◌≡◌, ◌≢◌, ℕ, suc, zero, ◌+◌, ◌&&◌, ◌<◌, ◌≤◌, ◌==◌, if◌then◌else◌, Bool, true, false, cond, eqb, inl, inr, Option, Some, None, List, get_or, map, refl, sym, ◌∙◌, ap, subst, arith, slice_index, slice_set}
use Rattle.std.specs.Prelude.{slice_get, All, IsTrue, is_some}
use Rattle.std.specs.Option.{option_map_or}
use Rattle.std.proofs.lemmas.Bool.Decides.{eqb_tells}
use Rattle.std.proofs.lemmas.List.{get_or-map}
use Rattle.std.proofs.lemmas.Option.{slice_get_within, slice_get-get_or}
use Rattle.rv_image.specs.Cell.{Cell}
use Rattle.rv_image.specs.Image.{index_at, cell_at}
use Rattle.rv_image.proofs.Laws.{index_at-None}
use Rattle.rv_machine.specs.State.{State}
use Rattle.bv_expr.specs.declared.q_node.QNode.{QNode}
use Rattle.bv_expr.specs.declared.q_node.QNode.TheVariants.{Input}
use Rattle.bv_expr.specs.declared.expr_id.ExprId.{ExprId}
use Rattle.bv_expr.specs.Nodes.{IsValuation, HasWidth, joined_bytes, byte_at}
use Rattle.bv_expr.specs.Growth.{Extends, AddsNoInput}
use Rattle.bv_expr.proofs.Growing.{Extends-refl, AddsNoInput-refl}
use Rattle.rel_store.specs.declared.rel_value.RelValue.{RelValue}
use Rattle.rel_store.specs.declared.rel_value.RelValue.TheVariants.{Same, Both}
use Rattle.rel_store.specs.Sides.{side_id, HasSides}
use Rattle.rel_memory.specs.Contents.{Contents, IsMemory, HasNumbersOnly, byte_in}
use Rattle.ct_pairs.specs.declared.place.Place.TheVariants.{Register, Memory}
use Rattle.ct_pairs.specs.Start.{byte_replaced, placed, byte_put}
use Rattle.rel_step.specs.declared.here.Here.{Here}
use Rattle.rel_step.specs.Bridge.{variable_of}
use Rattle.rel_step.specs.Building.{IsBuilt, AddsOnly}
use Rattle.rel_step.specs.Runs.{IsHere}
use Rattle.rel_step.specs.Following.{bytes_in}
use Rattle.rel_step.specs.PathNodes.{AreVariablesBelow}
use Rattle.rel_step.specs.Placing.{IsPlaced}
use Rattle.rel_step.proofs.Growing.{IsHere-grows}
use Rattle.rel_step.proofs.ByteLaws.{bytes_by, with_at, same_functions, bytes_by-stored}
use Rattle.rel_step.proofs.FollowingLaws.{put_register}

-- one of the four bytes
abbrev pub piece_of : ℕ → ℕ → ℕ → ℕ → ℕ
piece_of word byte value at = if at == byte then value else byte_at word at

-- four pieces are the word with the byte replaced
pub pieces_are : (word byte value : ℕ) → byte < 4 → joined_bytes (piece_of word byte value 0) (piece_of word byte value 1) (piece_of word byte value 2) (piece_of word byte value 3) ≡ byte_replaced word byte value
unfolding byte_replaced
pieces_are word zero value h = omega arith
pieces_are word (suc zero) value h = omega arith
pieces_are word (suc (suc zero)) value h = omega arith
pieces_are word (suc (suc (suc zero))) value h = omega arith
pieces_are word (suc (suc (suc (suc k)))) value h = absurd (omega (arith, h))

joined_same : (a b c d x y z w : ℕ) → a ≡ x → b ≡ y → c ≡ z → d ≡ w → joined_bytes a b c d ≡ joined_bytes x y z w
joined_same a b c d x y z w p q r s = omega (arith, p, q, r, s)

pub replaced_is : (x word byte value p0 p1 p2 p3 : ℕ) → byte < 4 → x ≡ joined_bytes p0 p1 p2 p3 → p0 ≡ piece_of word byte value 0 → p1 ≡ piece_of word byte value 1 → p2 ≡ piece_of word byte value 2 → p3 ≡ piece_of word byte value 3 → x ≡ byte_replaced word byte value
replaced_is x word byte value p0 p1 p2 p3 below e h0 h1 h2 h3 = e ∙ joined_same _ _ _ _ _ _ _ _ h0 h1 h2 h3 ∙ pieces_are word byte value below

-- both sides
pub both_sides : (P : Bool → Type 0) → P false → P true → (right : Bool) → P right
both_sides P f t true = t
both_sides P f t false = f

abbrev made : ℕ → List ℕ → List ℕ → State
made pc rs bs = record { pc = pc; registers = rs; bytes = bs; ending = None }

not_zero : (reg : ℕ) → 0 < reg → eqb reg 0 ≡ false
not_zero reg above = elim (eqb_tells reg 0) [ inl (t1, z) ↦ absurd (omega (arith, above, z)) | inr (n1, z) ↦ n1 ]

pub placed_register : (old new : List QNode) (here : Here) (reg byte : ℕ) (held word given : RelValue) (registers : List RelValue) → 0 < reg → IsHere old here → HasNumbersOnly here.memory → Extends old new 10 → AddsNoInput old new
    → slice_get here.registers reg ≡ Some word → HasSides new 32 given → ((env v : ℕ → ℕ) → IsValuation env v new → (right : Bool) → v (side_id right given) ≡ byte_replaced (v (side_id right word)) byte (v (side_id right held)))
    → registers ≡ cond (eqb reg 0) here.registers (slice_set here.registers reg given) → IsPlaced old new here (Register reg byte) held (record here { registers = registers })
unfolding placed
placed_register old new here reg byte held word given registers above h numbers grown no_input at width value same =
    let put = put_register new here reg given registers same (IsHere-grows old new 10 here grown h) width in
    record {
      extends = grown;
      no_input = no_input;
      here = put.here;
      pc = refl;
      image = refl;
      numbers = numbers;
      states = λ right env v is.
          put.states right env v is
          ∙ ap (λ b. made here.pc (cond b (regs right v) (slice_set (regs right v) reg (v (side_id right given)))) (bytes_in right v here.memory)) (not_zero reg above)
          ∙ ap (λ x. made here.pc (slice_set (regs right v) reg x) (bytes_in right v here.memory)) (value env v is right ∙ ap (λ x. byte_replaced x byte (v (side_id right held))) (sym (read right v)));
    }
  where
    regs : Bool → (ℕ → ℕ) → List ℕ
    regs right v = map (λ (r : RelValue). v (side_id right r)) here.registers

    read : (right : Bool) (v : ℕ → ℕ) → slice_index (map (λ (r : RelValue). v (side_id right r)) here.registers) reg ≡ v (side_id right word)
    read right v =
        let inside = slice_get_within here.registers reg word at in
        let e : get_or here.registers reg word ≡ word = (let f : Some (get_or here.registers reg word) ≡ Some word = sym (slice_get-get_or here.registers reg word inside) ∙ at in cc) in
        get_or-map (λ (r : RelValue). v (side_id right r)) here.registers reg word 0 inside ∙ ap (λ (r : RelValue). v (side_id right r)) e

-- a word that is read
pub read_word : (nodes : List QNode) (registers : List RelValue) (reg : ℕ) (word : RelValue) → slice_get registers reg ≡ Some word → All (HasSides nodes 32) registers → HasSides nodes 32 word
read_word nodes registers reg word at all =
    let inside = slice_get_within registers reg word at in
    let e : get_or registers reg word ≡ word = (let f : Some (get_or registers reg word) ≡ Some word = sym (slice_get-get_or registers reg word inside) ∙ at in cc) in
    subst (λ (r : RelValue). HasSides nodes 32 r) e (all reg word inside)

-- a place is an accessible address
pub accessible : (image : List Cell) (address : ℕ) → IsTrue (is_some (index_at image address)) → cell_at image address ≢ None
accessible image address is none = absurd (no_truth (index_at image address) (index_at-None image address none) is)
  where
    no_truth : (o : Option ℕ) → o ≡ None → IsTrue (is_some o) → ⊥
    no_truth None e t1 = cc
    no_truth (Some k) e t1 = cc

put_or_stored : (bytes : List ℕ) (o : Option ℕ) (value : ℕ) → option_map_or (λ index. slice_set bytes index value) o bytes ≡ byte_put bytes o value
unfolding byte_put
put_or_stored bytes None value = refl
put_or_stored bytes (Some index) value = refl

pub placed_memory : (nodes : List QNode) (here : Here) (address : ℕ) (held : RelValue) (memory : Contents) → IsHere nodes here → memory.image ≡ here.memory.image → HasNumbersOnly memory → IsMemory nodes memory
    → ((right : Bool) (v : ℕ → ℕ) (at : ℕ) → byte_in right v memory at ≡ (if at == address then v (side_id right held) else byte_in right v here.memory at))
    → IsPlaced nodes nodes here (Memory address) held (record here { memory = memory })
unfolding placed
placed_memory nodes here address held memory h image numbers of_arena meaning = record {
  extends = Extends-refl nodes 10;
  no_input = AddsNoInput-refl nodes;
  here = record { pc = h.pc; count = h.count; words = h.words; zero_is = h.zero_is; memory = of_arena };
  pc = refl;
  image = image;
  numbers = numbers;
  states = λ right env v is. ap (made here.pc (map (λ (r : RelValue). v (side_id right r)) here.registers)) (bytes right v);
}
  where
    bytes : (right : Bool) (v : ℕ → ℕ) → bytes_in right v memory ≡ byte_put (bytes_in right v here.memory) (index_at here.memory.image address) (v (side_id right held))
    bytes right v =
        let x = v (side_id right held) in
        ap (bytes_by memory.image) (same_functions (byte_in right v memory) (with_at (byte_in right v here.memory) address x) (meaning right v))
        ∙ ap (λ image. bytes_by image (with_at (byte_in right v here.memory) address x)) image
        ∙ sym (bytes_by-stored here.memory.image (byte_in right v here.memory) address x h.memory.image)
        ∙ put_or_stored (bytes_in right v here.memory) (index_at here.memory.image address) x

-- an input byte in both runs
byte_width : (nodes : List QNode) (id variable : ℕ) → IsBuilt nodes id (Input variable) → HasWidth nodes id 8
byte_width nodes id variable h = record { inside = h.inside; is = λ ws are. h.width ws are }

pub held_public : (nodes : List QNode) (id : ExprId) (variable : ℕ) → IsBuilt nodes id.0 (Input variable) → (env v : ℕ → ℕ) → IsValuation env v nodes → (right : Bool) → v (side_id right (Same id)) ≡ env (variable_of right variable false)
held_public nodes id variable h env v is right = h.value env v is ∙ ap env (none right)
  where
    none : (right : Bool) → variable ≡ variable + (if right && false then 1 else 0)
    none true = omega arith
    none false = omega arith

pub held_secret : (mid nodes : List QNode) (l r : ExprId) (variable : ℕ) → IsBuilt mid l.0 (Input variable) → Extends mid nodes 1 → IsBuilt nodes r.0 (Input (variable + 1)) → (env v : ℕ → ℕ) → IsValuation env v nodes → (right : Bool) → v (side_id right (Both l r)) ≡ env (variable_of right variable true)
held_secret mid nodes l r variable h grown k env v is true = k.value env v is
held_secret mid nodes l r variable h grown k env v is false = h.value env v (grown.values env v is) ∙ (let e : variable ≡ variable + 0 = omega arith in ap env e)

pub public_width : (nodes : List QNode) (id : ExprId) (variable : ℕ) → IsBuilt nodes id.0 (Input variable) → HasSides nodes 8 (Same id)
public_width nodes id variable h right = byte_width nodes id.0 variable h

pub secret_width : (mid nodes : List QNode) (l r : ExprId) (variable : ℕ) → IsBuilt mid l.0 (Input variable) → Extends mid nodes 1 → IsBuilt nodes r.0 (Input (variable + 1)) → HasSides nodes 8 (Both l r)
secret_width mid nodes l r variable h grown k true = byte_width nodes r.0 (variable + 1) k
secret_width mid nodes l r variable h grown k false = record { inside = omega (arith, h.inside, grown.least); is = λ ws are. h.width ws (grown.widths ws are) }

-- a variable that isn't below the count isn't there
pub not_there : (nodes : List QNode) (count variable : ℕ) → count ≤ variable → AreVariablesBelow count nodes → (i : ℕ) → slice_get nodes i ≡ Some (Input variable) → ⊥
not_there nodes count variable past h i at = absurd (omega (arith, past, h i variable at))

same_variable : (a b : ℕ) → Input a ≡ Input b → a ≡ b
same_variable a b e = cc

pub one_more_variable : (old new : List QNode) (variable count : ℕ) → AddsOnly old new (Input variable) → variable < count → AreVariablesBelow variable old → AreVariablesBelow count new
one_more_variable old new variable count adds below h i other at = elim (adds i other at) [
  | inl was ↦ omega (arith, h i other was, below)
  | inr is ↦ omega (arith, same_variable variable other is, below)
]

pub AreVariablesBelow-more : (nodes : List QNode) (a b : ℕ) → a ≤ b → AreVariablesBelow a nodes → AreVariablesBelow b nodes
AreVariablesBelow-more nodes a b le h i variable at = omega (arith, le, h i variable at)
