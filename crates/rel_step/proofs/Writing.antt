-- What stores write.
use Rattle.std.proofs.Common.{◌≡◌, ℕ, suc, ◌+◌, ◌*◌, ◌/◌, ◌%◌, ◌<◌, ◌^◌, Bool, true, false, List, [], ◌∷◌, ◌++◌, length, get_or, fold, Some, refl, sym, ◌∙◌, ap, subst, inl, inr, arith}
use Rattle.std.specs.Prelude.{slice_get}
use Rattle.std.specs.Global.{Vec}
use Rattle.std.specs.List.{All}
use Rattle.std.proofs.lemmas.Nat.{shr-shr}
use Rattle.std.proofs.lemmas.Option.{slice_get-get_or, none-some}
use Rattle.std.proofs.lemmas.List.{length_push}
use Rattle.rv_image.specs.declared.right.Right.TheVariants as rights
use Rattle.rv_image.specs.Cell.{Cell}
use Rattle.rv_machine.specs.State.{State, register_value}
use Rattle.rv_machine.specs.Step.{wrapped, byte_stored, bytes_stored}
use Rattle.bv_expr.specs.declared.q_node.QNode.{QNode}
use Rattle.bv_expr.specs.declared.expr_id.ExprId.{ExprId}
use Rattle.bv_expr.specs.Nodes.{IsValuation, HasWidth, byte_at}
use Rattle.bv_expr.specs.Growth.{Extends, AddsNoInput}
use Rattle.bv_expr.proofs.Growing.{Extends-refl, Extends-then, AddsNoInput-refl, AddsNoInput-then}
use Rattle.bv_expr.proofs.Lists.{old_or_last}
use Rattle.bv_passes.specs.Answering.{IsAnswer}
use Rattle.rel_store.specs.Sides.{side_id, HasSides}
use Rattle.rel_store.specs.declared.rel_value.RelValue.{RelValue}
use Rattle.rel_memory.specs.Contents.{IsWritten}
use Rattle.rel_memory.specs.declared.contents.Written.{Written}
use Rattle.rel_step.specs.declared.here.Here.{Here}
use Rattle.rel_step.specs.declared.planned.Moved.TheVariants.{Bytes}
use Rattle.rel_step.specs.Runs.{Always, IsHere, state_of}
use Rattle.rel_step.specs.Plans.{with_byte}
use Rattle.rel_step.specs.Accesses.{IsByteWritten, AreBytesWritten, with_stored, Changes}
use Rattle.rel_step.proofs.Growing.{IsWritten-grows, HasWidth-grows}
use Rattle.rel_step.proofs.Operands.{register_is}

-- a byte of both runs, from its sides, simplified
pub byte_sides : (a b c : List QNode) (m n k : ℕ) (word byte simple : RelValue) (wl wr l r : ExprId) → Extends a b m → Extends b c n → wl.0 ≡ side_id false word → wr.0 ≡ side_id true word
    → ((env v : ℕ → ℕ) → IsValuation env v a → v l.0 ≡ byte_at (v wl.0) k) → ((env v : ℕ → ℕ) → IsValuation env v b → v r.0 ≡ byte_at (v wr.0) k)
    → side_id false byte ≡ l.0 → side_id true byte ≡ r.0 → ((right : Bool) → IsAnswer b c (side_id right byte) (side_id right simple))
    → (right : Bool) → Always c (λ v. v (side_id right simple) ≡ byte_at (v (side_id right word)) k)
byte_sides a b c m n k word byte simple wl wr l r first second wel wer left right el er answer false env v bs val =
    (answer false).value env v bs val ∙ ap v el ∙ left env v (first.values env v (second.values env v val)) ∙ ap (λ i. byte_at (v i) k) wel
byte_sides a b c m n k word byte simple wl wr l r first second wel wer left right el er answer true env v bs val =
    (answer true).value env v bs val ∙ ap v er ∙ right env v (second.values env v val) ∙ ap (λ i. byte_at (v i) k) wer

pub written_is : (mid new : List QNode) (n at k : ℕ) (word held : RelValue) (address : ExprId) → Extends mid new n → HasWidth mid address.0 32 → Always mid (λ v. v address.0 ≡ wrapped (v at + k))
    → HasSides new 8 held → ((right : Bool) → Always new (λ v. v (side_id right held) ≡ byte_at (v (side_id right word)) k)) → IsByteWritten new at word k (record { address = address; held = held })
written_is mid new n at k word held address more width above wide holds = record {
  parts = record { address = HasWidth-grows mid new n address.0 32 more width; held = wide };
  address = λ env v b val. above env v b (more.values env v val);
  held = holds;
}

IsByteWritten-grows : (old new : List QNode) (n at k : ℕ) (word : RelValue) (one : Written) → Extends old new n → IsByteWritten old at word k one → IsByteWritten new at word k one
IsByteWritten-grows old new n at k word one more is = record {
  parts = IsWritten-grows old new n more one is.parts;
  address = λ env v b val. is.address env v b (more.values env v val);
  held = λ right env v b val. is.held right env v b (more.values env v val);
}

-- the bytes that were made so far
pub record IsWriting (old new : List QNode) (at : ℕ) (word : RelValue) (each count : ℕ) (ones : List Written) : Type 0 where
  pub extends : Extends old new (each * count)
  pub no_input : AddsNoInput old new
  pub written : AreBytesWritten new at word ones
  pub length_is : length ones ≡ count

pub writing_none : (nodes : List QNode) (at : ℕ) (word : RelValue) (each : ℕ) (ones : List Written) → ones ≡ [] → IsWriting nodes nodes at word each 0 ones
writing_none nodes at word each ones e = let P : List Written → Type 0 = λ xs. IsWriting nodes nodes at word each 0 xs in subst P (sym e) (record {
  extends = Extends-refl nodes (each * 0);
  no_input = AddsNoInput-refl nodes;
  written = λ k one h. absurd (none-some one h);
  length_is = refl;
})

pub writing_more : (old mid new : List QNode) (at : ℕ) (word : RelValue) (each count next : ℕ) (ones : List Written) (one : Written) (later : List Written) → IsWriting old mid at word each count ones → Extends mid new each → AddsNoInput mid new
    → IsByteWritten new at word count one → next ≡ count + 1 → later ≡ ones ++ one ∷ [] → IsWriting old new at word each next later
writing_more old mid new at word each count next ones one later was more none is e all = let R : List Written → Type 0 = λ xs. IsWriting old new at word each next xs in subst R (sym all) (record {
  extends = Extends-then old mid new (each * count) each (each * next) was.extends more (let f : each * next ≡ each * (count + 1) = ap (λ k. each * k) e in omega (arith, f));
  no_input = AddsNoInput-then old mid new was.no_input none;
  written = λ k x at_k. elim (old_or_last ones one k x at_k) [
    | inl o ↦ IsByteWritten-grows mid new each at k word x more (was.written k x o)
    | inr l ↦ (let place : k ≡ count = l.0 ∙ was.length_is in
        let P : ℕ → Type 0 = λ j. IsByteWritten new at word j x in
        let Q : Written → Type 0 = λ y. IsByteWritten new at word count y in
        subst P (sym place) (subst Q (sym l.1) is))
  ];
  length_is = length_push ones one ∙ ap (λ k. k + 1) was.length_is ∙ sym e;
})

-- bytes that are put one after another are those of the number

quotient_more : (w k : ℕ) → w / 2 ^ (8 * k) / 256 ≡ w / 2 ^ (8 * (k + 1))
quotient_more w k = let e : 8 * k + 8 ≡ 8 * (k + 1) = omega arith in shr-shr w (8 * k) 8 ∙ ap (λ n. w / 2 ^ n) e

wrapped_next : (a k : ℕ) → wrapped (wrapped (a + k) + 1) ≡ wrapped (a + (k + 1))
wrapped_next a k = omega arith

put_all : (right : Bool) (v : ℕ → ℕ) (image : List Cell) (a w : ℕ) (ones : List Written) (k : ℕ) (bytes : List ℕ)
    → ((j : ℕ) (one : Written) → slice_get ones j ≡ Some one → (v one.address.0 ≡ wrapped (a + (k + j))) × (v (side_id right one.held) ≡ byte_at w (k + j)))
    → fold (with_byte right v image) bytes ones ≡ bytes_stored image bytes (wrapped (a + k)) (length ones) (w / 2 ^ (8 * k))
unfolding bytes_stored
put_all right v image a w [] k bytes h = refl
put_all right v image a w (one ∷ ones) k bytes h =
    let none : k + 0 ≡ k = omega arith in
    let first = h 0 one refl in
    let address : v one.address.0 ≡ wrapped (a + k) = first.0 ∙ ap (λ n. wrapped (a + n)) none in
    let held : v (side_id right one.held) ≡ w / 2 ^ (8 * k) % 256 = first.1 ∙ ap (byte_at w) none in
    put_all right v image a w ones (k + 1) (with_byte right v image bytes one) (λ j x e. later x j (h (suc j) x e))
    ∙ ap (λ b. bytes_stored image b (wrapped (a + (k + 1))) (length ones) (w / 2 ^ (8 * (k + 1))))
    (ap (λ x. byte_stored image bytes x (v (side_id right one.held))) address ∙ ap (byte_stored image bytes (wrapped (a + k))) held)
    ∙ ap (λ x. bytes_stored image (byte_stored image bytes (wrapped (a + k)) (w / 2 ^ (8 * k) % 256)) x (length ones) (w / 2 ^ (8 * (k + 1)))) (sym (wrapped_next a k))
    ∙ ap (bytes_stored image (byte_stored image bytes (wrapped (a + k)) (w / 2 ^ (8 * k) % 256)) (wrapped (wrapped (a + k) + 1)) (length ones)) (sym (quotient_more w k))
  where
    later : (x : Written) (j : ℕ) → (v x.address.0 ≡ wrapped (a + (k + suc j))) × (v (side_id right x.held) ≡ byte_at w (k + suc j)) → (v x.address.0 ≡ wrapped (a + (k + 1 + j))) × (v (side_id right x.held) ≡ byte_at w (k + 1 + j))
    later x j p = let e : k + suc j ≡ k + 1 + j = omega arith in (p.0 ∙ ap (λ n. wrapped (a + n)) e, p.1 ∙ ap (byte_at w) e)

from_none : (right : Bool) (v : ℕ → ℕ) (a w : ℕ) (one : Written) (j : ℕ) → v one.address.0 ≡ wrapped (a + j) → v (side_id right one.held) ≡ byte_at w j
    → (v one.address.0 ≡ wrapped (a + (0 + j))) × (v (side_id right one.held) ≡ byte_at w (0 + j))
from_none right v a w one j address held = let e : j ≡ 0 + j = omega arith in (address ∙ ap (λ n. wrapped (a + n)) e, held ∙ ap (byte_at w) e)

whole : (w : ℕ) → w / 2 ^ (8 * 0) ≡ w
whole w = omega arith

start : (a : ℕ) → a < 2 ^ 32 → wrapped (a + 0) ≡ a
start a small = omega arith

all_parts : (nodes : List QNode) (at : ℕ) (word : RelValue) (ones : List Written) → AreBytesWritten nodes at word ones → All (IsWritten nodes) ones
all_parts nodes at word ones are k d lt = (are k (get_or ones k d) (slice_get-get_or ones k d lt)).parts

-- the change that a store leaves
pub stored_is : (old new : List QNode) (n : ℕ) (here : Here) (rs2 at bytes : ℕ) (word : RelValue) (ones : Vec Written) → IsHere old here → slice_get here.registers rs2 ≡ Some word → Extends old new n
    → Always new (λ v. v at < 2 ^ 32) → AreBytesWritten new at word ones.items → length ones.items ≡ bytes
    → Changes new here rights.Write at bytes (with_stored here rs2 bytes) (Bytes ones)
stored_is old new n here rs2 at bytes word ones is has more small are count = record {
  parts = all_parts new at word ones.items are;
  states = λ right env v b val may.
      let s : State = state_of right v here in
      let w : ℕ = v (side_id right word) in
      let reads : register_value s rs2 ≡ w = register_is old here rs2 word is has right env v b (more.values env v val) in
      ap (λ bs. record s { bytes = bs }) (
      put_all right v here.memory.image (v at) w ones.items 0 s.bytes (λ j one e. from_none right v (v at) w one j ((are j one e).address env v b val) ((are j one e).held right env v b val))
      ∙ ap (λ x. bytes_stored here.memory.image s.bytes x (length ones.items) (w / 2 ^ (8 * 0))) (start (v at) (small env v b val))
      ∙ ap (bytes_stored here.memory.image s.bytes (v at) (length ones.items)) (whole w)
      ∙ ap (λ c. bytes_stored here.memory.image s.bytes (v at) c w) count
      ∙ ap (bytes_stored here.memory.image s.bytes (v at) bytes) (sym reads)
      );
}
