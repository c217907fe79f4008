-- What a table says of a node, from what it says of the node's operation.
use Rattle.std.proofs.Common.{◌≡◌, ℕ, zero, suc, ◌<◌, ◌^◌, List, Option, Some, None, length, refl, ap, sym, ◌∙◌, subst, inl, inr, arith}
use Rattle.std.specs.Prelude.{slice_get, ◌↔◌, ◌⊎◌, ◌==◌}
use Rattle.std.specs.Option.{option_and_then, option_map_or}
use Rattle.std.proofs.lemmas.Option.{slice_get-get_or}
use Rattle.ct_words.specs.Words.{flag}
use Rattle.ct_words.specs.declared.alu_op.AluOp.{AluOp}
use Rattle.bv_expr.specs.declared.q_node.QNode.TheVariants.{Constant, Alu, Not}
use Rattle.bv_expr.specs.Folding.{constant_in, constant_value, alu_node}
use Rattle.bv_expr.specs.Growth.{Extends}
use Rattle.bv_passes.specs.declared.rewrite.Operand.TheVariants as operands
use Rattle.bv_passes.specs.declared.rewrite.Rewrite.TheVariants.{Keep, Old, Number, Operation, Raised}
use Rattle.bv_expr.specs.declared.q_node.QNode.{QNode}
use Rattle.bv_expr.specs.Nodes.{IsValuation, AreBytes, AreWidths, HasWidth, node_width, node_value}
use Rattle.bv_passes.specs.declared.rewrite.Rewrite.{Rewrite}
use Rattle.bv_passes.specs.Rewriting.{IsRight, HasParts, IsValue, IsSaid, IsOther, IsByTable}

-- what is right for the operation of node i is right for node i
pub right_at : (nodes : List QNode) (i w u : ℕ) (n : QNode) (ws : ℕ → ℕ) (f : (ℕ → ℕ) → ℕ) (r : Rewrite) → HasWidth nodes i w → slice_get nodes i ≡ Some n → AreWidths ws nodes → node_width ws n ≡ u
    → IsRight nodes u f r → ((env v : ℕ → ℕ) → IsValuation env v nodes → f v ≡ node_value env v n) → IsRight nodes w (λ v. v i) r
right_at nodes i w u n ws f r has at p width right value =
    let wide : u ≡ w = sym width ∙ sym (p.at i n at) ∙ has.is ws p in
    let P : ℕ → Type 0 = λ k. HasParts nodes k r in
    record {
      parts = subst P wide right.parts;
      values = λ env v bytes run.
          let Q : ℕ → Type 0 = λ x. IsValue v x r in
          subst Q (value env v run ∙ sym (run.at i n at)) (right.values env v bytes run);
    }

twice : (n : ℕ) → n < 2 → n ≡ flag (flag (n == 0) == 0)
twice zero lt = refl
twice (suc zero) lt = refl
twice (suc (suc n)) lt = absurd (omega arith)

-- not (not x) is x
pub not_not_right : (nodes : List QNode) (i w a x : ℕ) (ws : ℕ → ℕ) → HasWidth nodes i w → slice_get nodes i ≡ Some (Not a) → slice_get nodes a ≡ Some (Not x) → HasWidth nodes x 1 → AreWidths ws nodes
    → ((env v : ℕ → ℕ) → AreBytes env → IsValuation env v nodes → v x < 2 ^ 1) → IsRight nodes w (λ v. v i) (Old x)
not_not_right nodes i w a x ws has outer inner wide p fits =
    right_at nodes i w 1 (Not a) ws (λ v. flag (v a == 0)) (Old x) has outer p refl
    (record { parts = wide; values = λ env v bytes run. rw (run.at a (Not x) inner) (twice (v x) (fits env v bytes run)) })
    (λ env v run. refl)

-- a rewrite that stands in the place of another node
is_keep : Rewrite → Option ℕ
is_keep Keep = None
is_keep _ = Some 0

other : (r : Rewrite) {P : Type 0} → is_keep r ≡ Some 0 → r ≡ Keep → P
unfolding is_keep
other r h e = let t : is_keep r ≡ None = ap is_keep e in cc

-- what an operation is as a node
folded : (op : AluOp) (k m : ℕ) (f : (ℕ × ℕ) → ℕ) (z : Option (ℕ × ℕ)) (q : QNode) → q ≡ option_map_or (λ p. Constant 32 (f p)) z (Alu op k m)
    → ((y : ℕ) × (q ≡ Constant 32 y)) ⊎ (q ≡ Alu op k m)
folded op k m f (Some p) q h = inl (f p, h)
folded op k m f None q h = inr h

no_constant : (nodes : List QNode) (i w x : ℕ) {P : Type 0} → constant_in nodes i ≡ None → slice_get nodes i ≡ Some (Constant w x) → P
no_constant nodes i w x none h = let t : constant_in nodes i ≡ Some x = ap (option_and_then constant_value) h in cc

-- node i of the longer list
stays_at : (old new : List QNode) (n i : ℕ) (m : QNode) → i < length old → Extends old new n → slice_get new i ≡ Some m → slice_get old i ≡ Some m
stays_at old new n i m lt more h =
    let here = slice_get-get_or old i (Constant 0 0) lt in
    here ∙ sym (more.stays i _ here) ∙ h

-- the answer is another node exactly where a rule matches
pub kept_at : (old new : List QNode) (n i w : ℕ) (r : Rewrite) (answer : ℕ) → i < length old → constant_in old i ≡ None → Extends old new n → IsOther old i r → IsSaid new i w r answer
    → (answer ≡ i) ↔ (r ≡ Keep)
unfolding is_keep
kept_at old new n i w Keep answer lt none more is said = (λ _. refl, λ _. said)
kept_at old new n i w (Old j) answer lt none more is said = (λ e. absurd (omega (arith, is, said, e)), other (Old j) refl)
kept_at old new n i w (Number x) answer lt none more is said =
    (λ e. no_constant old i w x none (stays_at old new n i _ lt more (rw (← e) said)), other (Number x) refl)
kept_at old new n i w (Operation op (operands.Node x) b) answer lt none more is said = (
  λ e. elim (folded op said.0 said.1 _ _ (alu_node new op said.0 said.1) refl) [
    | inl c ↦ no_constant old i 32 c.0 none (stays_at old new n i _ lt more (rw (← e) (said.4 ∙ ap Some c.1)))
    | inr a ↦ absurd (is op said.1 (stays_at old new n i _ lt more (rw (← e) (said.4 ∙ ap Some a ∙ ap (λ k. Some (Alu op k said.1)) said.2))))
  ],
  other (Operation op (operands.Node x) b) refl,
)
kept_at old new n i w (Operation op (operands.Word x) b) answer lt none more is said = absurd is
kept_at old new n i w (Raised op a b x) answer lt none more is said = absurd is

-- the answer is what the table says
pub by_table : (old new : List QNode) (n i w : ℕ) (r t : Rewrite) (answer : ℕ) → ((u : ℕ) → HasWidth old i u → u ≡ w) → i < length old → constant_in old i ≡ None → Extends old new n
    → IsOther old i r → IsSaid new i w r answer → r ≡ t → IsByTable old new i t answer
by_table old new n i w r t answer only lt none more is said e =
    let P : Rewrite → Type 0 = λ x. IsByTable old new i x answer in
    let W : ℕ → Type 0 = λ u. IsSaid new i u r answer in
    subst P e (record { said = λ u has. subst W (sym (only u has)) said; kept = kept_at old new n i w r answer lt none more is said })

-- the answer is what the table says, at any width of the node
pub said_at : (old new : List QNode) (i w : ℕ) (r t : Rewrite) (answer : ℕ) → ((u : ℕ) → HasWidth old i u → u ≡ w) → IsSaid new i w r answer → r ≡ t → (u : ℕ) → HasWidth old i u → IsSaid new i u t answer
said_at old new i w r t answer only said e u has =
    let P : Rewrite → Type 0 = λ x. IsSaid new i u x answer in
    let W : ℕ → Type 0 = λ k. IsSaid new i k r answer in
    subst P e (subst W (sym (only u has)) said)
