-- Words stay right while gates and variables come, and one more word is right.
use Rattle.std.proofs.Common.{◌≡◌, ℕ, suc, ◌*◌, ◌<◌, ◌≤◌, Bool, true, false, cond, List, [], ◌∷◌, ◌++◌, length, get_or, Option, Some, None, refl, sym, ap, ◌∙◌, subst, inl, inr, arith, append_assoc}
use Rattle.std.specs.Prelude.{◌≢◌, slice_get, slice_index, All, is_some, nat_eq}
use Rattle.std.specs.Option.{option_map_or}
use Rattle.std.proofs.lemmas.Bool.{cases_eq, false≢true}
use Rattle.std.proofs.lemmas.Bool.Decides.{nat_tests}
use Rattle.std.proofs.lemmas.Option.{same_Some}
use Rattle.std.proofs.lemmas.List.Elements.{All-push}
use Rattle.std.proofs.lemmas.List.Quantifiers.{all_pairs_push}
use Rattle.gate_form.specs.declared.wire.Wire.{Wire}
use Rattle.gate_form.specs.declared.wire.Gate.{Gate}
use Rattle.gate_form.specs.Net.{AreIn, input_count}
use Rattle.gate_form.specs.Run.{IsRun, Keeps, Grows}
use Rattle.bit_arith.specs.Number.{word}
use Rattle.bit_arith.proofs.WordLaws.{AreIn-later}
use Rattle.bv_expr.specs.declared.q_node.QNode.{QNode}
use Rattle.bv_expr.specs.declared.q_node.QNode.TheVariants.{Constant, Input, Alu, Test, Not, Both, Pick, Join, Byte}
use Rattle.bv_expr.specs.Growth.{is_input}
use Rattle.bv_expr.specs.Nodes.{node_value, node_width, AreWidths}
use Rattle.bv_expr.specs.Typing.{IsTyped, IsWidth, HasOperands}
use Rattle.bv_expr.specs.Valuations.{widths_of}
use Rattle.bv_expr.specs.Walk.{operands_of_node}
use Rattle.bv_expr.proofs.NodeLaws.{node_value-same, node_width-same}
use Rattle.bv_expr.proofs.Valuing.{widths_exist}
use Rattle.bv_expr.proofs.Widths.{typed_operands, known_width}
use Rattle.bit_blast.specs.Bytes.{HasBytes, IsByteWord}
use Rattle.bit_blast.specs.NodeWords.{has_word, IsOperandWord, IsReady, value_in, width_in}
use Rattle.bit_blast.specs.Blasting.{IsNodeWord, AreWords}
use Rattle.bit_blast.specs.Roots.{AreApart}
use Rattle.bit_blast.proofs.ByteLaws.{HasBytes-older}

pub Keeps-grown : (old new : List Gate) (n : ℕ) → Grows old new n → Keeps old new
Keeps-grown old new n grows = record { least = grows.least; stays = grows.stays; runs = grows.runs }

IsByteWord-later : (old new : List Gate) (vars more : List ℕ) (x : ℕ) (w : List Wire) → Keeps old new → IsByteWord old vars x w → IsByteWord new (vars ++ more) x w
IsByteWord-later old new vars more x w kept was = record {
  inside = AreIn-later old new w kept.least was.inside;
  width_is = was.width_is;
  value_is = λ env g later bytes has.
      let P : List ℕ → Type 0 = λ xs. HasBytes env g new xs in
      was.value_is env g (more ++ later) bytes (HasBytes-older env g old new (vars ++ (more ++ later)) kept (subst P (append_assoc vars more later) has));
}

IsNodeWord-later : (old new : List Gate) (vars more : List ℕ) (nodes : List QNode) (j : ℕ) (w : List Wire) → Keeps old new → IsNodeWord old vars nodes j w → IsNodeWord new (vars ++ more) nodes j w
IsNodeWord-later old new vars more nodes j w kept was = record {
  inside = AreIn-later old new w kept.least was.inside;
  width_is = was.width_is;
  value_is = λ env v g later bytes valuation run has.
      let P : List ℕ → Type 0 = λ xs. HasBytes env g new xs in
      was.value_is env v g (more ++ later) bytes valuation (kept.runs g run) (HasBytes-older env g old new (vars ++ (more ++ later)) kept (subst P (append_assoc vars more later) has));
}

pub nothing_more : (vars : List ℕ) → vars ++ [] ≡ vars
nothing_more [] = refl
nothing_more (x ∷ vars) = ap (λ xs. x ∷ xs) (nothing_more vars)

-- more gates, and no new variable
pub AreWords-grown : (nodes : List QNode) (old new : List Gate) (vars : List ℕ) (bytes words : ℕ → Option (List Wire)) → Keeps old new → input_count new ≡ input_count old → AreWords nodes old vars bytes words → AreWords nodes new vars bytes words
AreWords-grown nodes old new vars bytes words kept same was = record {
  inputs = same ∙ was.inputs;
  apart = was.apart;
  bytes_known = was.bytes_known;
  bytes_are = λ x w found. (let P : List ℕ → Type 0 = λ xs. IsByteWord new xs x w in subst P (nothing_more vars) (IsByteWord-later old new vars [] x w kept (was.bytes_are x w found)));
  words_are = λ j w found. (let P : List ℕ → Type 0 = λ xs. IsNodeWord new xs nodes j w in subst P (nothing_more vars) (IsNodeWord-later old new vars [] nodes j w kept (was.words_are j w found)));
}

eq_true : (a b : ℕ) → a ≡ b → nat_eq a b ≡ true
eq_true a b h = grind (arith, nat_tests)

eq_false : (a b : ℕ) → (a ≡ b → ⊥) → nat_eq a b ≡ false
eq_false a b h = grind (arith, nat_tests)

now_known : (old next : ℕ → Option (List Wire)) (x : ℕ) (w : List Wire) → ((q : ℕ) → next q ≡ cond (nat_eq q x) (Some w) (old q)) → has_word next x ≡ true
now_known old next x w is = ap is_some (is x ∙ ap (λ b. cond b (Some w) (old x)) (eq_true x x refl))

still_known : (old next : ℕ → Option (List Wire)) (x : ℕ) (w : List Wire) → ((q : ℕ) → next q ≡ cond (nat_eq q x) (Some w) (old q)) → (q : ℕ) → has_word old q ≡ true → has_word next q ≡ true
still_known old next x w is q h = elim (cases_eq q x) [
  | inl same ↦ ap is_some (is q ∙ ap (λ b. cond b (Some w) (old q)) (eq_true q x same))
  | inr other ↦ ap is_some (is q ∙ ap (λ b. cond b (Some w) (old q)) (eq_false q x other)) ∙ h
]

-- a new variable
pub AreWords-byte : (nodes : List QNode) (old new : List Gate) (vars more : List ℕ) (bytes next words : ℕ → Option (List Wire)) (x : ℕ) (given w : List Wire) → Keeps old new → more ≡ vars ++ x ∷ [] → input_count new ≡ 8 * length more → IsByteWord new more x given → w ≡ given
    → ((q : ℕ) → next q ≡ cond (nat_eq q x) (Some w) (bytes q)) → has_word bytes x ≡ false → AreWords nodes old vars bytes words → AreWords nodes new more next words
AreWords-byte nodes old new vars more bytes next words x given w kept e count told copied is off was =
    let R : List Wire → Type 0 = λ t. IsByteWord new more x t in
    let this : IsByteWord new more x w = subst R (sym copied) told in
    record {
      inputs = count;
      apart = (let P : List ℕ → Type 0 = λ xs. AreApart xs in
          subst P (sym e) (all_pairs_push (λ (y z : ℕ). y ≢ z) vars x was.apart (λ k d lt same. false≢true (sym off ∙ ap (has_word bytes) (sym same) ∙ was.bytes_known k d lt))));
      bytes_known = (let P : List ℕ → Type 0 = λ xs. All (λ y. has_word next y ≡ true) xs in
          subst P (sym e) (All-push (λ (y : ℕ). has_word next y ≡ true) vars x (λ k d lt. still_known bytes next x w is (get_or vars k d) (was.bytes_known k d lt)) (now_known bytes next x w is)));
      bytes_are = λ q u found. elim (cases_eq q x) [
        | inl same ↦ (let here : Some w ≡ Some u = sym (is q ∙ ap (λ b. cond b (Some w) (bytes q)) (eq_true q x same)) ∙ found in
            let P : List Wire → Type 0 = λ t. IsByteWord new more q t in let Q : ℕ → Type 0 = λ t. IsByteWord new more t w in
            subst P (same_Some _ _ here) (subst Q (sym same) this))
        | inr other ↦ (let there : bytes q ≡ Some u = sym (is q ∙ ap (λ b. cond b (Some w) (bytes q)) (eq_false q x other)) ∙ found in
            let P : List ℕ → Type 0 = λ xs. IsByteWord new xs q u in subst P (sym e) (IsByteWord-later old new vars (x ∷ []) q u kept (was.bytes_are q u there)))
      ];
      words_are = λ j u found. (let P : List ℕ → Type 0 = λ xs. IsNodeWord new xs nodes j u in subst P (sym e) (IsNodeWord-later old new vars (x ∷ []) nodes j u kept (was.words_are j u found)));
    }

-- a new word
pub AreWords-node : (nodes : List QNode) (gates : List Gate) (vars : List ℕ) (bytes words next : ℕ → Option (List Wire)) (j : ℕ) (w : List Wire) → IsNodeWord gates vars nodes j w → ((q : ℕ) → next q ≡ cond (nat_eq q j) (Some w) (words q))
    → AreWords nodes gates vars bytes words → AreWords nodes gates vars bytes next
AreWords-node nodes gates vars bytes words next j w this is was = record {
  inputs = was.inputs;
  apart = was.apart;
  bytes_known = was.bytes_known;
  bytes_are = was.bytes_are;
  words_are = λ q u found. elim (cases_eq q j) [
    | inl same ↦ (let here : Some w ≡ Some u = sym (is q ∙ ap (λ b. cond b (Some w) (words q)) (eq_true q j same)) ∙ found in
        let P : List Wire → Type 0 = λ t. IsNodeWord gates vars nodes q t in let Q : ℕ → Type 0 = λ t. IsNodeWord gates vars nodes t w in
        subst P (same_Some _ _ here) (subst Q (sym same) this))
    | inr other ↦ was.words_are q u (sym (is q ∙ ap (λ b. cond b (Some w) (words q)) (eq_false q j other)) ∙ found)
  ];
}

-- an input node has the word of its variable
pub IsNodeWord-input : (gates : List Gate) (vars : List ℕ) (nodes : List QNode) (j x : ℕ) (w : List Wire) → slice_get nodes j ≡ Some (Input x) → IsByteWord gates vars x w → IsNodeWord gates vars nodes j w
IsNodeWord-input gates vars nodes j x w at was = record {
  inside = was.inside;
  width_is = λ ws widths. was.width_is ∙ sym (widths.at j (Input x) at);
  value_is = λ env v g later bytes valuation run has. was.value_is env g later bytes has ∙ sym (valuation.at j (Input x) at);
}

known : {X : Type 0} (o : Option X) → is_some o ≡ true → (x : X) × (o ≡ Some x)
known None h = absurd (false≢true h)
known (Some x) h = (x, refl)

value_as : (g : ℕ → Bool) (words : ℕ → Option (List Wire)) (v : ℕ → ℕ) (k : ℕ) → ((w : List Wire) → words k ≡ Some w → word g w ≡ v k) → value_in g words v k ≡ v k
value_as g words v k h = by (words k) refl
  where
    by : (o : Option (List Wire)) → words k ≡ o → option_map_or (word g) o (v k) ≡ v k
    by None e = refl
    by (Some w) e = h w e

width_as : (words : ℕ → Option (List Wire)) (ws : ℕ → ℕ) (k : ℕ) → ((w : List Wire) → words k ≡ Some w → length w ≡ ws k) → width_in words ws k ≡ ws k
width_as words ws k h = by (words k) refl
  where
    by : (o : Option (List Wire)) → words k ≡ o → option_map_or length o (ws k) ≡ ws k
    by None e = refl
    by (Some w) e = h w e

-- the word that a node's circuit gives
pub IsNodeWord-circuit : (gates : List Gate) (vars : List ℕ) (nodes : List QNode) (bytes words : ℕ → Option (List Wire)) (j : ℕ) (n : QNode) (w : List Wire) → IsTyped nodes → slice_get nodes j ≡ Some n → AreWords nodes gates vars bytes words
    → AreIn gates w → ((ws : ℕ → ℕ) → length w ≡ node_width (width_in words ws) n)
    → ((env v : ℕ → ℕ) (g : ℕ → Bool) → IsRun g gates → word g w ≡ node_value env (value_in g words v) n) → IsNodeWord gates vars nodes j w
IsNodeWord-circuit gates vars nodes bytes words j n w typed at was inside width value = record {
  inside = inside;
  width_is = λ ws widths. width ws ∙ node_width-same (width_in words ws) ws j n (typed.earlier j n at) (λ k lt. width_as words ws k (λ u found. (was.words_are k u found).width_is ws widths)) ∙ sym (widths.at j n at);
  value_is = λ env v g later bytes valuation run has.
      value env v g run ∙ node_value-same env (value_in g words v) v j n (typed.earlier j n at) (λ k lt. value_as g words v k (λ u found. (was.words_are k u found).value_is env v g later bytes valuation run has)) ∙ sym (valuation.at j n at);
}

operand_of : (nodes : List QNode) (gates : List Gate) (vars : List ℕ) (bytes words : ℕ → Option (List Wire)) (us : ℕ → ℕ) (a width : ℕ) → AreWidths us nodes → AreWords nodes gates vars bytes words → us a ≡ width → has_word words a ≡ true → IsOperandWord gates words a width
operand_of nodes gates vars bytes words us a width widths was same has =
    let (w, found) = known (words a) has in
    record { wires = w; found = found; width_is = (was.words_are a w found).width_is us widths ∙ same; inside = (was.words_are a w found).inside }

at_most_word : (w : ℕ) → IsWidth w → w ≤ 32
at_most_word w (inl h) = omega arith
at_most_word w (inr (inl h)) = omega arith
at_most_word w (inr (inr h)) = omega arith

first_of : (P : ℕ → Type 0) (x : ℕ) (xs : List ℕ) → All P (x ∷ xs) → P x
first_of P x xs h = h 0 0 (omega arith)

rest_after : (P : ℕ → Type 0) (x : ℕ) (xs : List ℕ) → All P (x ∷ xs) → All P xs
rest_after P x xs h k d lt = h (suc k) d (omega arith)

-- a node whose operands have their words is ready
pub is_ready : (nodes : List QNode) (gates : List Gate) (vars : List ℕ) (bytes words : ℕ → Option (List Wire)) (us : ℕ → ℕ) (n : QNode) → AreWidths us nodes → ((i : ℕ) → i < length nodes → IsWidth (us i)) → AreWords nodes gates vars bytes words
    → is_input n ≡ false → HasOperands nodes n → All (λ a. has_word words a ≡ true) (operands_of_node n) → IsReady gates words n
is_ready nodes gates vars bytes words us (Constant width value) widths all was other ops has = ops.1
is_ready nodes gates vars bytes words us (Input x) widths all was other ops has = absurd (false≢true (sym other))
is_ready nodes gates vars bytes words us (Alu op a b) widths all was other ops has =
    let P : ℕ → Type 0 = λ k. has_word words k ≡ true in
    (operand_of nodes gates vars bytes words us a 32 widths was (ops.0.is us widths) (first_of P a (b ∷ []) has), operand_of nodes gates vars bytes words us b 32 widths was (ops.1.is us widths) (first_of P b [] (rest_after P a (b ∷ []) has)))
is_ready nodes gates vars bytes words us (Test op a b) widths all was other ops has =
    let P : ℕ → Type 0 = λ k. has_word words k ≡ true in
    (operand_of nodes gates vars bytes words us a 32 widths was (ops.0.is us widths) (first_of P a (b ∷ []) has), operand_of nodes gates vars bytes words us b 32 widths was (ops.1.is us widths) (first_of P b [] (rest_after P a (b ∷ []) has)))
is_ready nodes gates vars bytes words us (Not a) widths all was other ops has =
    let P : ℕ → Type 0 = λ k. has_word words k ≡ true in operand_of nodes gates vars bytes words us a 1 widths was (ops.is us widths) (first_of P a [] has)
is_ready nodes gates vars bytes words us (Both a b) widths all was other ops has =
    let P : ℕ → Type 0 = λ k. has_word words k ≡ true in
    (operand_of nodes gates vars bytes words us a 1 widths was (ops.0.is us widths) (first_of P a (b ∷ []) has), operand_of nodes gates vars bytes words us b 1 widths was (ops.1.is us widths) (first_of P b [] (rest_after P a (b ∷ []) has)))
is_ready nodes gates vars bytes words us (Pick c a b) widths all was other ops has =
    let P : ℕ → Type 0 = λ k. has_word words k ≡ true in
    let later = rest_after P c (a ∷ b ∷ []) has in (
      operand_of nodes gates vars bytes words us c 1 widths was (ops.0.is us widths) (first_of P c (a ∷ b ∷ []) has),
      record {
        width = us b;
        most = at_most_word (us b) (all b ops.1.right);
        left = operand_of nodes gates vars bytes words us a (us b) widths was (ops.1.same us widths) (first_of P a (b ∷ []) later);
        right = operand_of nodes gates vars bytes words us b (us b) widths was refl (first_of P b [] (rest_after P a (b ∷ []) later));
      },
    )
is_ready nodes gates vars bytes words us (Join b0 b1 b2 b3) widths all was other ops has =
    let P : ℕ → Type 0 = λ k. has_word words k ≡ true in
    let h1 = rest_after P b0 (b1 ∷ b2 ∷ b3 ∷ []) has in
    let h2 = rest_after P b1 (b2 ∷ b3 ∷ []) h1 in
    let h3 = rest_after P b2 (b3 ∷ []) h2 in (
      operand_of nodes gates vars bytes words us b0 8 widths was (ops.0.is us widths) (first_of P b0 (b1 ∷ b2 ∷ b3 ∷ []) has),
      operand_of nodes gates vars bytes words us b1 8 widths was (ops.1.is us widths) (first_of P b1 (b2 ∷ b3 ∷ []) h1),
      operand_of nodes gates vars bytes words us b2 8 widths was (ops.2.is us widths) (first_of P b2 (b3 ∷ []) h2),
      operand_of nodes gates vars bytes words us b3 8 widths was (ops.3.is us widths) (first_of P b3 [] h3),
    )
is_ready nodes gates vars bytes words us (Byte of k) widths all was other ops has =
    let P : ℕ → Type 0 = λ k. has_word words k ≡ true in (operand_of nodes gates vars bytes words us of 32 widths was (ops.0.is us widths) (first_of P of [] has), ops.1)

-- the same for a typed list of nodes
pub ready_node : (nodes : List QNode) (gates : List Gate) (vars : List ℕ) (bytes words : ℕ → Option (List Wire)) (j : ℕ) (n : QNode) → IsTyped nodes → slice_get nodes j ≡ Some n → AreWords nodes gates vars bytes words
    → is_input n ≡ false → All (λ a. has_word words a ≡ true) (operands_of_node n) → IsReady gates words n
ready_node nodes gates vars bytes words j n typed at was other has =
    let us : ℕ → ℕ = slice_index (widths_of nodes) in
    let widths : AreWidths us nodes = widths_exist nodes typed in
    is_ready nodes gates vars bytes words us n widths (known_width us nodes typed widths) was other (typed_operands us nodes typed widths j n at) has

pub no_input : (n : QNode) → ((x : ℕ) → n ≡ Input x → ⊥) → is_input n ≡ false
no_input (Constant w x) h = refl
no_input (Input x) h = absurd (h x refl)
no_input (Alu op a b) h = refl
no_input (Test op a b) h = refl
no_input (Not a) h = refl
no_input (Both a b) h = refl
no_input (Pick c a b) h = refl
no_input (Join a b c d) h = refl
no_input (Byte a k) h = refl
