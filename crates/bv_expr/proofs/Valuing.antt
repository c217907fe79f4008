-- What is gathered from the first node on is what its rule asks for, and nothing else is.
use Rattle.std.proofs.Common.{◌≡◌, ℕ, zero, suc, ◌+◌, ◌<◌, List, [], ◌∷◌, length, get_or, take, Some, refl, ap, ◌∙◌, sym, subst, arith, fold}
use Rattle.std.specs.Prelude.{slice_get, slice_index, slice_index_or}
use Rattle.std.proofs.lemmas.Option.{slice_get-get_or}
use Rattle.std.proofs.lemmas.List.{get_or_append_left, get_or_push, length_push}
use Rattle.bv_expr.specs.declared.q_node.QNode.{QNode}
use Rattle.bv_expr.specs.declared.q_node.QNode.TheVariants.{Input}
use Rattle.bv_expr.specs.Nodes.{node_value, node_width, IsValuation, AreWidths}
use Rattle.bv_expr.specs.Typing.{HasEarlier, IsTyped}
use Rattle.bv_expr.specs.Valuations.{with_more, gathered, values_of, widths_of}
use Rattle.bv_expr.proofs.Lists.{in_whole}
use Rattle.bv_expr.proofs.NodeLaws.{node_value-same, node_width-same}

-- a rule that looks at operands alone
pub record IsLocal {X : Type 0} (rule : (ℕ → X) → QNode → X) : Type 0 where
  pub same : (v w : ℕ → X) (i : ℕ) (n : QNode) → HasEarlier i n → ((k : ℕ) → k < i → v k ≡ w k) → rule v n ≡ rule w n

pub value_is_local : (env : ℕ → ℕ) → IsLocal (node_value env)
value_is_local env = record { same = node_value-same env }

pub width_is_local : IsLocal node_width
width_is_local = record { same = node_width-same }

module _ {X : Type 0} (none : X) (rule : (ℕ → X) → QNode → X) (local : IsLocal rule) where
  at : List X → ℕ → X
  at xs k = slice_index_or xs k none

  front : (xs : List X) (nodes : List QNode) (i : ℕ) → i < length xs → slice_index_or (fold (with_more none rule) xs nodes) i none ≡ slice_index_or xs i none
  front xs [] i lt = refl
  front xs (n ∷ nodes) i lt =
      let x = rule (λ k. slice_index_or xs k none) n in
      front (with_more none rule xs n) nodes i (omega (arith, length_push xs x)) ∙ get_or_append_left xs (x ∷ []) none i lt

  rest : (xs : List X) (nodes : List QNode) (start : ℕ) → length xs ≡ start → ((k : ℕ) (n : QNode) → slice_get nodes k ≡ Some n → HasEarlier (start + k) n)
      → (k : ℕ) (n : QNode) → slice_get nodes k ≡ Some n
      → slice_index_or (fold (with_more none rule) xs nodes) (start + k) none ≡ rule (λ j. slice_index_or (fold (with_more none rule) xs nodes) j none) n
  rest xs [] start e earlier k n h = cc
  rest xs (m ∷ nodes) start e earlier zero n h =
      let x = rule (λ k. slice_index_or xs k none) m in
      let long = length_push xs x in
      let same : m ≡ n = cc in
      let here : start + 0 ≡ start = omega arith in
      rw here (front (with_more none rule xs m) nodes start (omega arith)
      ∙ get_or_push xs x none start e
      ∙ local.same (λ k. slice_index_or xs k none) (λ j. slice_index_or (fold (with_more none rule) xs (m ∷ nodes)) j none) (start + 0) m (earlier 0 m refl)
      (λ i lt. sym (front xs (m ∷ nodes) i (omega arith)))
      ∙ ap (rule (λ j. slice_index_or (fold (with_more none rule) xs (m ∷ nodes)) j none)) same)
  rest xs (m ∷ nodes) start e earlier (suc k) n h =
      let x = rule (λ k. slice_index_or xs k none) m in
      let step : start + suc k ≡ start + 1 + k = omega arith in
      rw step (rest (with_more none rule xs m) nodes (start + 1) (omega (arith, length_push xs x))
      (λ j p q. let P : ℕ → Type 0 = λ t. HasEarlier t p in subst P (omega arith) (earlier (suc j) p q)) k n h)

  -- each node has what the rule gives from what was gathered
  pub gathered_at : (nodes : List QNode) → ((i : ℕ) (n : QNode) → slice_get nodes i ≡ Some n → HasEarlier i n)
      → (i : ℕ) (n : QNode) → slice_get nodes i ≡ Some n → slice_index_or (gathered none rule nodes) i none ≡ rule (λ j. slice_index_or (gathered none rule nodes) j none) n
  unfolding gathered
  gathered_at nodes earlier i n h =
      let e : 0 + i ≡ i = omega arith in
      let P : ℕ → Type 0 = λ t. slice_index_or (fold (with_more none rule) [] nodes) t none ≡ rule (λ j. slice_index_or (fold (with_more none rule) [] nodes) j none) n in
      subst P e (rest [] nodes 0 refl (λ k p q. let Q : ℕ → Type 0 = λ t. HasEarlier t p in subst Q (omega arith) (earlier k p q)) i n h)

  only_until : (v w : ℕ → X) (nodes : List QNode) → ((i : ℕ) (n : QNode) → slice_get nodes i ≡ Some n → HasEarlier i n)
      → ((i : ℕ) (n : QNode) → slice_get nodes i ≡ Some n → v i ≡ rule v n) → ((i : ℕ) (n : QNode) → slice_get nodes i ≡ Some n → w i ≡ rule w n)
      → (k i : ℕ) → i < k → i < length nodes → v i ≡ w i
  only_until v w nodes earlier p q zero i lt here = absurd (omega arith)
  only_until v w nodes earlier p q (suc k) i lt here =
      let n = get_or nodes i (Input 0) in
      let h = slice_get-get_or nodes i (Input 0) here in
      p i n h ∙ local.same v w i n (earlier i n h) (λ j l. only_until v w nodes earlier p q k j (omega arith) (omega arith)) ∙ sym (q i n h)

  -- and only that
  pub only_one : (v w : ℕ → X) (nodes : List QNode) → ((i : ℕ) (n : QNode) → slice_get nodes i ≡ Some n → HasEarlier i n)
      → ((i : ℕ) (n : QNode) → slice_get nodes i ≡ Some n → v i ≡ rule v n) → ((i : ℕ) (n : QNode) → slice_get nodes i ≡ Some n → w i ≡ rule w n)
      → (i : ℕ) → i < length nodes → v i ≡ w i
  only_one v w nodes earlier p q i here = only_until v w nodes earlier p q (suc i) i (omega arith) here

-- each choice of input bytes has a valuation
pub values_exist : (env : ℕ → ℕ) (nodes : List QNode) → IsTyped nodes → IsValuation env (slice_index (values_of env nodes)) nodes
values_exist env nodes typed = record { at = gathered_at 0 (node_value env) (value_is_local env) nodes typed.earlier }

-- and no two
pub one_valuation : (env v w : ℕ → ℕ) (nodes : List QNode) → ((i : ℕ) (n : QNode) → slice_get nodes i ≡ Some n → HasEarlier i n) → IsValuation env v nodes → IsValuation env w nodes
    → (i : ℕ) → i < length nodes → v i ≡ w i
one_valuation env v w nodes earlier p q i here = only_one 0 (node_value env) (value_is_local env) v w nodes earlier p.at q.at i here

-- a valuation of all nodes is one of the first ones
pub front_values : (env v : ℕ → ℕ) (nodes : List QNode) (k : ℕ) → IsValuation env v nodes → IsValuation env v (take k nodes)
front_values env v nodes k was = record { at = λ i n h. was.at i n (in_whole nodes k i n h) }

-- the nodes have widths
pub widths_exist : (nodes : List QNode) → IsTyped nodes → AreWidths (slice_index (widths_of nodes)) nodes
widths_exist nodes typed = record { at = gathered_at 0 node_width width_is_local nodes typed.earlier }
