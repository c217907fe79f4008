-- The nodes that are looked at: a node and those on which it depends, each once.
use Rattle.std.proofs.Common.{◌≡◌, ℕ, zero, suc, ◌+◌, ◌<◌, ◌≤◌, Bool, true, false, true≢false, List, [], ◌∷◌, ◌++◌, length, Some, Contains, refl, sym, ap, ◌∙◌, subst, inl, inr, arith}
use Rattle.std.specs.Prelude.{◌↔◌, ◌⊎◌, IsTrue, leb, slice_get, slice_index, nat_eq, if◌then◌else◌}
use Rattle.std.specs.List.{list_any, IsDistinct}
use Rattle.std.specs.Cmp.{nat_eq_equiv}
use Rattle.std.proofs.lemmas.Bool.{leb-true, le-leb}
use Rattle.std.specs.Option.{option_map_or}
use Rattle.std.proofs.lemmas.List.{append-nil, append_assoc, length-append, get_or_append_left, get_or_default}
use Rattle.std.proofs.lemmas.Bool.Decides.{Decides-eqb}
use Rattle.std.proofs.lemmas.List.Elements.{Contains-get_or, Contains-append_left, Contains-append_right, Contains-append_cases}
use Rattle.std.proofs.lemmas.Map.Made.{is_member-Decides, length-le_from_is_member}
use Rattle.indexmap.specs.IndexSet.{insert_key, insert_all}
use Rattle.bv_expr.specs.Walk.{operands_of_node}
use Rattle.bv_expr.specs.Typing.{IsTyped, HasEarlier}
use Rattle.bv_expr.specs.declared.q_node.QNode.{QNode}
use Rattle.bv_expr.specs.declared.q_node.QNode.TheVariants.{Constant, Input, Alu, Test, Not, Both, Pick, Join, Byte}
use Rattle.bv_passes.specs.Knowing.{HasFewNodes, IsLooking}

-- the elements of a list with one more in front
in_front : (P : ℕ → Type 0) (x : ℕ) (xs : List ℕ) → P x → ((a : ℕ) → Contains xs a → P a) → (a : ℕ) → Contains (x ∷ xs) a → P a
in_front P x xs first rest a (zero, lt, e) = subst P e first
in_front P x xs first rest a (suc k, lt, e) = rest a (k, omega (arith, lt), e)

in_none : (P : ℕ → Type 0) (a : ℕ) → Contains [] a → P a
in_none P a h = absurd (omega (arith, h.1))

-- operands stand earlier
pub earlier_operand : (i : ℕ) (n : QNode) → HasEarlier i n → (a : ℕ) → Contains (operands_of_node n) a → a < i
earlier_operand i (Constant w x) h = in_none (λ a. a < i)
earlier_operand i (Input x) h = in_none (λ a. a < i)
earlier_operand i (Alu op a b) h = in_front (λ k. k < i) a (b ∷ []) h.0 (in_front (λ k. k < i) b [] h.1 (in_none (λ k. k < i)))
earlier_operand i (Test op a b) h = in_front (λ k. k < i) a (b ∷ []) h.0 (in_front (λ k. k < i) b [] h.1 (in_none (λ k. k < i)))
earlier_operand i (Not a) h = in_front (λ k. k < i) a [] h (in_none (λ k. k < i))
earlier_operand i (Both a b) h = in_front (λ k. k < i) a (b ∷ []) h.0 (in_front (λ k. k < i) b [] h.1 (in_none (λ k. k < i)))
earlier_operand i (Pick c a b) h = in_front (λ k. k < i) c (a ∷ b ∷ []) h.0 (in_front (λ k. k < i) a (b ∷ []) h.1 (in_front (λ k. k < i) b [] h.2 (in_none (λ k. k < i))))
earlier_operand i (Join a b c d) h = in_front (λ k. k < i) a (b ∷ c ∷ d ∷ []) h.0 (in_front (λ k. k < i) b (c ∷ d ∷ []) h.1 (in_front (λ k. k < i) c (d ∷ []) h.2 (in_front (λ k. k < i) d [] h.3 (in_none (λ k. k < i)))))
earlier_operand i (Byte a k) h = in_front (λ j. j < i) a [] h (in_none (λ j. j < i))

-- a list with keys put in has its own, those, and no other, and its own stay in their places
pub record HasKeys (ks xs new : List ℕ) : Type 0 where
  pub more : List ℕ
  pub begins : new ≡ ks ++ more
  pub all : (a : ℕ) → Contains xs a → Contains new a
  pub only : (a : ℕ) → Contains new a → Contains ks a ⊎ Contains xs a

-- whether a list has a key
holds : (ks : List ℕ) (x : ℕ) → list_any (nat_eq x) ks ≡ true → Contains ks x
holds ks x h = (is_member-Decides Decides-eqb ks x).0 h

one_key : (ks : List ℕ) (x : ℕ) (there : Bool) → list_any (nat_eq x) ks ≡ there → HasKeys ks (x ∷ []) (if there then ks else ks ++ x ∷ [])
one_key ks x true h = record {
  more = [];
  begins = sym (append-nil ks);
  all = in_front (λ a. Contains ks a) x [] (holds ks x h) (in_none (λ a. Contains ks a));
  only = λ a has. inl has;
}
one_key ks x false h = record {
  more = x ∷ [];
  begins = refl;
  all = Contains-append_right ks (x ∷ []);
  only = Contains-append_cases ks (x ∷ []);
}

pub all_keys : (ks xs : List ℕ) → HasKeys ks xs (insert_all nat_eq ks xs)
all_keys ks [] = record {
  more = [];
  begins = sym (append-nil ks);
  all = λ a has. in_none (λ k. Contains ks k) a has;
  only = λ a has. inl has;
}
all_keys ks (x ∷ xs) =
    let one = one_key ks x (list_any (nat_eq x) ks) refl in
    let rest = all_keys (insert_key nat_eq ks x) xs in
    let begins : insert_all nat_eq ks (x ∷ xs) ≡ ks ++ (one.more ++ rest.more) = rest.begins ∙ ap (λ l. l ++ rest.more) one.begins ∙ append_assoc ks one.more rest.more in
    record {
      more = one.more ++ rest.more;
      begins = begins;
      all = in_front (λ a. Contains (insert_all nat_eq ks (x ∷ xs)) a) x xs
          (let P : List ℕ → Type 0 = λ l. Contains l x in
          subst P (sym rest.begins) (Contains-append_left _ rest.more x (one.all x (0, omega arith, refl)))) rest.all;
      only = λ a has. elim (rest.only a has) [
        | inl before ↦ elim (one.only a before) [
          | inl old ↦ inl old
          | inr new ↦ inr (Contains-append_left (x ∷ []) xs a new)
        ]
        | inr after ↦ inr (Contains-append_right (x ∷ []) xs a after)
      ];
    }

last_or_before : (k m : ℕ) → k < m + 1 → (k < m) ⊎ (k ≡ m)
last_or_before k m lt = grind arith

-- one more node is looked at
pub looked_at : (nodes : List QNode) (i : ℕ) (seen : List ℕ) (looked : ℕ) (n : QNode) → IsTyped nodes → looked < length seen → slice_get nodes (slice_index seen looked) ≡ Some n
    → IsLooking nodes i seen looked → IsLooking nodes i (insert_all nat_eq seen (operands_of_node n)) (looked + 1)
looked_at nodes i seen looked n typed lt at is =
    let keys = all_keys seen (operands_of_node n) in
    let new : List ℕ = insert_all nat_eq seen (operands_of_node n) in
    let here : Contains seen (slice_index seen looked) = Contains-get_or seen looked 0 lt in
    let P : ℕ → List ℕ → Type 0 = λ a l. Contains l a in
    let old : (a : ℕ) → Contains seen a → Contains new a = λ a h. subst (P a) (sym keys.begins) (Contains-append_left seen keys.more a h) in
    let stays : (k : ℕ) → k < length seen → slice_index new k ≡ slice_index seen k = λ k h. ap (λ l. slice_index l k) keys.begins ∙ get_or_append_left seen keys.more 0 k h in
    let longer : length new ≡ length seen + length keys.more = ap length keys.begins ∙ length-append seen keys.more in
    record {
      within = omega (arith, lt, longer);
      inside = λ k has. elim (keys.only k has) [
        | inl before ↦ is.inside k before
        | inr operand ↦ omega (arith, earlier_operand (slice_index seen looked) n (typed.earlier (slice_index seen looked) n at) k operand, is.inside (slice_index seen looked) here)
      ];
      itself = old i is.itself;
      finished = λ k few m found a has. elim (last_or_before k looked few) [
        | inl before ↦ old a (is.finished k before m (ap (slice_get nodes) (sym (stays k (omega (arith, before, lt)))) ∙ found) a has)
        | inr last ↦
            let place : slice_index new k ≡ slice_index seen looked = ap (slice_index new) last ∙ stays looked lt in
            let same : operands_of_node m ≡ operands_of_node n = ap (λ o. option_map_or operands_of_node o []) (sym found ∙ ap (slice_get nodes) place ∙ at) in
            keys.all a (subst (P a) same has)
      ];
      needed = λ list closed itself k has. elim (keys.only k has) [
        | inl before ↦ is.needed list closed itself k before
        | inr operand ↦ closed (slice_index seen looked) n (is.needed list closed itself (slice_index seen looked) here) at k operand
      ];
    }

-- at first only the node itself is seen
pub begun : (nodes : List QNode) (i : ℕ) → i < length nodes → IsLooking nodes i (i ∷ []) 0
begun nodes i lt = record {
  within = omega arith;
  inside = in_front (λ k. k < length nodes) i [] lt (in_none (λ k. k < length nodes));
  itself = (0, omega arith, refl);
  finished = λ k none m found a has. absurd (omega (arith, none));
  needed = λ list closed itself. in_front (λ k. Contains list k) i [] itself (in_none (λ k. Contains list k));
}

-- where all that are seen were looked at, they are the nodes that are needed
pub are_few : (nodes : List QNode) (m i : ℕ) (seen : List ℕ) (looked : ℕ) → IsLooking nodes i seen looked → length seen ≤ looked → looked ≤ m → HasFewNodes nodes m i
are_few nodes m i seen looked is all le = record {
  list = seen;
  few = omega (arith, all, le);
  itself = is.itself;
  closed = λ k n has at.
      let P : ℕ → Type 0 = λ j. slice_get nodes j ≡ Some n in
      let place : slice_index seen has.0 ≡ k = get_or_default seen has.0 0 k has.1 ∙ has.2 in
      is.finished has.0 (omega (arith, has.1, all)) n (subst P (sym place) at);
}

-- no more are seen than are needed
pub seen_few : (nodes : List QNode) (m i : ℕ) (seen : List ℕ) (looked : ℕ) → IsLooking nodes i seen looked → IsDistinct nat_eq seen → HasFewNodes nodes m i → length seen ≤ m
seen_few nodes m i seen looked is distinct few =
    let le = length-le_from_is_member nat_eq_equiv seen few.list distinct
    (λ q h. (is_member-Decides Decides-eqb few.list q).1 (is.needed few.list few.closed few.itself q ((is_member-Decides Decides-eqb seen q).0 h))) in
    omega (arith, le, few.few)

-- a test for at most m decides what holds exactly of at most m
pub is_test : {P : Type 0} (n m : ℕ) → (n ≤ m → P) → (P → n ≤ m) → IsTrue (leb n m) ↔ P
is_test n m there back = (λ h. there (leb-true n m h), λ p. le-leb n m (back p))

-- where more than m are there, the answer is no
pub is_none : {P : Type 0} (n m : ℕ) → m < n → (P → n ≤ m) → IsTrue false ↔ P
is_none n m lt back = (λ h. absurd (true≢false (sym h)), λ p. absurd (omega (arith, lt, back p)))
