-- The variables of nodes, and all their valuations.
use Rattle.std.proofs.Common.{◌≡◌, ℕ, zero, suc, ◌*◌, ◌^◌, ◌<◌, ◌≤◌, Bool, true, false, ◌||◌, cond, List, [], ◌∷◌, ◌++◌, length, get_or, Some, refl, sym, ap, ◌∙◌, subst, inl, inr, arith}
use Rattle.std.specs.Prelude.{slice_get, slice_index, nat_eq, nat_lt, Contains, All}
use Rattle.std.specs.Bool.{MatchBool}
use Rattle.std.specs.List.{list_any}
use Rattle.std.proofs.Math.Nat.{pow-le-pow_right}
use Rattle.std.proofs.lemmas.Bool.{cases_Bool, cases_lt, false≢true}
use Rattle.std.proofs.lemmas.Bool.Decides.{nat_tests}
use Rattle.std.proofs.lemmas.List.{get_or_default, get_or_append_left, get_or_push, length_push}
use Rattle.std.proofs.lemmas.List.Elements.{All-push, Contains-push}
use Rattle.indexmap.proofs.CallerLemmas.{Contains-list_any}
use Rattle.bv_expr.specs.declared.q_node.QNode.{QNode}
use Rattle.bv_expr.specs.declared.q_node.QNode.TheVariants.{Constant, Input, Alu, Test, Not, Both, Pick, Join, Byte}
use Rattle.bv_expr.proofs.Lists.{in_longer, old_or_last}
use Rattle.bit_blast.specs.Roots.{AreApart}
use Rattle.query_ask.specs.Questions.{Asked, IsQuestion, meets}
use Rattle.query_ask.specs.Formulas.{CanBeMet}
use Rattle.query_ask.specs.Answers.{Occurs, AreVariables}
use Rattle.query_ask.specs.Placing.{placed, byte_of_number}
use Rattle.query_ask.specs.Trying.{with_variable}
use Rattle.query_ask.proofs.PlacingLaws.{number_of, number_of-lt, number_placed, numbered_by}
use Rattle.query_ask.proofs.MeetingLaws.{meets_same, meets_below}

same_test : (a b : ℕ) → a ≡ b → nat_eq a b ≡ true
same_test a b h = grind (arith, nat_tests)

tested : (a b : ℕ) → nat_eq a b ≡ true → a ≡ b
tested a b h = grind (arith, nat_tests, h)

or_true : (b : Bool) → (b || true) ≡ true
or_true true = refl
or_true false = refl

found : (x : ℕ) (xs : List ℕ) (i d : ℕ) → i < length xs → get_or xs i d ≡ x → list_any (nat_eq x) xs ≡ true
found x [] i d lt e = absurd (omega (arith, lt))
found x (y ∷ ys) zero d lt e = ap (λ (b : Bool). b || list_any (nat_eq x) ys) (same_test x y (sym e))
found x (y ∷ ys) (suc i) d lt e = ap (λ (b : Bool). nat_eq x y || b) (found x ys i d (omega (arith, lt)) e) ∙ or_true (nat_eq x y)

apart_push : (xs : List ℕ) (x : ℕ) → AreApart xs → list_any (nat_eq x) xs ≡ false → AreApart (xs ++ x ∷ [])
apart_push xs x apart off i j d before lt = elim (cases_lt j (length xs)) [
  | inl low ↦ rw (get_or_append_left xs (x ∷ []) d i (omega (arith, before, low))) (rw (get_or_append_left xs (x ∷ []) d j low) (apart i j d before low))
  | inr high ↦ (let last : j ≡ length xs = omega (arith, high, lt, length_push xs x) in
      rw (get_or_append_left xs (x ∷ []) d i (omega (arith, before, last))) (rw (get_or_push xs x d j (sym last))
      (λ same. absurd (false≢true (sym off ∙ found x xs i d (omega (arith, before, last)) same)))))
]

pub no_variables : (nodes : List QNode) (variables : List ℕ) → nodes ≡ [] → variables ≡ [] → AreVariables nodes variables
no_variables [] [] e none = record {
  apart = λ i j d before lt. absurd (omega (arith, lt));
  occur = λ i d lt. absurd (omega (arith, lt));
  all = λ i x h. cc;
}
no_variables (n ∷ nodes) variables e none = cc
no_variables [] (x ∷ variables) e none = cc

occur_longer : (nodes : List QNode) (n : QNode) (variables : List ℕ) → All (Occurs nodes) variables → All (Occurs (nodes ++ n ∷ [])) variables
occur_longer nodes n variables all i d lt =
    let was = all i d lt in
    record { at = was.at; here = in_longer nodes (n ∷ []) was.at (Input (get_or variables i d)) was.here }

pub Contains-longer : (xs : List ℕ) (y x : ℕ) → Contains xs x → Contains (xs ++ y ∷ []) x
Contains-longer xs y x c = (c.0, omega (arith, c.1, length_push xs y), get_or_append_left xs (y ∷ []) x c.0 c.1 ∙ c.2)

last_input : (nodes : List QNode) (x : ℕ) → slice_get (nodes ++ Input x ∷ []) (length nodes) ≡ Some (Input x)
last_input [] x = refl
last_input (n ∷ nodes) x = last_input nodes x

same_variable : (x y : ℕ) → Input x ≡ Input y → x ≡ y
same_variable x y e = cc

-- a node that is no variable
no_more : (nodes : List QNode) (n : QNode) (variables : List ℕ) → AreVariables nodes variables → ((x : ℕ) → Input x ≡ n → ⊥) → AreVariables (nodes ++ n ∷ []) variables
no_more nodes n variables was other = record {
  apart = was.apart;
  occur = occur_longer nodes n variables was.occur;
  all = λ i x h. elim (old_or_last nodes n i (Input x) h) [ inl old ↦ was.all i x old | inr last ↦ absurd (other x last.1) ];
}

-- one variable
one_more_variable : (nodes : List QNode) (y : ℕ) (variables : List ℕ) → AreVariables nodes variables → AreVariables (nodes ++ Input y ∷ []) (cond (list_any (nat_eq y) variables) variables (variables ++ y ∷ []))
one_more_variable nodes y variables was = elim (cases_Bool (list_any (nat_eq y) variables)) [
  | inl on ↦ (let stays : variables ≡ cond (list_any (nat_eq y) variables) variables (variables ++ y ∷ []) = sym (ap (λ (b : Bool). cond b variables (variables ++ y ∷ [])) on) in
      subst (λ (xs : List ℕ). AreVariables (nodes ++ Input y ∷ []) xs) stays (record {
        apart = was.apart;
        occur = occur_longer nodes (Input y) variables was.occur;
        all = λ i x h. elim (old_or_last nodes (Input y) i (Input x) h) [
          | inl old ↦ was.all i x old
          | inr last ↦ subst (Contains variables) (sym (same_variable x y last.1)) (Contains-list_any nat_eq tested variables y on)
        ];
      }))
  | inr off ↦ (let grows : variables ++ y ∷ [] ≡ cond (list_any (nat_eq y) variables) variables (variables ++ y ∷ []) = sym (ap (λ (b : Bool). cond b variables (variables ++ y ∷ [])) off) in
      subst (λ (xs : List ℕ). AreVariables (nodes ++ Input y ∷ []) xs) grows (record {
        apart = apart_push variables y was.apart off;
        occur = All-push (Occurs (nodes ++ Input y ∷ [])) variables y (occur_longer nodes (Input y) variables was.occur) (record { at = length nodes; here = last_input nodes y });
        all = λ i x h. elim (old_or_last nodes (Input y) i (Input x) h) [
          | inl old ↦ Contains-longer variables y x (was.all i x old)
          | inr last ↦ subst (Contains (variables ++ y ∷ [])) (sym (same_variable x y last.1)) (Contains-push variables y)
        ];
      }))
]

pub variables_more : (nodes : List QNode) (n : QNode) (variables : List ℕ) → AreVariables nodes variables → AreVariables (nodes ++ n ∷ []) (with_variable variables n)
variables_more nodes (Constant width value) variables was = no_more nodes (Constant width value) variables was (λ x e. cc)
variables_more nodes (Input y) variables was = one_more_variable nodes y variables was
variables_more nodes (Alu op a b) variables was = no_more nodes (Alu op a b) variables was (λ x e. cc)
variables_more nodes (Test c a b) variables was = no_more nodes (Test c a b) variables was (λ x e. cc)
variables_more nodes (Not a) variables was = no_more nodes (Not a) variables was (λ x e. cc)
variables_more nodes (Both a b) variables was = no_more nodes (Both a b) variables was (λ x e. cc)
variables_more nodes (Pick p x y) variables was = no_more nodes (Pick p x y) variables was (λ z e. cc)
variables_more nodes (Join a b c d) variables was = no_more nodes (Join a b c d) variables was (λ x e. cc)
variables_more nodes (Byte a k) variables was = no_more nodes (Byte a k) variables was (λ x e. cc)

-- the values of a number meet the question where its bytes do
pub numbered_meet : (q : Asked) (number : ℕ) (vars bytes values : List ℕ) → IsQuestion q → ((i : ℕ) → i < length vars → slice_index bytes i ≡ byte_of_number number i) → ((k : ℕ) → k < q.vars → slice_index values k ≡ placed (slice_index bytes) vars k)
    → meets (slice_index values) q ≡ meets (placed (byte_of_number number) vars) q
numbered_meet q number vars bytes values is bytes_are placed_are =
    meets_below q (slice_index values) (placed (byte_of_number number) vars) is (λ k lt. placed_are k lt ∙ numbered_by number vars (slice_index bytes) k bytes_are)

-- where no number meets it no bytes do
pub none_meets : (q : Asked) (vars : List ℕ) (end : ℕ) → IsQuestion q → AreVariables q.nodes vars → end ≡ 2 ^ (8 * length vars) → ((n : ℕ) → n < end → meets (placed (byte_of_number n) vars) q ≡ false) → CanBeMet q → ⊥
none_meets q vars end is are all none m =
    let n = number_of m.env vars in
    let same : meets (placed (byte_of_number n) vars) q ≡ meets m.env q = meets_same q (placed (byte_of_number n) vars) m.env is (record {
      at = λ i x h. let c = are.all i x h in number_placed m.env vars c.0 x m.bytes c.1 (get_or_default vars c.0 0 x c.1 ∙ c.2);
    }) in
    false≢true (sym (none n (rw all (number_of-lt m.env vars m.bytes))) ∙ same ∙ m.met)

le-trans-lt : (a b c : ℕ) → a < b → b ≤ c → a < c
le-trans-lt a b c h k = omega (arith, h, k)

-- from eight variables on the valuations are more than any budget
pub many_right : (count budget : ℕ) (P : Type 0) → 8 ≤ count → budget < 2 ^ 64 → MatchBool (nat_lt count 8) P (budget < 2 ^ (8 * count))
many_right count budget P most lt =
    let off : nat_lt count 8 ≡ false = grind (arith, nat_tests, most) in
    let bits : 64 ≤ 8 * count = omega (arith, most) in
    let wide : 2 ^ 64 ≤ 2 ^ (8 * count) = pow-le-pow_right {n = 2} (omega arith) {i = 64} {j = 8 * count} bits in
    let here : budget < 2 ^ (8 * count) = le-trans-lt budget (2 ^ 64) (2 ^ (8 * count)) lt wide in
    let Q : Bool → Type 0 = λ b. MatchBool b P (budget < 2 ^ (8 * count)) in
    subst Q (sym off) here
