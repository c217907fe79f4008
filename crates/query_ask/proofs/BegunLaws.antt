-- Conjuncts that are kept say what all of them say.
use Rattle.std.proofs.Common.{◌≡◌, ℕ, suc, ◌<◌, Bool, true, false, cond, ◌&&◌, ◌||◌, List, [], ◌∷◌, ◌++◌, length, get_or, refl, sym, ap, ◌∙◌, subst, inl, inr, arith}
use Rattle.std.specs.Prelude.{slice_index, nat_eq, All, ◌==◌}
use Rattle.std.specs.List.{list_all, list_any}
use Rattle.std.proofs.lemmas.Bool.{cases_Bool, false≢true}
use Rattle.std.proofs.lemmas.Bool.Decides.{nat_tests}
use Rattle.std.proofs.lemmas.List.Elements.{All-push}
use Rattle.std.proofs.lemmas.List.Folds.{list_all-append}
use Rattle.bv_expr.specs.declared.q_node.QNode.{QNode}
use Rattle.bv_expr.specs.Nodes.{HasWidth}
use Rattle.bv_expr.specs.Typing.{IsTyped}
use Rattle.bv_expr.specs.Valuations.{values_of}
use Rattle.bit_blast.proofs.Operands.{all_none}
use Rattle.query_ask.specs.Copies.{AreCopies, HasVars, IsCopying, KeepsNumbers}
use Rattle.query_ask.specs.Questions.{IsQuestion, are_true, meets}
use Rattle.query_ask.specs.Beginning.{IsBegun}
use Rattle.query_ask.proofs.CopyLaws.{typed_copies, copy_width, copy_value, copied_input}

all_rest : (P : ℕ → Type 0) (x : ℕ) (xs : List ℕ) → All P (x ∷ xs) → All P xs
all_rest P x xs h k d lt = h (suc k) d (omega (arith, lt))

all_head : (P : ℕ → Type 0) (x : ℕ) (xs : List ℕ) → All P (x ∷ xs) → P x
all_head P x xs h = h 0 x (omega arith)

-- tests that agree on all elements
pub all_same : (p q : ℕ → Bool) (xs : List ℕ) → All (λ x. p x ≡ q x) xs → list_all p xs ≡ list_all q xs
all_same p q [] h = refl
all_same p q (x ∷ xs) h = rw (all_head (λ x. p x ≡ q x) x xs h) (ap (λ (b : Bool). q x && b) (all_same p q xs (all_rest (λ x. p x ≡ q x) x xs h)))

and_true : (b : Bool) → (b && true) ≡ b
and_true true = refl
and_true false = refl

pub one_more : (p : ℕ → Bool) (xs : List ℕ) (x : ℕ) → list_all p (xs ++ x ∷ []) ≡ (list_all p xs && p x)
one_more p xs x = list_all-append p xs (x ∷ []) ∙ ap (λ (b : Bool). list_all p xs && b) (and_true (p x))

and_in : (a b c : Bool) → (b ≡ (b && c)) → (a && b) ≡ ((a && b) && c)
and_in true b c h = h
and_in false b c h = refl

and_self : (a b c : Bool) → c ≡ a → (a && b) ≡ ((a && b) && c)
and_self true b c h = rw h (sym (and_true b))
and_self false b c h = refl

or_rest : (b c : Bool) → b ≡ false → (b || c) ≡ true → c ≡ true
or_rest true c off h = absurd (false≢true (sym off))
or_rest false c off h = h

-- a test of an element that is there already
there : (p : ℕ → Bool) (k : ℕ) (xs : List ℕ) → list_any (nat_eq k) xs ≡ true → list_all p xs ≡ (list_all p xs && p k)
there p k [] h = cc
there p k (x ∷ xs) h = elim (cases_Bool (nat_eq k x)) [
  | inl on ↦ (let e : k ≡ x = grind (arith, nat_tests, on) in and_self (p x) (list_all p xs) (p k) (ap p e))
  | inr off ↦ and_in (p x) (list_all p xs) (p k) (there p k xs (or_rest (nat_eq k x) (list_any (nat_eq k) xs) off h))
]

pub nothing_begun : (nodes : List QNode) (vars : ℕ) (origins : List ℕ) (copies : List QNode) (kept : List ℕ) → AreCopies nodes origins copies → origins ≡ [] → kept ≡ [] → IsBegun nodes vars [] origins copies kept
nothing_begun nodes vars origins copies kept c first none = record {
  copying = record { right = c; known = rw first (all_none (HasVars nodes vars)) };
  inside = rw none (all_none (λ k. k < length origins));
  bits = rw none (all_none (λ k. HasWidth nodes (slice_index origins k) 1));
  same = λ test. rw none refl;
}

-- what was kept stays where the copies grow
grown : (nodes : List QNode) (vars : ℕ) (done origins next : List ℕ) (copies more : List QNode) (kept : List ℕ) → IsBegun nodes vars done origins copies kept → IsCopying nodes vars next more → KeepsNumbers origins next → IsBegun nodes vars done next more kept
grown nodes vars done origins next copies more kept b is keeps = record {
  copying = is;
  inside = λ k d lt. (keeps (get_or kept k d) (b.inside k d lt)).0;
  bits = λ k d lt. let place = (keeps (get_or kept k d) (b.inside k d lt)).1 in
      subst (λ (j : ℕ). HasWidth nodes j 1) (sym place) (b.bits k d lt);
  same = λ test. all_same (λ k. test (slice_index next k)) (λ k. test (slice_index origins k)) kept (λ k d lt. ap test (keeps (get_or kept k d) (b.inside k d lt)).1) ∙ b.same test;
}

-- one conjunct more, which may be there already
pub more_begun : (nodes : List QNode) (vars : ℕ) (done origins next : List ℕ) (copies more : List QNode) (kept new : List ℕ) (at number : ℕ) → IsBegun nodes vars done origins copies kept → IsCopying nodes vars next more → KeepsNumbers origins next
    → HasWidth nodes at 1 → (number < length next) × (slice_index next number ≡ at) → new ≡ cond (list_any (nat_eq number) kept) kept (kept ++ number ∷ []) → IsBegun nodes vars (done ++ at ∷ []) next more new
more_begun nodes vars done origins next copies more kept new at number b is keeps bit is_at e =
    let g = grown nodes vars done origins next copies more kept b is keeps in
    let says : (test : ℕ → Bool) → (list_all (λ k. test (slice_index next k)) kept && test (slice_index next number)) ≡ list_all test (done ++ at ∷ []) = λ test.
    ap (λ (x : Bool). x && test (slice_index next number)) (g.same test) ∙ ap (λ (j : ℕ). list_all test done && test j) is_at.1 ∙ sym (one_more test done at) in
    elim (cases_Bool (list_any (nat_eq number) kept)) [
      | inl on ↦ (let old : new ≡ kept = e ∙ ap (λ (x : Bool). cond x kept (kept ++ number ∷ [])) on in
          rw old (record {
            copying = is;
            inside = g.inside;
            bits = g.bits;
            same = λ test. there (λ k. test (slice_index next k)) number kept on ∙ says test;
          }))
      | inr off ↦ (let longer : new ≡ kept ++ number ∷ [] = e ∙ ap (λ (x : Bool). cond x kept (kept ++ number ∷ [])) off in
          rw longer (record {
            copying = is;
            inside = All-push (λ k. k < length next) kept number g.inside is_at.0;
            bits = All-push (λ k. HasWidth nodes (slice_index next k) 1) kept number g.bits (subst (λ (j : ℕ). HasWidth nodes j 1) (sym is_at.1) bit);
            same = λ test. one_more (λ k. test (slice_index next k)) kept number ∙ says test;
          }))
    ]

-- the whole is a question
pub asked_question : (nodes : List QNode) (vars : ℕ) (done origins next : List ℕ) (copies more : List QNode) (kept : List ℕ) (at number : ℕ) → IsTyped nodes → IsBegun nodes vars done origins copies kept → IsCopying nodes vars next more → KeepsNumbers origins next
    → HasWidth nodes at 1 → (number < length next) × (slice_index next number ≡ at)
    → IsQuestion (record { vars = vars; nodes = more; conjuncts = kept; asked = number })
asked_question nodes vars done origins next copies more kept at number typed b is keeps bit is_at =
    let g = grown nodes vars done origins next copies more kept b is keeps in
    let long : length more ≡ length next = is.right.as_many in
    record {
      typed = typed_copies nodes next more is.right typed;
      known = λ i variable h. let here = copied_input nodes next more is.right i variable h in
          is.known i 0 here.0 (slice_index next i) variable (λ chosen h. h.has_roots 0 0 (omega arith)) here.1;
      bits = All-push (λ k. HasWidth more k 1) kept number
          (λ k d lt. copy_width nodes next more is.right typed (get_or kept k d) 1 (let low = g.inside k d lt in omega (arith, long, low)) (g.bits k d lt))
          (copy_width nodes next more is.right typed number 1 (let low = is_at.0 in omega (arith, long, low)) (subst (λ (j : ℕ). HasWidth nodes j 1) (sym is_at.1) bit));
    }

-- and is met where the conjuncts and the asked node are true
pub asked_meaning : (nodes : List QNode) (vars : ℕ) (done origins next : List ℕ) (copies more : List QNode) (kept : List ℕ) (at number : ℕ) (env : ℕ → ℕ) → IsTyped nodes → IsBegun nodes vars done origins copies kept → IsCopying nodes vars next more → KeepsNumbers origins next
    → (number < length next) × (slice_index next number ≡ at) → meets env (record { vars = vars; nodes = more; conjuncts = kept; asked = number }) ≡ are_true env nodes (done ++ at ∷ [])
asked_meaning nodes vars done origins next copies more kept at number env typed b is keeps is_at =
    let g = grown nodes vars done origins next copies more kept b is keeps in
    let long : length more ≡ length next = is.right.as_many in
    let test : ℕ → Bool = λ j. slice_index (values_of env nodes) j == 1 in
    let told : ℕ → Bool = λ k. slice_index (values_of env more) k == 1 in
    let same : (k : ℕ) → k < length next → told k ≡ test (slice_index next k) = λ k lt.
    ap (λ (x : ℕ). x == 1) (copy_value nodes next more is.right typed env k (omega (arith, long, lt))) in
    one_more told kept number
    ∙ ap (λ (x : Bool). x && told number) (all_same told (λ k. test (slice_index next k)) kept (λ k d lt. same (get_or kept k d) (g.inside k d lt)) ∙ g.same test)
    ∙ ap (λ (x : Bool). list_all test done && x) (same number is_at.0 ∙ ap test is_at.1)
    ∙ sym (one_more test done at)
