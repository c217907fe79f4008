-- What a question of a node says, and bits that are settled.
use Rattle.std.proofs.Common.{◌≡◌, ℕ, ◌<◌, ◌^◌, ◌&&◌, Bool, true, false, eqb, eqb-true, eq-eqb, List, [], ◌∷◌, ◌++◌, length, get_or, map, Option, Some, None, refl, sym, ◌∙◌, ap, inl, inr, arith}
use Rattle.std.specs.Prelude.{◌↔◌, All, IfSome, IsSome, IsTrue, MatchOption, option_to_list, slice_get}
use Rattle.std.specs.List.{list_all}
use Rattle.std.proofs.lemmas.Bool.Decides.{eqb_tells}
use Rattle.std.proofs.lemmas.List.Elements.{All-nil, All-cons, All-head, All-tail, All-append}
use Rattle.ct_words.specs.Words.{flag}
use Rattle.bv_expr.specs.declared.q_node.QNode.{QNode}
use Rattle.bv_expr.specs.declared.q_node.QNode.TheVariants.{Constant, Input, Alu, Test, Not, Both, Pick, Join, Byte}
use Rattle.bv_expr.specs.declared.expr_id.ExprId.{ExprId}
use Rattle.bv_expr.specs.Nodes.{IsValuation, AreBytes, HasWidth}
use Rattle.bv_expr.specs.Folding.{constant_in, constant_value}
use Rattle.bv_range.specs.Known.{IsWithin}
use Rattle.bv_range.specs.declared.range.Range.{Range}
use Rattle.query_ask.specs.Copies.{HasVars}
use Rattle.ct_pairs.specs.declared.job.Job.{Job}
use Rattle.rel_step.specs.declared.last.Last.{Last}
use Rattle.rel_step.specs.Runs.{Always}
use Rattle.rel_step.specs.Strides.{ShowSame}
use Rattle.rel_step.specs.PathNodes.{PathNode, AreVariablesBelow, next_steps, IsLast, IsNode}
use Rattle.rel_step.specs.Asking.{equal_claim, IsAsked}
use Rattle.rel_step.proofs.FollowingLaws.{All-front, All-back, equal_meets, meets_equal, equal_width}

-- the numbers of expressions
abbrev numbers : List ExprId → List ℕ
numbers ids = map (λ id. id.0) ids

-- numbered nodes that are all true
and_left : (a b : Bool) → a && b ≡ true → a ≡ true
and_left true b h = refl
and_left false b h = h

and_right : (a b : Bool) → a && b ≡ true → b ≡ true
and_right true b h = h
and_right false b h = absurd cc

and_both : (a b : Bool) → a ≡ true → b ≡ true → a && b ≡ true
and_both true b h k = k
and_both false b h k = h

all_true : (w : ℕ → ℕ) (ids : List ExprId) (asked : ℕ) → list_all (λ k. eqb (w k) 1) (numbers ids ++ asked ∷ []) ≡ true → All (λ (id : ExprId). w id.0 ≡ 1) ids × (w asked ≡ 1)
all_true w [] asked h = (All-nil (λ (id : ExprId). w id.0 ≡ 1), eqb-true (w asked) 1 (and_left (eqb (w asked) 1) true h))
all_true w (id ∷ ids) asked h =
    let rest = all_true w ids asked (and_right (eqb (w id.0) 1) (list_all (λ k. eqb (w k) 1) (numbers ids ++ asked ∷ [])) h) in
    (All-cons (λ (id : ExprId). w id.0 ≡ 1) id ids (eqb-true (w id.0) 1 (and_left (eqb (w id.0) 1) (list_all (λ k. eqb (w k) 1) (numbers ids ++ asked ∷ [])) h)) rest.0, rest.1)

true_all : (w : ℕ → ℕ) (ids : List ExprId) (asked : ℕ) → All (λ (id : ExprId). w id.0 ≡ 1) ids → w asked ≡ 1 → list_all (λ k. eqb (w k) 1) (numbers ids ++ asked ∷ []) ≡ true
true_all w [] asked all is = and_both (eqb (w asked) 1) true (eq-eqb (w asked) 1 is) refl
true_all w (id ∷ ids) asked all is =
    and_both (eqb (w id.0) 1) (list_all (λ k. eqb (w k) 1) (numbers ids ++ asked ∷ [])) (eq-eqb (w id.0) 1 (All-head (λ (id : ExprId). w id.0 ≡ 1) id ids all)) (true_all w ids asked (All-tail (λ (id : ExprId). w id.0 ≡ 1) id ids all) is)

module _ (job : Job) (node : PathNode) where
  -- the claim that the runs show the same
  claim_width : (equal : Bool) (last : Option Last) → MatchOption last (Unit {0}) (IsLast job node) → All (λ (id : ExprId). HasWidth node.nodes id.0 1) (option_to_list (equal_claim last equal))
  claim_width false last h = All-nil (λ (id : ExprId). HasWidth node.nodes id.0 1)
  claim_width true None h = All-nil (λ (id : ExprId). HasWidth node.nodes id.0 1)
  claim_width true (Some last) h = equal_width node.nodes (next_steps job node.here) last.equal h.equal

  claim_shows : (equal : Bool) (last : Option Last) → MatchOption last (Unit {0}) (IsLast job node) → (env v : ℕ → ℕ) → AreBytes env → IsValuation env v node.nodes → (IsTrue equal → IsSome last)
      → All (λ (id : ExprId). v id.0 ≡ 1) (option_to_list (equal_claim last equal)) → IsTrue equal → ShowSame (next_steps job node.here v)
  claim_shows false last h env v bytes is some all wanted = absurd cc
  claim_shows true None h env v bytes is some all wanted = (let e : IsSome {T = Last} None = some refl in absurd cc)
  claim_shows true (Some last) h env v bytes is some all wanted = equal_meets node.nodes (next_steps job node.here) last.equal env v h.equal bytes is all

  shows_claim : (equal : Bool) (last : Option Last) → MatchOption last (Unit {0}) (IsLast job node) → (env v : ℕ → ℕ) → AreBytes env → IsValuation env v node.nodes
      → (IsTrue equal → ShowSame (next_steps job node.here v)) → All (λ (id : ExprId). v id.0 ≡ 1) (option_to_list (equal_claim last equal))
  shows_claim false last h env v bytes is same = All-nil (λ (id : ExprId). v id.0 ≡ 1)
  shows_claim true None h env v bytes is same = All-nil (λ (id : ExprId). v id.0 ≡ 1)
  shows_claim true (Some last) h env v bytes is same = meets_equal node.nodes (next_steps job node.here) last.equal env v h.equal bytes is (same refl)

  module _ (equal : Bool) (h : IsNode job node) where
    abbrev pub claimed : List ExprId
    claimed = node.conjuncts ++ option_to_list (equal_claim node.last equal)

    pub claims_width : All (λ (id : ExprId). HasWidth node.nodes id.0 1) (node.conjuncts ++ option_to_list (equal_claim node.last equal))
    claims_width = All-append (λ (id : ExprId). HasWidth node.nodes id.0 1) node.conjuncts (option_to_list (equal_claim node.last equal)) h.conjuncts (claim_width equal node.last h.last)

    pub asked_exactly : (asked : ℕ) → HasWidth node.nodes asked 1 → (IsTrue equal → IsSome node.last) → (env v w : ℕ → ℕ) → AreBytes env → IsValuation env v node.nodes → ((i : ℕ) → i < length node.nodes → v i ≡ w i)
        → (list_all (λ k. eqb (w k) 1) (numbers (node.conjuncts ++ option_to_list (equal_claim node.last equal)) ++ asked ∷ []) ≡ true) ↔ IsAsked job node equal env v asked
    asked_exactly asked bit some env v w bytes is only = (to, from)
      where
        to : list_all (λ k. eqb (w k) 1) (numbers (node.conjuncts ++ option_to_list (equal_claim node.last equal)) ++ asked ∷ []) ≡ true → IsAsked job node equal env v asked
        to t =
            let both = all_true w claimed asked t in
            let all : All (λ (id : ExprId). v id.0 ≡ 1) (node.conjuncts ++ option_to_list (equal_claim node.last equal)) = λ k d within. only (get_or claimed k d).0 ((claims_width k d within).inside) ∙ both.0 k d within in
            record {
              along = (h.exact env v bytes is).0 (All-front (λ (id : ExprId). v id.0 ≡ 1) node.conjuncts (option_to_list (equal_claim node.last equal)) all);
              same = claim_shows equal node.last h.last env v bytes is some (All-back (λ (id : ExprId). v id.0 ≡ 1) node.conjuncts (option_to_list (equal_claim node.last equal)) all);
              is_true = only asked bit.inside ∙ both.1;
            }

        from : IsAsked job node equal env v asked → list_all (λ k. eqb (w k) 1) (numbers (node.conjuncts ++ option_to_list (equal_claim node.last equal)) ++ asked ∷ []) ≡ true
        from a =
            let all = All-append (λ (id : ExprId). v id.0 ≡ 1) node.conjuncts (option_to_list (equal_claim node.last equal)) ((h.exact env v bytes is).1 a.along) (shows_claim equal node.last h.last env v bytes is a.same) in
            true_all w claimed asked (λ k d within. sym (only (get_or claimed k d).0 ((claims_width k d within).inside)) ∙ all k d within) (sym (only asked bit.inside) ∙ a.is_true)

-- variables on which an expression depends are below the count where all are
pub has_vars : (nodes : List QNode) (count id : ℕ) → AreVariablesBelow count nodes → HasVars nodes count id
has_vars nodes count id h j variable cone at = h j variable at

-- bits that are settled
pub constant_bit : (x value : ℕ) → x ≡ value → x < 2 ^ 1 → x ≡ flag (eqb value 1)
constant_bit x value e small = elim (eqb_tells value 1) [ inl (t1, one) ↦ e ∙ one ∙ sym (ap flag t1) | inr (n1, other) ↦ (let z : x ≡ 0 = omega (arith, e, small, other) in z ∙ sym (ap flag n1)) ]

pub settled_from : (nodes : List QNode) (asked : ℕ) (r : Range) (known : Option Bool) → IfSome known (λ bit. (x : ℕ) → x < 2 → IsWithin r x → x ≡ flag bit)
    → ((env v : ℕ → ℕ) → AreBytes env → IsValuation env v nodes → IsWithin r (v asked)) → ((env v : ℕ → ℕ) → AreBytes env → IsValuation env v nodes → v asked < 2 ^ 1) → IfSome known (λ bit. Always nodes (λ v. v asked ≡ flag bit))
settled_from nodes asked r None h within small = tt
settled_from nodes asked r (Some bit) h within small = λ env v bytes is. h (v asked) (small env v bytes is) (within env v bytes is)

no_value : (n : QNode) → ((w value : ℕ) → n ≡ Constant w value → ⊥) → IsSome (constant_value n) → ⊥
no_value (Constant w x) h some = h w x refl
no_value (Input k) h some = cc
no_value (Alu op a b) h some = cc
no_value (Test c a b) h some = cc
no_value (Not a) h some = cc
no_value (Both a b) h some = cc
no_value (Pick c a b) h some = cc
no_value (Join a b c d) h some = cc
no_value (Byte a k) h some = cc

pub no_constant : (nodes : List QNode) (i : ℕ) (n : QNode) → slice_get nodes i ≡ Some n → ((w value : ℕ) → n ≡ Constant w value → ⊥) → IsSome (constant_in nodes i) → ⊥
no_constant nodes i n there h = rw there (no_value n h)
