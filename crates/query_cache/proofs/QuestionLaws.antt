-- The test of questions holds of equal questions alone.
use Rattle.std.proofs.Common.{◌≡◌, ℕ, Bool, true, false, ◌&&◌, eqb, List, refl, sym, subst, arith, rules}
use Rattle.std.proofs.lemmas.Bool.Decides.{nat_tests}
use Rattle.std.specs.Cmp.Lexicographic.{pointwise, pointwise_decides, bytes_decides}
use Rattle.bv_expr.specs.declared.q_node.QNode.{QNode}
use Rattle.bv_expr.specs.contracts.q_node.QNodePartialEq.TheImpl as node
use Rattle.query_ask.specs.Questions.{Asked}
use Rattle.query_ask.specs.contracts.question.QuestionPartialEq.TheImpl as impl
use Rattle.query_cache.proofs.EntryLaws.{IsTestOf}

same_node : (x y : QNode) → (node.eq-value).it x y ≡ true → x ≡ y
same_node x y h = search rules

equal_node : (x y : QNode) → x ≡ y → (node.eq-value).it x y ≡ true
equal_node x y h = search rules

nodes_decide : (xs ys : List QNode) → (pointwise (node.eq-value).it xs ys ≡ true → xs ≡ ys) × (xs ≡ ys → pointwise (node.eq-value).it xs ys ≡ true)
nodes_decide = pointwise_decides (λ x y. (same_node x y, equal_node x y))

-- two that are true are true each
both : (s t : Bool) → (s && t) ≡ true → (s ≡ true) × (t ≡ true)
both true t h = (refl, h)
both false t h = cc

same_number : (x y : ℕ) → eqb x y ≡ true → x ≡ y
same_number x y h = grind (arith, nat_tests)

pub same_question : (a b : Asked) → (impl.eq-value).it a b ≡ true → b ≡ a
same_question a b h =
    let first = both (eqb a.vars b.vars) (pointwise (node.eq-value).it a.nodes b.nodes && (pointwise eqb a.conjuncts b.conjuncts && eqb a.asked b.asked)) h in
    let second = both (pointwise (node.eq-value).it a.nodes b.nodes) (pointwise eqb a.conjuncts b.conjuncts && eqb a.asked b.asked) first.1 in
    let third = both (pointwise eqb a.conjuncts b.conjuncts) (eqb a.asked b.asked) second.1 in
    let vars : b.vars ≡ a.vars = sym (same_number a.vars b.vars first.0) in
    let nodes : b.nodes ≡ a.nodes = sym ((nodes_decide a.nodes b.nodes).0 second.0) in
    let conjuncts : b.conjuncts ≡ a.conjuncts = sym ((bytes_decides a.conjuncts b.conjuncts).0 third.0) in
    let asked : b.asked ≡ a.asked = sym (same_number a.asked b.asked third.1) in
    λ i. record { vars = vars i; nodes = nodes i; conjuncts = conjuncts i; asked = asked i }

equal_number : (x : ℕ) → eqb x x ≡ true
equal_number x = grind (arith, nat_tests)

equal_question : (a : Asked) → (impl.eq-value).it a a ≡ true
equal_question a =
    rw (equal_number a.vars, (nodes_decide a.nodes a.nodes).1 refl, (bytes_decides a.conjuncts a.conjuncts).1 refl, equal_number a.asked) refl

-- the test of a question holds of it alone
pub question_test : (q : Asked) → IsTestOf ((impl.eq-value).it q) q
question_test q = (λ k h. same_question q k h, equal_question q)

-- equal questions pass the test
pub same_passes : (a b : Asked) → a ≡ b → (impl.eq-value).it a b ≡ true
same_passes a b e = subst (λ q. (impl.eq-value).it a q ≡ true) e (equal_question a)
