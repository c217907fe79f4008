-- Whether a question is met depends on the bytes of its variables alone.
use Rattle.std.proofs.Common.{◌≡◌, ℕ, ◌+◌, ◌*◌, ◌<◌, Bool, true, false, ◌&&◌, List, length, get_or, Some, refl, sym, ap, ◌∙◌, arith}
use Rattle.std.specs.Prelude.{slice_get, slice_index, slice_index_or, ◌==◌}
use Rattle.std.specs.List.{list_all}
use Rattle.std.proofs.lemmas.Option.{slice_get-get_or, slice_get_within, get_or_from_slice_get}
use Rattle.gate_form.specs.declared.wire.Gate.{Gate}
use Rattle.gate_form.specs.declared.wire.Gate.TheVariants.{Input as GateInput}
use Rattle.gate_form.specs.Run.{HasInputs}
use Rattle.bv_expr.specs.declared.q_node.QNode.{QNode}
use Rattle.bv_expr.specs.declared.q_node.QNode.TheVariants.{Constant, Input, Alu, Test, Not, Both, Pick, Join, Byte}
use Rattle.bv_expr.specs.Nodes.{IsValuation, node_value}
use Rattle.bv_expr.specs.Valuations.{values_of}
use Rattle.bv_expr.proofs.Valuing.{values_exist, one_valuation}
use Rattle.bit_blast.specs.Spelling.{first_byte, spelled}
use Rattle.cnf_form.specs.Encoding.{gate_value, AreInputs}
use Rattle.cnf_form.specs.Solutions.{are_met}
use Rattle.query_ask.specs.declared.formula.Formula.{Formula}
use Rattle.query_ask.specs.Questions.{Asked, IsQuestion, claims, meets}
use Rattle.query_ask.specs.Formulas.{IsFormula}
use Rattle.query_ask.specs.Placing.{placed}
use Rattle.query_ask.proofs.BegunLaws.{all_same, one_more}
use Rattle.query_ask.proofs.PlacingLaws.{spelled_by}

value_env : (env other v : ℕ → ℕ) (n : QNode) → ((x : ℕ) → n ≡ Input x → env x ≡ other x) → node_value env v n ≡ node_value other v n
value_env env other v (Constant width value) h = refl
value_env env other v (Input x) h = h x refl
value_env env other v (Alu op a b) h = refl
value_env env other v (Test c a b) h = refl
value_env env other v (Not a) h = refl
value_env env other v (Both a b) h = refl
value_env env other v (Pick p x y) h = refl
value_env env other v (Join a b c d) h = refl
value_env env other v (Byte a k) h = refl

-- the bytes of the variables among the nodes are the same
pub record Agree (env other : ℕ → ℕ) (nodes : List QNode) : Type 0 where
  pub at : (i x : ℕ) → slice_get nodes i ≡ Some (Input x) → env x ≡ other x

valuation_env : (env other v : ℕ → ℕ) (nodes : List QNode) → Agree env other nodes → IsValuation env v nodes → IsValuation other v nodes
valuation_env env other v nodes agree was = record {
  at = λ i n h. was.at i n h ∙ value_env env other v n (λ x e. agree.at i x (h ∙ ap (λ (m : QNode). Some m) e));
}

-- any valuation tells whether the question is met
pub met_by : (q : Asked) (env v : ℕ → ℕ) → IsQuestion q → IsValuation env v q.nodes → list_all (λ k. v k == 1) (claims q) ≡ meets env q
met_by q env v is was = all_same (λ k. v k == 1) (λ k. slice_index (values_of env q.nodes) k == 1) (claims q)
    (λ i d lt. ap (λ (x : ℕ). x == 1) (one_valuation env v (slice_index (values_of env q.nodes)) q.nodes is.typed.earlier was (values_exist env q.nodes is.typed) (get_or (claims q) i d) (is.bits i d lt).inside))

pub meets_same : (q : Asked) (env other : ℕ → ℕ) → IsQuestion q → Agree env other q.nodes → meets env q ≡ meets other q
meets_same q env other is agree = met_by q other (slice_index (values_of env q.nodes)) is (valuation_env env other (slice_index (values_of env q.nodes)) q.nodes agree (values_exist env q.nodes is.typed))

-- values below the number of the variables tell
pub meets_below : (q : Asked) (env other : ℕ → ℕ) → IsQuestion q → ((k : ℕ) → k < q.vars → env k ≡ other k) → meets env q ≡ meets other q
meets_below q env other is same = meets_same q env other is (record { at = λ i x h. same x (is.known i x h) })

inputs_read : (gates : List Gate) (values inputs : List Bool) → length values ≡ length gates → AreInputs gates values inputs → HasInputs (λ n. slice_index_or inputs n false) (gate_value values) gates
inputs_read gates values inputs long are = record {
  at = λ i n h.
      let inside : i < length values = omega (arith, long, slice_get_within gates i (GateInput n) h) in
      sym (get_or_from_slice_get inputs n (get_or values i false) false (are.values_are i n h ∙ slice_get-get_or values i false inside));
}

-- the values that a solution spells meet the question
pub spelled_meet : (q : Asked) (f : Formula) (values inputs : List Bool) (bytes found vars : List ℕ) → IsQuestion q → IsFormula q f → length values ≡ f.cnf.vars → are_met values f.cnf.clauses ≡ true → AreInputs f.gates values inputs → vars ≡ f.vars.items
    → ((i : ℕ) → i < length vars → slice_index bytes i ≡ first_byte (λ n. slice_index_or inputs (8 * i + n) false)) → ((k : ℕ) → k < q.vars → slice_index found k ≡ placed (slice_index bytes) vars k) → meets (slice_index found) q ≡ true
spelled_meet q f values inputs bytes found vars is formula long met are same bytes_are placed_are =
    let x : ℕ → Bool = λ n. slice_index_or inputs n false in
    let told : meets (spelled x f.vars.items) q ≡ true = formula.spells values x long met (inputs_read f.gates values inputs (long ∙ sym formula.size) are) in
    meets_below q (slice_index found) (spelled x vars) is (λ k lt. placed_are k lt ∙ spelled_by x vars (slice_index bytes) k bytes_are)
    ∙ ap (λ (vs : List ℕ). meets (spelled x vs) q) same ∙ told

-- the results of all nodes tell whether the question is met
pub results_tell : (q : Asked) (env : ℕ → ℕ) (results : List ℕ) (a b : Bool) → IsQuestion q → IsValuation env (slice_index results) q.nodes → a ≡ list_all (λ k. slice_index results k == 1) q.conjuncts → b ≡ (slice_index results q.asked == 1) → (a && b) ≡ meets env q
results_tell q env results a b is was first second =
    ap (λ (x : Bool). x && b) first ∙ ap (λ (x : Bool). list_all (λ k. slice_index results k == 1) q.conjuncts && x) second
    ∙ sym (one_more (λ k. slice_index results k == 1) q.conjuncts q.asked) ∙ met_by q env (slice_index results) is was

-- and so they do as slices lend them
pub results_say : (q : Asked) (env : ℕ → ℕ) (results ones others conjuncts : List ℕ) (asked : ℕ) (a b : Bool) → IsQuestion q → IsValuation env (slice_index results) q.nodes → ones ≡ results → others ≡ results → conjuncts ≡ q.conjuncts → asked ≡ q.asked
    → a ≡ list_all (λ k. slice_index ones k == 1) conjuncts → b ≡ (slice_index others asked == 1) → (a && b) ≡ meets env q
results_say q env results ones others conjuncts asked a b is was one other same_conjuncts same_asked first second =
    results_tell q env results a b is was
    (first ∙ ap (λ (rs : List ℕ). list_all (λ k. slice_index rs k == 1) conjuncts) one ∙ ap (λ (ns : List ℕ). list_all (λ k. slice_index results k == 1) ns) same_conjuncts)
    (second ∙ ap (λ (rs : List ℕ). slice_index rs asked == 1) other ∙ ap (λ (k : ℕ). slice_index results k == 1) same_asked)
