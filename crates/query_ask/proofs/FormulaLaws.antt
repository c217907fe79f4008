-- The solutions of the clauses of a question's gates are the bytes that meet it.
use Rattle.std.proofs.Common.{◌≡◌, ℕ, zero, suc, ◌+◌, ◌*◌, ◌/◌, ◌%◌, ◌<◌, ◌≤◌, Bool, true, false, cond, List, [], ◌∷◌, length, take, Some, refl, sym, ap, ◌∙◌, subst, arith}
use Rattle.std.specs.Prelude.{slice_get, slice_index, slice_index_or, ◌==◌}
use Rattle.std.specs.Int.{bit_at}
use Rattle.std.proofs.lemmas.Bool.Decides.{nat_tests}
use Rattle.std.proofs.lemmas.Nat.Bits.{bit_at-lt}
use Rattle.std.proofs.lemmas.List.{get_or_default}
use Rattle.std.proofs.lemmas.List.Sums.{AllPass-from_list_all, list_all-from_AllPass, sum_by-cons}
use Rattle.ct_words.specs.Words.{flag}
use Rattle.gate_form.specs.declared.wire.Wire.{Wire}
use Rattle.gate_form.specs.declared.wire.Gate.{Gate}
use Rattle.gate_form.specs.declared.wire.Gate.TheVariants.{True, Input, And}
use Rattle.gate_form.specs.Net.{bit, is_input, input_count, IsNet}
use Rattle.gate_form.specs.Run.{IsRun, HasInputs}
use Rattle.gate_form.specs.Values.{run_of}
use Rattle.bv_expr.specs.declared.q_node.QNode.{QNode}
use Rattle.bv_expr.specs.Nodes.{AreBytes}
use Rattle.bv_expr.specs.Valuations.{values_of}
use Rattle.bv_expr.proofs.Valuing.{values_exist}
use Rattle.bit_blast.specs.declared.limits.TheConstants.{NODE_GATES}
use Rattle.bit_blast.specs.Bytes.{HasBytes}
use Rattle.bit_blast.specs.Cone.{HasCone, chosen_below}
use Rattle.bit_blast.specs.Roots.{AreRoots, AreApart}
use Rattle.bit_blast.specs.Spelling.{spelled}
use Rattle.bit_blast.proofs.SpellingLaws.{spelled-lt, spelled_has}
use Rattle.cnf_form.specs.Encoding.{gate_value, AreTrue, MakesTrue, IsEncoding}
use Rattle.query_ask.specs.declared.formula.Formula.{Formula}
use Rattle.query_ask.specs.Questions.{Asked, IsQuestion, claims, meets}
use Rattle.query_ask.specs.Formulas.{IsFormula}

flag_one : (b : Bool) → flag b ≡ 1 → b ≡ true
flag_one true h = refl
flag_one false h = absurd (omega (arith, h))

one_test : (n : ℕ) → (n == 1) ≡ true → n ≡ 1
one_test n h = grind (arith, nat_tests, h)

test_one : (n : ℕ) → n ≡ 1 → (n == 1) ≡ true
test_one n h = grind (arith, nat_tests, h)

flag_of_test : (n : ℕ) → n < 2 → flag (n == 1) ≡ n
flag_of_test zero lt = refl
flag_of_test (suc zero) lt = refl
flag_of_test (suc (suc n)) lt = absurd (omega (arith, lt))

-- the bits of the variables' bytes, by the numbers of the gates' inputs
abbrev pub bits_of : (ℕ → ℕ) → List ℕ → ℕ → Bool
bits_of env vars n = bit_at (env (slice_index vars (n / 8))) (n % 8) == 1

bits_are : (env : ℕ → ℕ) (vars : List ℕ) (i b : ℕ) → b < 8 → flag (bits_of env vars (8 * i + b)) ≡ bit_at (env (slice_index vars i)) b
bits_are env vars i b small =
    let whole : (8 * i + b) / 8 ≡ i = omega (arith, small) in
    let part : (8 * i + b) % 8 ≡ b = omega (arith, small) in
    ap (λ (j : ℕ). flag (bit_at (env (slice_index vars j)) ((8 * i + b) % 8) == 1)) whole
    ∙ ap (λ (k : ℕ). flag (bit_at (env (slice_index vars i)) k == 1)) part
    ∙ flag_of_test (bit_at (env (slice_index vars i)) b) (bit_at-lt (env (slice_index vars i)) b)

bits_have : (env : ℕ → ℕ) (vars : List ℕ) (v : ℕ → Bool) (gates : List Gate) → HasInputs (bits_of env vars) v gates → HasBytes env v gates vars
bits_have env vars v gates has = record { at = λ k i b small at. ap flag (has.at k (8 * i + b) at) ∙ bits_are env vars i b small }

-- the values of the inputs, in order
abbrev inputs_in : List Gate → (ℕ → Bool) → List Bool
inputs_in [] v = []
inputs_in (g ∷ gates) v = cond (is_input g) (v 0 ∷ inputs_in gates (λ k. v (suc k))) (inputs_in gates (λ k. v (suc k)))

input_at : (gates : List Gate) (v : ℕ → Bool) (i n : ℕ) → slice_get gates i ≡ Some (Input n) → slice_index_or (inputs_in gates v) (input_count (take i gates)) false ≡ v i
input_at [] v i n at = cc
input_at (True ∷ gates) v zero n at = cc
input_at (And a b ∷ gates) v zero n at = cc
input_at (Input m ∷ gates) v zero n at = refl
input_at (True ∷ gates) v (suc i) n at =
    let one : input_count (True ∷ take i gates) ≡ 0 + input_count (take i gates) = sum_by-cons (λ g. cond (is_input g) 1 0) True (take i gates) in
    let e : input_count (True ∷ take i gates) ≡ input_count (take i gates) = omega (arith, one) in
    ap (λ (k : ℕ). slice_index_or (inputs_in gates (λ j. v (suc j))) k false) e ∙ input_at gates (λ k. v (suc k)) i n at
input_at (And a b ∷ gates) v (suc i) n at =
    let one : input_count (And a b ∷ take i gates) ≡ 0 + input_count (take i gates) = sum_by-cons (λ g. cond (is_input g) 1 0) (And a b) (take i gates) in
    let e : input_count (And a b ∷ take i gates) ≡ input_count (take i gates) = omega (arith, one) in
    ap (λ (k : ℕ). slice_index_or (inputs_in gates (λ j. v (suc j))) k false) e ∙ input_at gates (λ k. v (suc k)) i n at
input_at (Input m ∷ gates) v (suc i) n at =
    let one : input_count (Input m ∷ take i gates) ≡ 1 + input_count (take i gates) = sum_by-cons (λ g. cond (is_input g) 1 0) (Input m) (take i gates) in
    let e : input_count (Input m ∷ take i gates) ≡ suc (input_count (take i gates)) = omega (arith, one) in
    ap (λ (k : ℕ). slice_index_or (v 0 ∷ inputs_in gates (λ j. v (suc j))) k false) e ∙ input_at gates (λ k. v (suc k)) i n at

-- which inputs a run has
inputs_have : (gates : List Gate) (v : ℕ → Bool) → IsNet gates → HasInputs (λ n. slice_index_or (inputs_in gates v) n false) v gates
inputs_have gates v net = record {
  at = λ i n at. sym (input_at gates v i n at) ∙ ap (λ (k : ℕ). slice_index_or (inputs_in gates v) k false) (sym (net.numbered i n at));
}

chosen_all : (n : ℕ) → chosen_below (λ _. true) n ≡ n
chosen_all zero = refl
chosen_all (suc n) = omega (arith, chosen_all n)

module _ (q : Asked) (is : IsQuestion q) (gates : List Gate) (vars : List ℕ) (wires : List Wire) (net : IsNet gates) (roots : AreRoots q.nodes (claims q) gates vars wires) where
  abbrev value : (ℕ → ℕ) → ℕ → ℕ
  value env k = slice_index (values_of env q.nodes) k

  -- where the bytes meet the question the roots are true, and the other way round
  root_true : (env : ℕ → ℕ) (v : ℕ → Bool) → AreBytes env → IsRun v gates → HasBytes env v gates vars → meets env q ≡ true → AreTrue v wires
  root_true env v bytes run has met i d lt =
      let inside : i < length (claims q) = omega (arith, roots.count, lt) in
      let passes = AllPass-from_list_all (λ k. value env k == 1) (claims q) met i 0 inside in
      flag_one (bit v (slice_index_or wires i d)) (roots.value_is env (value env) v bytes (values_exist env q.nodes is.typed) run has i d inside ∙ one_test (value env (slice_index (claims q) i)) passes)

  root_met : (env : ℕ → ℕ) (v : ℕ → Bool) → AreBytes env → IsRun v gates → HasBytes env v gates vars → AreTrue v wires → meets env q ≡ true
  root_met env v bytes run has all = list_all-from_AllPass (λ k. value env k == 1) (claims q) (λ i d lt.
      let wire : Wire = record { gate = 0; negated = false } in
      let on : flag (bit v (slice_index_or wires i wire)) ≡ 1 = ap flag (all i wire (omega (arith, roots.count, lt))) in
      let one : value env (slice_index (claims q) i) ≡ 1 = sym (roots.value_is env (value env) v bytes (values_exist env q.nodes is.typed) run has i wire lt) ∙ on in
      test_one (value env (slice_index_or (claims q) i d)) (ap (value env) (get_or_default (claims q) i d 0 lt) ∙ one))

  makes : (env : ℕ → ℕ) → AreBytes env → meets env q ≡ true → MakesTrue (bits_of env vars) gates wires
  makes env bytes met v run has = root_true env v bytes run (bits_have env vars v gates has) met

  spells : (x : ℕ → Bool) → AreApart vars → input_count gates ≡ 8 * length vars → MakesTrue x gates wires → meets (spelled x vars) q ≡ true
  spells x apart count all =
      let r = run_of x gates net in
      root_met (spelled x vars) r.values (spelled-lt x vars) r.run (spelled_has x r.values gates vars net count apart r.inputs) (all r.values r.run r.inputs)

  pub formula_is : (f : Formula) → AreApart vars → input_count gates ≡ 8 * length vars → ((chosen : ℕ → Bool) → HasCone q.nodes (claims q) chosen → length gates ≤ 1 + NODE_GATES * chosen_below chosen (length q.nodes))
      → f.gates ≡ gates → f.vars.items ≡ vars → f.cnf.vars ≡ length gates → IsEncoding gates wires f.cnf.clauses → IsFormula q f
  formula_is f apart count few is_gates is_vars is_size enc = record {
    same = record {
      reads = λ s.
          let long : length s.values ≡ length gates = s.count ∙ is_size in
          let x : ℕ → Bool = λ n. slice_index_or (inputs_in gates (gate_value s.values)) n false in
          record {
            env = spelled x vars;
            bytes = spelled-lt x vars;
            met = spells x apart count (enc.reads s.values x long s.met (inputs_have gates (gate_value s.values) net));
          };
      solves = λ m.
          let s = enc.solves (bits_of m.env vars) (makes m.env m.bytes m.met) in
          record { values = s.values; count = s.count ∙ sym is_size; met = s.met };
      few = omega (arith, is_size, few (λ _. true) everything, chosen_all (length q.nodes));
    };
    size = ap length is_gates ∙ sym is_size;
    inputs = ap input_count is_gates ∙ count ∙ ap (λ (xs : List ℕ). 8 * length xs) (sym is_vars);
    spells = λ values x long met has.
        let P : List Gate → Type 0 = λ gs. HasInputs x (gate_value values) gs in
        ap (λ (vs : List ℕ). meets (spelled x vs) q) is_vars ∙ spells x apart count (enc.reads values x (long ∙ is_size) met (subst P is_gates has));
  }
    where
      everything : HasCone q.nodes (claims q) (λ _. true)
      everything = record { has_roots = λ i d lt. refl; has_operands = λ i n at on j d lt. refl }

-- from what the blaster and the encoder say
pub formula_from : (q : Asked) (nodes : List QNode) (roots : List ℕ) (gates : List Gate) (vars : List ℕ) (wires coded : List Wire) (f : Formula) → IsQuestion q → IsNet gates → nodes ≡ q.nodes → roots ≡ claims q → coded ≡ wires
    → AreRoots nodes roots gates vars wires → AreApart vars → input_count gates ≡ 8 * length vars → ((chosen : ℕ → Bool) → HasCone nodes roots chosen → length gates ≤ 1 + NODE_GATES * chosen_below chosen (length nodes))
    → f.gates ≡ gates → f.vars.items ≡ vars → f.cnf.vars ≡ length gates → IsEncoding gates coded f.cnf.clauses → IsFormula q f
formula_from q nodes roots gates vars wires coded f is net same_nodes same_roots same_wires right apart count few is_gates is_vars is_size enc =
    let P : List QNode → Type 0 = λ ns. AreRoots ns roots gates vars wires in
    let Q : List ℕ → Type 0 = λ rs. AreRoots q.nodes rs gates vars wires in
    let R : List Wire → Type 0 = λ ws. IsEncoding gates ws f.cnf.clauses in
    let S : List QNode → Type 0 = λ ns. (chosen : ℕ → Bool) → HasCone ns roots chosen → length gates ≤ 1 + NODE_GATES * chosen_below chosen (length ns) in
    let T : List ℕ → Type 0 = λ rs. (chosen : ℕ → Bool) → HasCone q.nodes rs chosen → length gates ≤ 1 + NODE_GATES * chosen_below chosen (length q.nodes) in
    formula_is q is gates vars wires net (subst Q same_roots (subst P same_nodes right)) f apart count (subst T same_roots (subst S same_nodes few)) is_gates is_vars is_size (subst R same_wires enc)
