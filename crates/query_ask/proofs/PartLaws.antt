-- Parts of questions are questions, and are met where the whole is.
use Rattle.std.proofs.Common.{◌≡◌, ◌∙◌, ◌<◌, ℕ, Bool, true, List, [], ◌∷◌, ◌++◌, length, get_or, Some, sym, ap, subst}
use Rattle.std.specs.Prelude.{slice_get, slice_index, ◌==◌, Contains, All}
use Rattle.std.specs.List.{list_all}
use Rattle.std.proofs.lemmas.List.{get_or_default}
use Rattle.std.proofs.lemmas.List.Elements.{All-push, Contains-push}
use Rattle.std.proofs.lemmas.List.Sums.{AllPass-from_list_all, list_all-from_AllPass}
use Rattle.bv_expr.specs.declared.q_node.QNode.{QNode}
use Rattle.bv_expr.specs.declared.q_node.QNode.TheVariants.{Input}
use Rattle.bv_expr.specs.declared.values.Values.{Values}
use Rattle.bv_expr.specs.Nodes.{HasWidth}
use Rattle.bv_expr.specs.Typing.{IsTyped}
use Rattle.bv_expr.specs.Valuations.{values_of}
use Rattle.query_ask.specs.Questions.{Asked, IsQuestion, claims, are_true, meets}
use Rattle.query_ask.specs.Formulas.{CanBeMet}
use Rattle.query_ask.specs.Answers.{DoMeet}
use Rattle.query_ask.specs.Parts.{IsPart}
use Rattle.query_ask.proofs.TryingLaws.{Contains-longer}

all_in : (P : ℕ → Type 0) (xs ys : List ℕ) → All (Contains xs) ys → All P xs → All P ys
all_in P xs ys inside all i d lt = let c = inside i d lt in subst P c.2 (all c.0 (get_or ys i d) c.1)

claims_in : (q part : Asked) → IsPart q part → All (Contains (claims q)) (claims part)
claims_in q part is =
    let P : ℕ → Type 0 = λ a. All (Contains (claims q)) (part.conjuncts ++ a ∷ []) in
    subst P (sym is.asked) (All-push (Contains (claims q)) part.conjuncts q.asked
    (λ i d lt. Contains-longer q.conjuncts q.asked (get_or part.conjuncts i d) (is.conjuncts i d lt))
    (Contains-push q.conjuncts q.asked))

met_in : (q part : Asked) (env : ℕ → ℕ) → IsPart q part → meets env q ≡ true → meets env part ≡ true
met_in q part env is met =
    let test : ℕ → Bool = λ k. slice_index (values_of env q.nodes) k == 1 in
    ap (λ (ns : List QNode). are_true env ns (claims part)) is.nodes
    ∙ list_all-from_AllPass test (claims part) (all_in (λ k. test k ≡ true) (claims q) (claims part) (claims_in q part is) (AllPass-from_list_all test (claims q) met))

-- bytes that meet the question meet the part
pub part_met : (q part : Asked) → IsPart q part → CanBeMet q → CanBeMet part
part_met q part is m = record { env = m.env; bytes = m.bytes; met = met_in q part m.env is m.met }

pub part_question : (q part : Asked) → IsQuestion q → IsPart q part → IsQuestion part
part_question q part is of = record {
  typed = subst IsTyped (sym of.nodes) is.typed;
  known = λ i variable here.
      let P : List QNode → Type 0 = λ ns. slice_get ns i ≡ Some (Input variable) in
      subst (λ (n : ℕ). variable < n) (sym of.vars) (is.known i variable (subst P of.nodes here));
  bits =
      let Q : List QNode → Type 0 = λ ns. All (λ c. HasWidth ns c 1) (claims part) in
      subst Q (sym of.nodes) (all_in (λ c. HasWidth q.nodes c 1) (claims q) (claims part) (claims_in q part of) is.bits);
}

-- values that meet a part are as many as the question's variables
pub part_values : (q part : Asked) (values : Values) → IsPart q part → DoMeet part values → meets (slice_index values.0) q ≡ true → DoMeet q values
part_values q part values of met whole = record { count = met.count ∙ of.vars; met = whole }

pub last_in : (xs : List ℕ) (at : ℕ) → at < length xs → Contains xs (get_or xs at 0)
last_in xs at lt = (at, lt, get_or_default xs at (get_or xs at 0) 0 lt)

pub more_in : (xs chosen next : List ℕ) (i : ℕ) → All (Contains xs) chosen → i < length xs → next ≡ chosen ++ get_or xs i 0 ∷ [] → All (Contains xs) next
more_in xs chosen next i all lt e = let P : List ℕ → Type 0 = λ ns. All (Contains xs) ns in subst P (sym e) (All-push (Contains xs) chosen (get_or xs i 0) all (last_in xs i lt))

pub in_same : (xs ys zs ws : List ℕ) → xs ≡ zs → ys ≡ ws → All (Contains zs) ws → All (Contains xs) ys
in_same xs ys zs ws one two all =
    let P : List ℕ → Type 0 = λ ns. All (Contains ns) ys in
    let Q : List ℕ → Type 0 = λ ns. All (Contains zs) ns in
    subst P (sym one) (subst Q (sym two) all)

-- the parts of a question that is a part
pub part_of : (q : Asked) (vars : ℕ) (nodes : List QNode) (numbers conjuncts chosen : List ℕ) (asked : ℕ) → vars ≡ q.vars → nodes ≡ q.nodes → asked ≡ q.asked → numbers ≡ q.conjuncts → conjuncts ≡ chosen → All (Contains numbers) chosen
    → IsPart q (record { vars = vars; nodes = nodes; conjuncts = conjuncts; asked = asked })
part_of q vars nodes numbers conjuncts chosen asked one two three four five all = record {
  vars = one;
  nodes = two;
  asked = three;
  conjuncts = in_same q.conjuncts conjuncts numbers chosen (sym four) five all;
}
