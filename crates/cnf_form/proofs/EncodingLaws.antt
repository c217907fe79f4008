-- Clauses of gates: what they say of the values, and that the walk over the cone writes them all.
use Rattle.std.proofs.Common.{◌≡◌, ◌≢◌, ◌⊎◌, ℕ, zero, suc, ◌<◌, ◌≤◌, ◌+◌, ◌*◌, Bool, true, false, not, ◌&&◌, ◌||◌, cond, List, [], ◌∷◌, ◌++◌, length, get_or, set, map, replicate, Some, None, refl, sym, ◌∙◌, ap, subst, inl, inr, arith}
use Rattle.std.specs.Prelude.{slice_get, All, Contains, sum_by}
use Rattle.std.specs.List.{range_with_len}
use Rattle.std.specs.Option.{option_and_then}
use Rattle.std.proofs.lemmas.Bool.{and_parts, and_from, lt-ltb, cases_lt, cases_eq, false≢true}
use Rattle.std.proofs.lemmas.Option.{slice_get-get_or, slice_get_within, same_Some}
use Rattle.std.proofs.lemmas.List.{length-set, get_or-replicate, length-replicate, length_push, length-append, get_or_append_left, get_or_push, get_or_past, get_or-set_same, get_or-set_other}
use Rattle.std.proofs.lemmas.List.Elements.{All-append, Contains-append_left, Contains-append_right, Contains-append_cases}
use Rattle.std.proofs.lemmas.List.Folds.{list_all-append}
use Rattle.std.proofs.lemmas.List.FromFn.{length-map-range_with_len, get_or-map-range_with_len}
use Rattle.std.proofs.lemmas.List.Sums.{sum_by-set}
use Rattle.gate_form.specs.declared.wire.Wire.{Wire}
use Rattle.gate_form.specs.declared.wire.Gate.{Gate}
use Rattle.gate_form.specs.declared.wire.Gate.TheVariants.{True, Input, And}
use Rattle.gate_form.specs.Net.{bit, negated, operands_of, IsNet, MayStand, AreIn}
use Rattle.gate_form.specs.Run.{IsRight, IsRun, HasInputs}
use Rattle.gate_form.specs.Values.{run_of}
use Rattle.cnf_form.specs.declared.lit.Lit.{Lit}
use Rattle.cnf_form.specs.Literals.{same_sign}
use Rattle.cnf_form.specs.Clauses.{is_clause}
use Rattle.cnf_form.specs.Solutions.{holds, is_met, are_met, is_value}
use Rattle.cnf_form.specs.Encoding.{gate_value, AreTrue, IsEncoding}
use Rattle.cnf_form.specs.Writing.{lit_of, operand_gates, IsBegun, IsWritten}

signed_value : (x n : Bool) → same_sign x (not n) ≡ cond n (not x) x
signed_value true true = refl
signed_value true false = refl
signed_value false true = refl
signed_value false false = refl

-- the literal of a wire is true where the wire is
pub holds_bit : (values : List Bool) (w : Wire) → w.gate < length values → holds values (lit_of w) ≡ bit (gate_value values) w
holds_bit values w h =
    ap (λ o. is_value o (not w.negated)) (slice_get-get_or values w.gate false h) ∙ signed_value (get_or values w.gate false) w.negated

or_false : (b : Bool) → (b || false) ≡ b
or_false true = refl
or_false false = refl

and_true : (b : Bool) → (b && true) ≡ b
and_true true = refl
and_true false = refl

pub are_met-push : (values : List Bool) (cs : List (List Lit)) (c : List Lit) → are_met values (cs ++ c ∷ []) ≡ (are_met values cs && is_met values c)
are_met-push values cs c = list_all-append (is_met values) cs (c ∷ []) ∙ ap (λ b. are_met values cs && b) (and_true (is_met values c))

met_one : (values : List Bool) (w : Wire) → w.gate < length values → is_met values (lit_of w ∷ []) ≡ bit (gate_value values) w
met_one values w h = or_false (holds values (lit_of w)) ∙ holds_bit values w h

-- a clause of one literal
pub is_clause-one : (vars : ℕ) (x : Lit) → x.var < vars → is_clause vars (x ∷ []) ≡ true
is_clause-one vars x h = rw (lt-ltb x.var vars h) refl

-- the three clauses of a conjunction
three : (m g a b : Bool) → (((m && (a || (not g || false))) && (b || (not g || false))) && (not a || (not b || (g || false)))) ≡ (m && same_sign g (a && b))
three true true true true = refl
three true true true false = refl
three true true false b = refl
three true false true true = refl
three true false true false = refl
three true false false true = refl
three true false false false = refl
three false g a b = refl

-- what the three clauses say of the values
pub conjunction_value : (values : List Bool) (old c1 c2 c3 : List (List Lit)) (a b na nb on off : Wire)
    → c1 ≡ old ++ (lit_of a ∷ lit_of off ∷ []) ∷ [] → c2 ≡ c1 ++ (lit_of b ∷ lit_of off ∷ []) ∷ [] → c3 ≡ c2 ++ (lit_of na ∷ lit_of nb ∷ lit_of on ∷ []) ∷ []
    → a.gate < length values → b.gate < length values → on.gate < length values → na ≡ negated a → nb ≡ negated b → off ≡ negated on
    → are_met values c3 ≡ (are_met values old && same_sign (bit (gate_value values) on) (bit (gate_value values) a && bit (gate_value values) b))
conjunction_value values old c1 c2 c3 a b na nb on off e1 e2 e3 ha hb hg ea eb eo =
    let v = gate_value values in
    let fa : holds values (lit_of a) ≡ bit v a = holds_bit values a ha in
    let fb : holds values (lit_of b) ≡ bit v b = holds_bit values b hb in
    let fon : holds values (lit_of on) ≡ bit v on = holds_bit values on hg in
    let fna : holds values (lit_of na) ≡ not (bit v a) = rw ea (holds_bit values (negated a) ha ∙ bit-negated v a) in
    let fnb : holds values (lit_of nb) ≡ not (bit v b) = rw eb (holds_bit values (negated b) hb ∙ bit-negated v b) in
    let foff : holds values (lit_of off) ≡ not (bit v on) = rw eo (holds_bit values (negated on) hg ∙ bit-negated v on) in
    rw e3 (rw (are_met-push values c2 (lit_of na ∷ lit_of nb ∷ lit_of on ∷ [])) (rw e2 (rw (are_met-push values c1 (lit_of b ∷ lit_of off ∷ [])) (rw e1 (rw (are_met-push values old (lit_of a ∷ lit_of off ∷ []))
    (rw fa (rw fb (rw fon (rw fna (rw fnb (rw foff (three (are_met values old) (bit v on) (bit v a) (bit v b)))))))))))))
  where
    not_not : (b : Bool) → not (not b) ≡ b
    not_not true = refl
    not_not false = refl

    bit-negated : (v : ℕ → Bool) (w : Wire) → bit v (negated w) ≡ not (bit v w)
    bit-negated v w = elim w.negated as (λ (b : Bool). cond (not b) (not (v w.gate)) (v w.gate) ≡ not (cond b (not (v w.gate)) (v w.gate))) [ true ↦ sym (not_not (v w.gate)) | false ↦ refl ]

-- and where it begins with the operands in the other order
pub conjunction_value_turned : (values : List Bool) (old c1 c2 c3 : List (List Lit)) (a b na nb on off : Wire)
    → c1 ≡ old ++ (lit_of a ∷ lit_of off ∷ []) ∷ [] → c2 ≡ c1 ++ (lit_of b ∷ lit_of off ∷ []) ∷ [] → c3 ≡ c2 ++ (lit_of nb ∷ lit_of na ∷ lit_of on ∷ []) ∷ []
    → a.gate < length values → b.gate < length values → on.gate < length values → na ≡ negated a → nb ≡ negated b → off ≡ negated on
    → are_met values c3 ≡ (are_met values old && same_sign (bit (gate_value values) on) (bit (gate_value values) a && bit (gate_value values) b))
conjunction_value_turned values old c1 c2 c3 a b na nb on off e1 e2 e3 ha hb hg ea eb eo =
    let v = gate_value values in
    let turned : are_met values c3 ≡ are_met values (c2 ++ (lit_of na ∷ lit_of nb ∷ lit_of on ∷ []) ∷ []) =
    rw e3 (rw (are_met-push values c2 (lit_of nb ∷ lit_of na ∷ lit_of on ∷ [])) (rw (are_met-push values c2 (lit_of na ∷ lit_of nb ∷ lit_of on ∷ [])) (ap (λ x. are_met values c2 && x) (or_turn (holds values (lit_of nb)) (holds values (lit_of na)) _)))) in
    turned ∙ conjunction_value values old c1 c2 (c2 ++ (lit_of na ∷ lit_of nb ∷ lit_of on ∷ []) ∷ []) a b na nb on off e1 e2 refl ha hb hg ea eb eo
  where
    or_turn : (x y z : Bool) → (x || (y || z)) ≡ (y || (x || z))
    or_turn true true z = refl
    or_turn true false z = refl
    or_turn false true z = refl
    or_turn false false z = refl

same_true : (b c : Bool) → same_sign b c ≡ true → b ≡ c
same_true true c h = sym h
same_true false true h = cc
same_true false false h = refl

true_same : (b c : Bool) → b ≡ c → same_sign b c ≡ true
true_same true true h = refl
true_same true false h = cc
true_same false true h = cc
true_same false false h = refl

conjunction_right : (v : ℕ → Bool) (i : ℕ) (a b : Wire) (g : Gate) → And a b ≡ g → v i ≡ (bit v a && bit v b) → IsRight v i g
conjunction_right v i a b g e h = let P : Gate → Type 0 = IsRight v i in subst P e h

right_conjunction : (v : ℕ → Bool) (i : ℕ) (a b : Wire) (g : Gate) → And a b ≡ g → IsRight v i g → v i ≡ (bit v a && bit v b)
right_conjunction v i a b g e h = let P : Gate → Type 0 = IsRight v i in subst P (sym e) h

-- the clauses of a conjunction say what the gate asks for
pub IsWritten-and : (gates : List Gate) (gate : ℕ) (old new : List (List Lit)) (a b : Wire) → slice_get gates gate ≡ Some (And a b)
    → ((values : List Bool) → length values ≡ length gates → are_met values new ≡ (are_met values old && same_sign (gate_value values gate) (bit (gate_value values) a && bit (gate_value values) b)))
    → IsWritten gates gate old new
IsWritten-and gates gate old new a b at value = record {
  stays = λ values count met. (and_parts _ _ (sym (value values count) ∙ met)).0;
  right = λ values g count met here. conjunction_right (gate_value values) gate a b g (same_Some _ _ (sym at ∙ here)) (same_true _ _ (and_parts _ _ (sym (value values count) ∙ met)).1);
  met = λ values count met right. value values count ∙ and_from _ _ met (true_same _ _ (right (And a b) at));
}

no_conjunction : (v : ℕ → Bool) (i : ℕ) (g : Gate) → operands_of g ≡ None → IsRight v i g
no_conjunction v i True h = tt
no_conjunction v i (Input n) h = tt
no_conjunction v i (And a b) h = cc

-- other gates ask for nothing
pub IsWritten-other : (gates : List Gate) (gate : ℕ) (clauses : List (List Lit)) → ((g : Gate) → slice_get gates gate ≡ Some g → operands_of g ≡ None) → IsWritten gates gate clauses clauses
IsWritten-other gates gate clauses none = record {
  stays = λ _ _ met. met;
  right = λ values g count met at. no_conjunction (gate_value values) gate g (none g at);
  met = λ _ _ met _. met;
}

All-none : {X : Type 0} (P : X → Type 0) → All P []
All-none P k d lt = absurd (omega arith)

All-one : {X : Type 0} (P : X → Type 0) (x : X) → P x → All P (x ∷ [])
All-one P x h zero d lt = h
All-one P x h (suc k) d lt = absurd (omega arith)

contains_first : {X : Type 0} (xs : List X) (x : X) → Contains (x ∷ xs) x
contains_first xs x = (0, omega arith, refl)

-- the clause of gate 0
pub IsBegun-start : (vars : ℕ) (clauses : List (List Lit)) (w : Wire) → 0 < vars → w.gate ≡ 0 → w.negated ≡ false → clauses ≡ [] ++ (lit_of w ∷ []) ∷ [] → IsBegun vars [] clauses []
IsBegun-start vars clauses w some at pos e = record {
  first = λ values count met. sym (value values count) ∙ met;
  true_roots = λ values count met. All-none (λ w. bit (gate_value values) w ≡ true);
  met = λ values count first roots. value values count ∙ first;
  all = All-none (λ w. Contains [] w.gate);
  inside = All-none (λ k. k < vars);
}
  where
    value : (values : List Bool) → length values ≡ vars → are_met values clauses ≡ gate_value values 0
    value values count = ap (are_met values) e ∙ and_true (is_met values (lit_of w ∷ [])) ∙ met_one values w (omega (arith, at, count, some)) ∙ (rw pos (rw at refl))

-- one more root
pub IsBegun-more : (vars : ℕ) (roots : List Wire) (clauses new : List (List Lit)) (below more : List ℕ) (w : Wire) → IsBegun vars roots clauses below → w.gate < vars
    → new ≡ clauses ++ (lit_of w ∷ []) ∷ [] → more ≡ below ++ w.gate ∷ [] → IsBegun vars (roots ++ w ∷ []) new more
IsBegun-more vars roots clauses new below more w was lt e1 e2 = record {
  first = λ values count met. was.first values count (parts values count met).0;
  true_roots = λ values count met. All-append (λ x. bit (gate_value values) x ≡ true) roots (w ∷ []) (was.true_roots values count (parts values count met).0) (All-one (λ x. bit (gate_value values) x ≡ true) w (parts values count met).1);
  met = λ values count first trues. value values count ∙ and_from _ _ (was.met values count first (λ k d h. front values trues k d h)) (last values trues);
  all = rw e2 (All-append (λ x. Contains (below ++ w.gate ∷ []) x.gate) roots (w ∷ []) (λ k d h. Contains-append_left below (w.gate ∷ []) (get_or roots k d).gate (was.all k d h))
      (All-one (λ x. Contains (below ++ w.gate ∷ []) x.gate) w (Contains-append_right below (w.gate ∷ []) w.gate (contains_first [] w.gate))));
  inside = rw e2 (All-append (λ k. k < vars) below (w.gate ∷ []) was.inside (All-one (λ k. k < vars) w.gate lt));
}
  where
    value : (values : List Bool) → length values ≡ vars → are_met values new ≡ (are_met values clauses && bit (gate_value values) w)
    value values count = ap (are_met values) e1 ∙ are_met-push values clauses (lit_of w ∷ []) ∙ ap (λ b. are_met values clauses && b) (met_one values w (omega (arith, count, lt)))

    parts : (values : List Bool) → length values ≡ vars → are_met values new ≡ true → (are_met values clauses ≡ true) × (bit (gate_value values) w ≡ true)
    parts values count met = and_parts _ _ (sym (value values count) ∙ met)

    front : (values : List Bool) → AreTrue (gate_value values) (roots ++ w ∷ []) → AreTrue (gate_value values) roots
    front values trues k d h =
        let P : Wire → Type 0 = λ x. bit (gate_value values) x ≡ true in
        subst P (get_or_append_left roots (w ∷ []) d k h) (trues k d (omega (arith, length_push roots w)))

    last : (values : List Bool) → AreTrue (gate_value values) (roots ++ w ∷ []) → bit (gate_value values) w ≡ true
    last values trues =
        let P : Wire → Type 0 = λ x. bit (gate_value values) x ≡ true in
        subst P (get_or_push roots w w (length roots) refl) (trues (length roots) w (omega (arith, length_push roots w)))

-- whether a gate was written or is still to be
abbrev pub InCone : List Bool → List ℕ → ℕ → Type 0
InCone seen below k = (get_or seen k false ≡ true) ⊎ Contains below k

-- the clauses so far: they say that gate 0, the roots and each seen gate are right, and nothing that a run doesn't meet;
-- the operands of each seen gate, and the roots, are seen or waiting
pub record Walking (gates : List Gate) (roots : List Wire) (clauses : List (List Lit)) (seen : List Bool) (below : List ℕ) : Type 0 where
  pub first : (values : List Bool) → length values ≡ length gates → are_met values clauses ≡ true → gate_value values 0 ≡ true
  pub true_roots : (values : List Bool) → length values ≡ length gates → are_met values clauses ≡ true → AreTrue (gate_value values) roots
  pub right : (values : List Bool) (i : ℕ) (g : Gate) → length values ≡ length gates → are_met values clauses ≡ true → get_or seen i false ≡ true → slice_get gates i ≡ Some g → IsRight (gate_value values) i g
  pub met : (values : List Bool) → length values ≡ length gates → IsRun (gate_value values) gates → AreTrue (gate_value values) roots → are_met values clauses ≡ true
  pub closed : (i : ℕ) (a b : Wire) → get_or seen i false ≡ true → slice_get gates i ≡ Some (And a b) → InCone seen below a.gate × InCone seen below b.gate
  pub all : All (λ w. InCone seen below w.gate) roots
  pub wide : length seen ≡ length gates
  pub inside : All (λ k. k < length gates) below

none_seen : (n k : ℕ) → get_or (replicate n false) k false ≡ false
none_seen n k = elim (cases_lt k n) [ inl h ↦ get_or-replicate n k false false h | inr h ↦ get_or_past (replicate n false) k false (omega (arith, length-replicate n false)) ]

pub Walking-start : (gates : List Gate) (roots : List Wire) (clauses : List (List Lit)) (seen : List Bool) (below : List ℕ) → IsBegun (length gates) roots clauses below → seen ≡ replicate (length gates) false → Walking gates roots clauses seen below
Walking-start gates roots clauses seen below was e = record {
  first = was.first;
  true_roots = was.true_roots;
  right = λ values i g count met on at. absurd (false≢true (sym (none i) ∙ on));
  met = λ values count run trues. was.met values count run.first trues;
  closed = λ i a b on at. absurd (false≢true (sym (none i) ∙ on));
  all = λ k d h. inr (was.all k d h);
  wide = ap length e ∙ length-replicate (length gates) false;
  inside = was.inside;
}
  where
    none : (i : ℕ) → get_or seen i false ≡ false
    none i = ap (λ xs. get_or xs i false) e ∙ none_seen (length gates) i

last_of : (rest : List ℕ) (x k : ℕ) → Contains (rest ++ x ∷ []) k → Contains rest k ⊎ (k ≡ x)
last_of rest x k h = elim (Contains-append_cases rest (x ∷ []) k h) [ inl l ↦ inl l | inr r ↦ inr (only r) ]
  where
    only : Contains (x ∷ []) k → k ≡ x
    only (zero, lt, e) = sym e
    only (suc n, lt, e) = absurd (omega arith)

front_of : (P : ℕ → Type 0) (rest : List ℕ) (x : ℕ) → All P (rest ++ x ∷ []) → All P rest
front_of P rest x h k d lt = subst P (get_or_append_left rest (x ∷ []) d k lt) (h k d (omega (arith, length_push rest x)))

-- a gate that was written already
pub Walking-skip : (gates : List Gate) (roots : List Wire) (clauses : List (List Lit)) (seen : List Bool) (below rest : List ℕ) (gate : ℕ) → Walking gates roots clauses seen below → below ≡ rest ++ gate ∷ [] → get_or seen gate false ≡ true
    → Walking gates roots clauses seen rest
Walking-skip gates roots clauses seen below rest gate was e on = record {
  first = was.first;
  true_roots = was.true_roots;
  right = was.right;
  met = was.met;
  closed = λ i a b h at. (still a.gate (was.closed i a b h at).0, still b.gate (was.closed i a b h at).1);
  all = λ k d h. still (get_or roots k d).gate (was.all k d h);
  wide = was.wide;
  inside = front_of (λ k. k < length gates) rest gate (let P : List ℕ → Type 0 = All (λ k. k < length gates) in subst P e was.inside);
}
  where
    still : (k : ℕ) → InCone seen below k → InCone seen rest k
    still k (inl h) = inl h
    still k (inr h) = elim (last_of rest gate k (let P : List ℕ → Type 0 = λ xs. Contains xs k in subst P e h)) [ inl l ↦ inr l | inr r ↦ inl (ap (λ n. get_or seen n false) r ∙ on) ]

operands_wait : (rest : List ℕ) (g : Gate) (a b : Wire) → And a b ≡ g → Contains (rest ++ operand_gates g) a.gate × Contains (rest ++ operand_gates g) b.gate
operands_wait rest g a b e =
    let P : Gate → Type 0 = λ h. Contains (rest ++ operand_gates h) a.gate × Contains (rest ++ operand_gates h) b.gate in
    subst P e (Contains-append_right rest (a.gate ∷ b.gate ∷ []) a.gate (contains_first (b.gate ∷ []) a.gate), Contains-append_right rest (a.gate ∷ b.gate ∷ []) b.gate (1, omega arith, refl))

operands_inside : (gates : List Gate) (i : ℕ) (g : Gate) → MayStand i g → i < length gates → All (λ k. k < length gates) (operand_gates g)
operands_inside gates i True may lt = All-none (λ k. k < length gates)
operands_inside gates i (Input n) may lt = All-none (λ k. k < length gates)
operands_inside gates i (And a b) may lt =
    All-append (λ k. k < length gates) (a.gate ∷ []) (b.gate ∷ []) (All-one (λ k. k < length gates) a.gate (omega (arith, may.left))) (All-one (λ k. k < length gates) b.gate (omega (arith, may.right)))

-- a gate that is written now
pub Walking-more : (gates : List Gate) (roots : List Wire) (clauses new : List (List Lit)) (seen marked : List Bool) (below rest more : List ℕ) (gate : ℕ) → IsNet gates → Walking gates roots clauses seen below → below ≡ rest ++ gate ∷ []
    → gate < length gates → marked ≡ set seen gate true → IsWritten gates gate clauses new → ((g : Gate) → slice_get gates gate ≡ Some g → more ≡ rest ++ operand_gates g)
    → Walking gates roots new marked more
Walking-more gates roots clauses new seen marked below rest more gate net was e lt m written waits = record {
  first = λ values count met. was.first values count (written.stays values count met);
  true_roots = λ values count met. was.true_roots values count (written.stays values count met);
  right = λ values i g count met on at. elim (cases_eq i gate) [
    | inl same ↦ (let P : ℕ → Type 0 = λ k. slice_get gates k ≡ Some g in let Q : ℕ → Type 0 = λ k. IsRight (gate_value values) k g in
        subst Q (sym same) (written.right values g count met (subst P same at)))
    | inr other ↦ was.right values i g count (written.stays values count met) (sym (old i other) ∙ on) at
  ];
  met = λ values count run trues. written.met values count (was.met values count run trues) (λ g at. run.right gate g at);
  closed = λ i a b on at. elim (cases_eq i gate) [
    | inl same ↦ (let P : ℕ → Type 0 = λ k. slice_get gates k ≡ Some (And a b) in
        let here = operands_wait rest (get_or gates gate True) a b (same_Some _ _ (sym (subst P same at) ∙ there)) in
        (inr (rw waiting here.0), inr (rw waiting here.1)))
    | inr other ↦ (still a.gate (was.closed i a b (sym (old i other) ∙ on) at).0, still b.gate (was.closed i a b (sym (old i other) ∙ on) at).1)
  ];
  all = λ k d h. still (get_or roots k d).gate (was.all k d h);
  wide = ap length m ∙ length-set seen gate true ∙ was.wide;
  inside = rw waiting (All-append (λ k. k < length gates) rest (operand_gates (get_or gates gate True))
      (front_of (λ k. k < length gates) rest gate (let P : List ℕ → Type 0 = All (λ k. k < length gates) in subst P e was.inside))
      (operands_inside gates gate (get_or gates gate True) (net.standing gate (get_or gates gate True) there) lt));
}
  where
    there : slice_get gates gate ≡ Some (get_or gates gate True)
    there = slice_get-get_or gates gate True lt

    waiting : more ≡ rest ++ operand_gates (get_or gates gate True)
    waiting = waits (get_or gates gate True) there

    old : (i : ℕ) → i ≢ gate → get_or marked i false ≡ get_or seen i false
    old i other = ap (λ xs. get_or xs i false) m ∙ get_or-set_other seen gate i true false other

    now : get_or marked gate false ≡ true
    now = ap (λ xs. get_or xs gate false) m ∙ get_or-set_same seen gate true false (omega (arith, was.wide))

    marked_too : (k : ℕ) → get_or seen k false ≡ true → get_or marked k false ≡ true
    marked_too k h = elim (cases_eq k gate) [ inl same ↦ ap (λ n. get_or marked n false) same ∙ now | inr other ↦ old k other ∙ h ]

    still : (k : ℕ) → InCone seen below k → InCone marked more k
    still k (inl h) = inl (marked_too k h)
    still k (inr h) = elim (last_of rest gate k (let P : List ℕ → Type 0 = λ xs. Contains xs k in subst P e h)) [
      | inl l ↦ inr (rw waiting (Contains-append_left rest (operand_gates (get_or gates gate True)) k l))
      | inr r ↦ inl (ap (λ n. get_or marked n false) r ∙ now)
    ]

-- how many gates were not written yet
abbrev pub unseen : List Bool → ℕ
unseen seen = sum_by (λ b. cond b 0 1) seen

pub unseen-less : (seen : List Bool) (gate : ℕ) → gate < length seen → get_or seen gate false ≡ false → unseen (set seen gate true) + 1 ≡ unseen seen
unseen-less seen gate lt off = omega (arith, sum_by-set (λ b. cond b 0 1) seen gate true false lt, ap {B = ℕ} (λ (b : Bool). cond b 0 1) off)

-- all gates on which the roots depend were written: a solution is a run there
same_value : (gates : List Gate) (roots : List Wire) (clauses : List (List Lit)) (seen values : List Bool) (x v : ℕ → Bool) → Walking gates roots clauses seen [] → length values ≡ length gates → are_met values clauses ≡ true
    → HasInputs x (gate_value values) gates → IsRun v gates → HasInputs x v gates → (i : ℕ) (g : Gate) → slice_get gates i ≡ Some g → MayStand i g → get_or seen i false ≡ true
    → ((k : ℕ) → k < i → get_or seen k false ≡ true → v k ≡ gate_value values k) → v i ≡ gate_value values i
same_value gates roots clauses seen values x v was count met hx run hv i True at may on below = ap v may ∙ run.first ∙ sym (was.first values count met) ∙ sym (ap (gate_value values) may)
same_value gates roots clauses seen values x v was count met hx run hv i (Input n) at may on below = hv.at i n at ∙ sym (hx.at i n at)
same_value gates roots clauses seen values x v was count met hx run hv i (And a b) at may on below =
    let both = was.closed i a b on at in
    run.right i (And a b) at ∙ (rw (below a.gate may.left (done a.gate both.0)) (rw (below b.gate may.right (done b.gate both.1)) (sym (was.right values i (And a b) count met on at))))
  where
    done : (k : ℕ) → InCone seen [] k → get_or seen k false ≡ true
    done k (inl h) = h
    done k (inr (n, lt, e)) = absurd (omega arith)

same_below : (gates : List Gate) (roots : List Wire) (clauses : List (List Lit)) (seen values : List Bool) (x v : ℕ → Bool) → IsNet gates → Walking gates roots clauses seen [] → length values ≡ length gates → are_met values clauses ≡ true
    → HasInputs x (gate_value values) gates → IsRun v gates → HasInputs x v gates → (n i : ℕ) → i < n → get_or seen i false ≡ true → v i ≡ gate_value values i
same_below gates roots clauses seen values x v net was count met hx run hv zero i lt on = absurd (omega arith)
same_below gates roots clauses seen values x v net was count met hx run hv (suc n) i lt on = elim (cases_lt i (length gates)) [
  | inl h ↦ (let at : slice_get gates i ≡ Some (get_or gates i True) = slice_get-get_or gates i True h in
      same_value gates roots clauses seen values x v was count met hx run hv i (get_or gates i True) at (net.standing i (get_or gates i True) at) on
      (λ k less there. same_below gates roots clauses seen values x v net was count met hx run hv n k (omega arith) there))
  | inr h ↦ absurd (false≢true (sym (get_or_past seen i false (omega (arith, was.wide))) ∙ on))
]

-- the first n values of a run, as a list
abbrev listed : (ℕ → Bool) → ℕ → List Bool
listed v n = map v (range_with_len 0 n)

listed_at : (v : ℕ → Bool) (n i : ℕ) → i < n → gate_value (listed v n) i ≡ v i
listed_at v n i h = get_or-map-range_with_len v 0 n i i false h (omega arith)

listed_bit : (v : ℕ → Bool) (n : ℕ) (w : Wire) → w.gate < n → bit (gate_value (listed v n)) w ≡ bit v w
listed_bit v n w h = ap (λ (b : Bool). cond w.negated (not b) b) (listed_at v n w.gate h)

listed_right : (v : ℕ → Bool) (gates : List Gate) (i : ℕ) (g : Gate) → i < length gates → MayStand i g → IsRight v i g → IsRight (gate_value (listed v (length gates))) i g
listed_right v gates i True lt may right = tt
listed_right v gates i (Input n) lt may right = tt
listed_right v gates i (And a b) lt may right =
    listed_at v (length gates) i lt ∙ right ∙ sym (rw (listed_bit v (length gates) a (omega (arith, may.left))) (rw (listed_bit v (length gates) b (omega (arith, may.right))) refl))

listed_run : (v : ℕ → Bool) (gates : List Gate) → IsNet gates → IsRun v gates → IsRun (gate_value (listed v (length gates))) gates
listed_run v gates net run = record {
  first = listed_at v (length gates) 0 (slice_get_within gates 0 True net.first) ∙ run.first;
  right = λ i g at. listed_right v gates i g (slice_get_within gates i g at) (net.standing i g at) (run.right i g at);
}

pub finished : (gates : List Gate) (roots : List Wire) (clauses : List (List Lit)) (seen : List Bool) (below : List ℕ) → IsNet gates → AreIn gates roots → Walking gates roots clauses seen below → below ≡ [] → IsEncoding gates roots clauses
finished gates roots clauses seen below net inside walked empty = record {
  reads = λ values x count met hx v run hv k d h.
      (let w = get_or roots k d in
      let equal : v w.gate ≡ gate_value values w.gate = same_below gates roots clauses seen values x v net was count met hx run hv (w.gate + 1) w.gate (omega arith) (done w.gate (was.all k d h)) in
      ap (λ (b : Bool). cond w.negated (not b) b) equal ∙ was.true_roots values count met k d h);
  solves = λ x makes.
      (let found = run_of x gates net in
      let n = length gates in
      let v = found.values in
      let count : length (listed v n) ≡ n = length-map-range_with_len v 0 n in
      record {
        values = listed v n;
        count = count;
        met = was.met (listed v n) count (listed_run v gates net found.run) (λ k d h. listed_bit v n (get_or roots k d) (inside k d h) ∙ makes v found.run found.inputs k d h);
        inputs = record { at = λ i m at. listed_at v n i (slice_get_within gates i (Input m) at) ∙ found.inputs.at i m at };
      });
}
  where
    was : Walking gates roots clauses seen []
    was = let P : List ℕ → Type 0 = Walking gates roots clauses seen in subst P empty walked

    done : (k : ℕ) → InCone seen [] k → get_or seen k false ≡ true
    done k (inl h) = h
    done k (inr (n, lt, e)) = absurd (omega arith)

kind_of : (a b : Wire) (g : Gate) → Some (a, b) ≡ operands_of g → g ≡ And a b
kind_of a b True h = cc
kind_of a b (Input n) h = cc
kind_of a b (And x y) h =
    let pair : ◌≡◌ {A = Wire × Wire} (a, b) (x, y) = cc in
    ap (λ (t : Wire × Wire). And (t.0) (t.1)) (sym pair)

-- a gate with operands is their conjunction
pub operands_found : (gates : List Gate) (i : ℕ) (a b : Wire) → i < length gates → Some (a, b) ≡ option_and_then operands_of (slice_get gates i) → slice_get gates i ≡ Some (And a b)
operands_found gates i a b lt h =
    let at : slice_get gates i ≡ Some (get_or gates i True) = slice_get-get_or gates i True lt in
    at ∙ ap (λ (g : Gate). Some g) (kind_of a b (get_or gates i True) (h ∙ ap (option_and_then operands_of) at))

-- a gate that waits is in the list
pub popped-inside : (gates : List Gate) (roots : List Wire) (clauses : List (List Lit)) (seen : List Bool) (below rest : List ℕ) (gate : ℕ) → Walking gates roots clauses seen below → below ≡ rest ++ gate ∷ [] → gate < length gates
popped-inside gates roots clauses seen below rest gate was e =
    let P : List ℕ → Type 0 = All (λ k. k < length gates) in
    let all : All (λ k. k < length gates) (rest ++ gate ∷ []) = subst P e was.inside in
    let Q : ℕ → Type 0 = λ k. k < length gates in
    subst Q (get_or_push rest gate 0 (length rest) refl) (all (length rest) 0 (omega (arith, length_push rest gate)))

any_default : (xs : List Bool) (i : ℕ) (d e : Bool) → i < length xs → get_or xs i d ≡ get_or xs i e
any_default [] i d e h = absurd (omega arith)
any_default (x ∷ xs) zero d e h = refl
any_default (x ∷ xs) (suc i) d e h = any_default xs i d e (omega arith)

-- a mark as it was read
pub seen_as : (seen : List Bool) (i : ℕ) (now b : Bool) → i < length seen → now ≡ get_or seen i now → now ≡ b → get_or seen i false ≡ b
seen_as seen i now b h read e = any_default seen i false now h ∙ sym read ∙ e

few_operands : (g : Gate) → length (operand_gates g) ≤ 2
few_operands True = omega arith
few_operands (Input n) = omega arith
few_operands (And a b) = omega arith

-- what is left to do
pub smaller : (gates : List Gate) (seen : List Bool) (below rest more : List ℕ) (gate : ℕ) → gate < length gates → length seen ≡ length gates → get_or seen gate false ≡ false → below ≡ rest ++ gate ∷ []
    → ((g : Gate) → slice_get gates gate ≡ Some g → more ≡ rest ++ operand_gates g) → 3 * unseen (set seen gate true) + length more < 3 * unseen seen + length below
smaller gates seen below rest more gate lt wide off e waits =
    let g = get_or gates gate True in
    let more_is = ap length (waits g (slice_get-get_or gates gate True lt)) in
    omega (arith, unseen-less seen gate (omega (arith, wide)) off, ap length e, length_push rest gate, more_is, length-append rest (operand_gates g), few_operands g)

pub empty_of : (xs : List ℕ) → length xs ≡ 0 → xs ≡ []
empty_of [] h = refl
empty_of (x ∷ xs) h = absurd (omega arith)
