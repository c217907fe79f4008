-- Each assignment of the inputs has a run, and no two.
use Rattle.std.proofs.Common.{◌≡◌, ℕ, zero, suc, ◌+◌, ◌<◌, ◌≤◌, Bool, true, false, List, [], ◌∷◌, ◌++◌, length, get_or, Some, refl, ap, ◌∙◌, sym, subst, arith, fold}
use Rattle.std.specs.Prelude.{slice_get, ◌&&◌}
use Rattle.std.proofs.lemmas.List.{get_or_append_left, get_or_push, length_push}
use Rattle.std.proofs.lemmas.Option.{slice_get-get_or}
use Rattle.gate_form.specs.declared.wire.Gate.{Gate}
use Rattle.gate_form.specs.declared.wire.Gate.TheVariants.{True, Input, And}
use Rattle.gate_form.specs.Net.{bit, MayStand, IsNet}
use Rattle.gate_form.specs.Run.{IsRight, IsRun, HasInputs}

-- the values of all gates where x has the inputs
pub record RunOf (x : ℕ → Bool) (gates : List Gate) : Type 0 where
  pub values : ℕ → Bool
  pub run : IsRun values gates
  pub inputs : HasInputs x values gates

-- two runs with the same inputs give each gate the same value
abbrev pub HasOneRun : (ℕ → Bool) → List Gate → Type 0
HasOneRun x gates = (v w : ℕ → Bool) → IsRun v gates → IsRun w gates → HasInputs x v gates → HasInputs x w gates
    → (i : ℕ) → i < length gates → v i ≡ w i

-- the value of a gate where x has the inputs and v the earlier gates
abbrev pub gate_value : (ℕ → Bool) → (ℕ → Bool) → Gate → Bool
gate_value x v True = true
gate_value x v (Input n) = x n
gate_value x v (And a b) = bit v a && bit v b

-- the value at an index
abbrev pub value_at : List Bool → ℕ → Bool
value_at values i = get_or values i false

-- the values with that of the next gate
abbrev pub with_value : (ℕ → Bool) → List Bool → Gate → List Bool
with_value x values g = values ++ gate_value x (value_at values) g ∷ []

-- the values of all gates, one after another
unfoldable pub values_of : (ℕ → Bool) → List Gate → List Bool
values_of x gates = fold (with_value x) [] gates

gate_value-same : (x v w : ℕ → Bool) (i : ℕ) (g : Gate) → MayStand i g → ((k : ℕ) → k < i → v k ≡ w k) → gate_value x v g ≡ gate_value x w g
gate_value-same x v w i True may same = refl
gate_value-same x v w i (Input n) may same = refl
gate_value-same x v w i (And a b) may same = rw (same a.gate may.left) (rw (same b.gate may.right) refl)

kept : (x : ℕ → Bool) (values : List Bool) (gates : List Gate) (i : ℕ) → i < length values → value_at (fold (with_value x) values gates) i ≡ value_at values i
kept x values [] i lt = refl
kept x values (g ∷ gates) i lt =
    let new = gate_value x (value_at values) g in
    kept x (with_value x values g) gates i (omega (arith, length_push values new)) ∙ get_or_append_left values (new ∷ []) false i lt

valued : (x : ℕ → Bool) (values : List Bool) (gates : List Gate) (start : ℕ) → length values ≡ start → ((k : ℕ) (g : Gate) → slice_get gates k ≡ Some g → MayStand (start + k) g)
    → (k : ℕ) (g : Gate) → slice_get gates k ≡ Some g → value_at (fold (with_value x) values gates) (start + k) ≡ gate_value x (value_at (fold (with_value x) values gates)) g
valued x values [] start e may k g at = cc
valued x values (first ∷ gates) start e may zero g at =
    let new = gate_value x (value_at values) first in
    let all = fold (with_value x) values (first ∷ gates) in
    let same : first ≡ g = cc in
    let here : start + 0 ≡ start = omega arith in
    rw here (kept x (with_value x values first) gates start (omega (arith, length_push values new))
    ∙ get_or_push values new false start e
    ∙ gate_value-same x (value_at values) (value_at all) (start + 0) first (may 0 first refl) (λ i lt. sym (kept x values (first ∷ gates) i (omega arith)))
    ∙ ap (gate_value x (value_at all)) same)
valued x values (first ∷ gates) start e may (suc k) g at =
    let new = gate_value x (value_at values) first in
    let step : start + suc k ≡ start + 1 + k = omega arith in
    rw step (valued x (with_value x values first) gates (start + 1) (omega (arith, length_push values new))
    (λ j h there. let P : ℕ → Type 0 = λ t. MayStand t h in subst P (omega arith) (may (suc j) h there)) k g at)

value_is : (x : ℕ → Bool) (gates : List Gate) → IsNet gates → (i : ℕ) (g : Gate) → slice_get gates i ≡ Some g → value_at (values_of x gates) i ≡ gate_value x (value_at (values_of x gates)) g
unfolding values_of
value_is x gates net i g at =
    let e : 0 + i ≡ i = omega arith in
    let P : ℕ → Type 0 = λ t. value_at (fold (with_value x) [] gates) t ≡ gate_value x (value_at (fold (with_value x) [] gates)) g in
    subst P e (valued x [] gates 0 refl (λ k h there. let Q : ℕ → Type 0 = λ t. MayStand t h in subst Q (omega arith) (net.standing k h there)) i g at)

right_of : (x v : ℕ → Bool) (i : ℕ) (g : Gate) → v i ≡ gate_value x v g → IsRight v i g
right_of x v i True is = tt
right_of x v i (Input n) is = tt
right_of x v i (And a b) is = is

-- the values are a run
pub run_of : (x : ℕ → Bool) (gates : List Gate) → IsNet gates → RunOf x gates
run_of x gates net = record {
  values = value_at (values_of x gates);
  run = record {
    first = value_is x gates net 0 True net.first;
    right = λ i g at. right_of x (value_at (values_of x gates)) i g (value_is x gates net i g at);
  };
  inputs = record { at = λ i n at. value_is x gates net i (Input n) at };
}

same_value : (x v w : ℕ → Bool) (gates : List Gate) → IsRun v gates → IsRun w gates → HasInputs x v gates → HasInputs x w gates
    → (i : ℕ) (g : Gate) → slice_get gates i ≡ Some g → MayStand i g → ((k : ℕ) → k < i → v k ≡ w k) → v i ≡ w i
same_value x v w gates vs ws vx wx i True at may below =
    ap v may ∙ vs.first ∙ sym ws.first ∙ sym (ap w may)
same_value x v w gates vs ws vx wx i (Input n) at may below = vx.at i n at ∙ sym (wx.at i n at)
same_value x v w gates vs ws vx wx i (And a b) at may below =
    vs.right i (And a b) at ∙ rw (below a.gate may.left) (rw (below b.gate may.right) (sym (ws.right i (And a b) at)))

same_below : (x v w : ℕ → Bool) (gates : List Gate) → IsNet gates → IsRun v gates → IsRun w gates → HasInputs x v gates → HasInputs x w gates
    → (n : ℕ) → n ≤ length gates → (i : ℕ) → i < n → v i ≡ w i
same_below x v w gates net vs ws vx wx zero le i lt = absurd (omega arith)
same_below x v w gates net vs ws vx wx (suc n) le i lt =
    let at : slice_get gates i ≡ Some (get_or gates i True) = slice_get-get_or gates i True (omega arith) in
    same_value x v w gates vs ws vx wx i (get_or gates i True) at (net.standing i (get_or gates i True) at)
    (λ k below. same_below x v w gates net vs ws vx wx n (omega arith) k (omega arith))

-- there are no two
pub one_run : (x : ℕ → Bool) (gates : List Gate) → IsNet gates → HasOneRun x gates
one_run x gates net v w vs ws vx wx i lt = same_below x v w gates net vs ws vx wx (length gates) (omega arith) i lt
