-- What a step of a search does to its state, and that less is left after it.
use Rattle.std.proofs.Common.{◌≡◌, ℕ, suc, ◌<◌, ◌≤◌, ◌+◌, ◌-◌, ◌*◌, Bool, true, false, List, [], ◌∷◌, ◌++◌, length, None, sym, ◌∙◌, ap, subst, arith}
use Rattle.std.specs.Prelude.{if◌then◌else◌}
use Rattle.std.proofs.Math.Nat.{suc-mul}
use Rattle.std.proofs.lemmas.List.{length_push}
use Rattle.cnf_form.specs.declared.lit.Lit.{Lit}
use Rattle.cnf_form.specs.declared.line.Line.{Line}
use Rattle.cnf_form.specs.Clauses.{are_clauses}
use Rattle.cnf_form.specs.Derivation.{IsDerived}
use Rattle.cnf_form.specs.News.{is_free, are_quiet}
use Rattle.cnf_form.specs.Solutions.{are_met}
use Rattle.cnf_form.specs.Spent.{IsSpent}
use Rattle.cdcl.specs.declared.run.Run.{Run}
use Rattle.cdcl.specs.declared.pace.Pace.{Pace}
use Rattle.cdcl.specs.declared.step.Step.{Step}
use Rattle.cdcl.specs.declared.step.Step.TheVariants.{Solved, Refuted, Spent, Onward}
use Rattle.cdcl.specs.Trail.{lits_of, level_of, back_to, IsTrail, IsLearnt}
use Rattle.cdcl.specs.Marks.{IsFull, AreValues}
use Rattle.cdcl.specs.Propagation.{unset_in, Grows}
use Rattle.cdcl.specs.State.{IsState}
use Rattle.cdcl.specs.Watch.{AreGuarded, IsWatched}
use Rattle.cdcl.specs.Run.{IsPropagated, IsReady}
use Rattle.cdcl.specs.Step.{left_of, left_in, GoesOn, IsStepped}
use Rattle.cdcl.proofs.PropagationLaws.{Grows-same}
use Rattle.cdcl.proofs.TrailLaws.{IsTrail-distinct}
use Rattle.cdcl.proofs.WatchLaws.{are_guarded_quiet}
use Rattle.cdcl.proofs.SearchLaws.{unset_count-most, unset-decided, solved, decided, learned}
use Rattle.cdcl.proofs.RunLaws.{grown, gone_back, same_state}

due_most : (due : Bool) (v : ℕ) → (if due then v + 1 else 0) ≤ v + 1
due_most true v = omega arith
due_most false v = omega arith

pub left_learned : (budget n m v w unset old : ℕ) (due was : Bool) → n < budget → m ≡ n + 1 → w ≡ v → unset ≤ w → left_of budget m w due unset < left_of budget n v was old
left_learned budget n m v w unset old due was low e f most =
    let k : budget - n ≡ suc (budget - m) = omega (arith, e) in
    let d = due_most due v in
    subst (λ (x : ℕ). (budget - m) * (2 * (x + 1)) + (if due then x + 1 else 0) + unset < left_of budget n v was old) (sym f)
    (subst (λ (x : ℕ). (budget - m) * (2 * (v + 1)) + (if due then v + 1 else 0) + unset < x * (2 * (v + 1)) + (if was then v + 1 else 0) + old) (sym k)
    (step (budget - m) (2 * (v + 1)) (if due then v + 1 else 0) unset (if was then v + 1 else 0) old (omega (arith, d, most, f))))
  where
    step : (a b c d x y : ℕ) → c + d < b → a * b + c + d < suc a * b + x + y
    step a b c d x y low = let e : suc a * b ≡ a * b + b = suc-mul a b in omega arith

pub left_restarted : (budget n m v w unset old : ℕ) (due was : Bool) → m ≡ n → w ≡ v → due ≡ false → was ≡ true → unset ≤ w → left_of budget m w due unset < left_of budget n v was old
left_restarted budget n m v w unset old due was e f clear set most = rw (e, f, clear, set) (omega (arith, most, f))

pub left_decided : (budget n m v w unset old : ℕ) (due : Bool) → m ≡ n → w ≡ v → unset < old → left_of budget m w due unset < left_of budget n v due old
left_decided budget n m v w unset old due e f less = rw (e, f) (omega (arith, less))

left_grown : (budget n m v w unset old : ℕ) (due : Bool) → m ≡ n → w ≡ v → unset ≤ old → left_of budget m w due unset ≤ left_of budget n v due old
left_grown budget n m v w unset old due e f most = rw (e, f) (omega (arith, most))

falls : (a b c : ℕ) → a < b → b ≤ c → a < c
falls a b c h k = omega (arith, h, k)

-- propagation leaves the invariant, and no more than was left
pub propagated_state : (vars : ℕ) (formula : List (List Lit)) (budget : ℕ) (old mid : Run) → IsReady vars formula budget old → mid.clauses ≡ old.clauses → mid.log ≡ old.log → Grows mid.clauses old.trail mid.trail → IsState vars formula budget mid.trail mid.clauses mid.log
propagated_state vars formula budget old mid r c l g =
    grown vars formula budget old.trail mid.trail mid.clauses mid.log (same_state vars formula budget old.trail old.clauses mid.clauses old.log mid.log r.state c l) g

pub stepped_from : (vars : ℕ) (formula : List (List Lit)) (budget : ℕ) (old mid new : Run) (was now : Pace) (step : Step) → mid.log ≡ old.log → Grows mid.clauses old.trail mid.trail → IsStepped vars formula budget mid new was now step → IsStepped vars formula budget old new was now step
stepped_from vars formula budget old mid new was now (Solved found) l g h = h
stepped_from vars formula budget old mid new was now Refuted l g h = h
stepped_from vars formula budget old mid new was now Spent l g h = h
stepped_from vars formula budget old mid new was now Onward l g h = record {
  ready = h.ready;
  less = falls (left_in budget new now) (left_in budget mid was) (left_in budget old was) h.less
      (left_grown budget (length old.log) (length mid.log) old.trail.vars mid.trail.vars (unset_in mid.trail) (unset_in old.trail) was.is_due (ap length l) g.vars g.unset);
}

run_quiet : (vars : ℕ) (formula : List (List Lit)) (budget : ℕ) (run : Run) → IsState vars formula budget run.trail run.clauses run.log → IsPropagated run → AreGuarded run.pairs.items (lits_of run.trail.entries) (lits_of run.trail.entries) → are_quiet (lits_of run.trail.entries) run.clauses ≡ true
run_quiet vars formula budget run st p g = are_guarded_quiet (lits_of run.trail.entries) run.clauses run.pairs.items (IsTrail-distinct run.clauses run.trail.entries st.is_trail) p.of_clauses g

-- with a decision more
pub decided_on : (vars : ℕ) (formula : List (List Lit)) (budget : ℕ) (old new : Run) (pace : Pace) (l : Lit) → IsState vars formula budget old.trail old.clauses old.log → IsPropagated old → AreGuarded old.pairs.items (lits_of old.trail.entries) (lits_of old.trail.entries) → l.var < old.trail.vars → is_free (lits_of old.trail.entries) l.var ≡ true → new.clauses ≡ old.clauses → new.log ≡ old.log → new.trail.vars ≡ old.trail.vars → new.trail.entries ≡ record { lit = l; reason = None } ∷ old.trail.entries → IsWatched new.clauses new.trail new.pairs.items new.watches new.head → GoesOn vars formula budget old new pace pace
decided_on vars formula budget old new pace l st p g low f c o v e w =
    let same = Grows-same old.clauses old.trail st.is_trail in
    let quiet = run_quiet vars formula budget old st p g in
    record {
      ready = record {
        state = same_state vars formula budget new.trail old.clauses new.clauses old.log new.log (decided vars formula budget old.trail old.trail new.trail old.clauses old.log l st same quiet f v e) c o;
        watched = w;
      };
      less = left_decided budget (length old.log) (length new.log) old.trail.vars new.trail.vars (unset_in new.trail) (unset_in old.trail) pace.is_due (ap length o) v
          (unset-decided old.trail old.trail new.trail old.clauses l same v low f e);
    }

-- back at the start
pub restarted_on : (vars : ℕ) (formula : List (List Lit)) (budget : ℕ) (old new : Run) (was now : Pace) → IsState vars formula budget old.trail old.clauses old.log → was.is_due ≡ true → now.is_due ≡ false → new.clauses ≡ old.clauses → new.log ≡ old.log → new.trail.vars ≡ old.trail.vars → new.trail.entries ≡ back_to 0 old.trail.entries → IsWatched new.clauses new.trail new.pairs.items new.watches new.head → GoesOn vars formula budget old new was now
restarted_on vars formula budget old new was now st set clear c o v e w = record {
  ready = record {
    state = same_state vars formula budget new.trail old.clauses new.clauses old.log new.log (gone_back vars formula budget old.trail new.trail old.clauses old.log st v e) c o;
    watched = w;
  };
  less = left_restarted budget (length old.log) (length new.log) old.trail.vars new.trail.vars (unset_in new.trail) (unset_in old.trail) now.is_due was.is_due (ap length o) v clear set
      (unset_count-most (lits_of new.trail.entries) new.trail.vars);
}

-- with a line more
pub learned_on : (vars : ℕ) (formula : List (List Lit)) (budget : ℕ) (old new : Run) (was now : Pace) (line : Line) → IsState vars formula budget old.trail old.clauses old.log → IsDerived old.clauses line → (0 < level_of old.trail.entries → IsLearnt old.trail.entries line.clause) → (level_of old.trail.entries ≡ 0 → ⊥) → (length old.log ≡ budget → ⊥) → new.trail.vars ≡ old.trail.vars → new.clauses ≡ old.clauses ++ line.clause ∷ [] → new.log ≡ old.log ++ line ∷ [] → are_clauses new.trail.vars new.clauses ≡ true → IsTrail new.clauses new.trail.entries → IsWatched new.clauses new.trail new.pairs.items new.watches new.head → GoesOn vars formula budget old new was now
learned_on vars formula budget old new was now line st d l n b v c o r t w =
    let count : length old.log ≤ budget = st.count in
    record {
      ready = record {
        state = learned vars formula budget old.trail old.trail new.trail old.clauses new.clauses old.log new.log line st (Grows-same old.clauses old.trail st.is_trail) d l n b v c o r t;
        watched = w;
      };
      less = left_learned budget (length old.log) (length new.log) old.trail.vars new.trail.vars (unset_in new.trail) (unset_in old.trail) now.is_due was.is_due (omega (arith, count, b)) (ap length o ∙ length_push old.log line) v
          (unset_count-most (lits_of new.trail.entries) new.trail.vars);
    }

-- each variable has a value
pub solved_on : (vars : ℕ) (formula : List (List Lit)) (budget : ℕ) (run : Run) (values : List Bool) → IsState vars formula budget run.trail run.clauses run.log → IsPropagated run → AreGuarded run.pairs.items (lits_of run.trail.entries) (lits_of run.trail.entries) → IsFull run.trail.vars (lits_of run.trail.entries) → AreValues run.trail.vars (lits_of run.trail.entries) values → length values ≡ run.trail.vars → (length values ≡ vars) × (are_met values formula ≡ true)
solved_on vars formula budget run values st p g f v n =
    solved vars formula budget run.trail run.trail run.clauses run.log values st (Grows-same run.clauses run.trail st.is_trail) (run_quiet vars formula budget run st p g) f v n

-- no line may be learnt any more
pub spent_on : (vars : ℕ) (formula : List (List Lit)) (budget : ℕ) (old new : Run) (was now : Pace) (step : Step) (lines : List Line) → step ≡ Spent → IsStepped vars formula budget old new was now step → lines ≡ new.log → IsSpent formula budget lines
spent_on vars formula budget old new was now (Solved found) lines e h f = cc
spent_on vars formula budget old new was now Refuted lines e h f = cc
spent_on vars formula budget old new was now Onward lines e h f = cc
spent_on vars formula budget old new was now Spent lines e h f = subst (λ (ls : List Line). IsSpent formula budget ls) (sym f) h
