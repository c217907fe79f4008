-- What keeps the invariant of a search, and what its answers rest on.
use Rattle.std.proofs.Common.{◌≡◌, ◌⊎◌, ℕ, zero, suc, ◌<◌, ◌≤◌, ◌+◌, ◌-◌, ◌*◌, ◌^◌, Bool, true, false, List, [], ◌∷◌, ◌++◌, length, map, None, refl, sym, ◌∙◌, ap, subst, inl, inr, arith}
use Rattle.std.proofs.lemmas.Bool.{and_parts, and_from, cases_Bool, false≢true, both_ways, not-true, not-false, and_cases, eqb-true}
use Rattle.std.specs.Prelude.{if◌then◌else◌}
use Rattle.std.proofs.lemmas.List.{append-nil, length_push}
use Rattle.cnf_form.specs.declared.lit.Lit.{Lit}
use Rattle.cnf_form.specs.declared.line.Line.{Line}
use Rattle.cnf_form.specs.Lines.{clause_of}
use Rattle.cnf_form.specs.Literals.{flip, is_same, has}
use Rattle.cnf_form.specs.Clauses.{is_ascending, all_below, is_clause, are_clauses}
use Rattle.cnf_form.specs.Solutions.{is_met, are_met}
use Rattle.cnf_form.specs.Derivation.{IsDerived, older_clauses, IsRefutation}
use Rattle.cnf_form.proofs.DerivationLaws.{AreNewLines-push, older-push, IsRefutation-from}
use Rattle.cnf_form.proofs.LitLaws.{is_same-self, is_same-from, is_same-flip, flip-flip, has-here, has-later}
use Rattle.cnf_form.proofs.ClauseLaws.{all_below-has}
use Rattle.cnf_form.proofs.NewsLaws.{unfalsified-of, unfalsified-open}
use Rattle.cdcl.proofs.PropagationLaws.{unset_count-less}
use Rattle.cdcl.proofs.JumpLaws.{IsNews-learnt}
use Rattle.cdcl.specs.Trail.{Assigned, lits_of, level_of, IsTrail, IsLearnt}
use Rattle.cdcl.specs.Marks.{IsFull, AreValues}
use Rattle.cnf_form.specs.Spent.{AreNewLines, IsSpent}
use Rattle.cdcl.specs.Propagation.{unset_count, unset_in, Grows}
use Rattle.cdcl.specs.State.{IsState}
use Rattle.cdcl.specs.declared.entry.Entry.{Entry}
use Rattle.cnf_form.specs.Spent.{AreLean}
use Rattle.cnf_form.proofs.CountLaws.{spent_few}
use Rattle.cnf_form.proofs.LeanLaws.{new_lean}
use Rattle.cnf_form.proofs.SoundLaws.{met_at}
use Rattle.cnf_form.specs.News.{is_pressed, is_free, is_quiet, are_quiet, unfalsified, IsNews}
use Rattle.cnf_form.specs.Spent.{IsNewLine}

pub unset_count-most : (given : List Lit) (n : ℕ) → unset_count given n ≤ n
unset_count-most given zero = omega arith
unset_count-most given (suc v) = go (is_free given v) (unset_count-most given v)
  where
    go : (b : Bool) → unset_count given v ≤ v → (if b then 1 else 0) + unset_count given v ≤ suc v
    go true h = omega arith
    go false h = omega arith

pub not_free : (given : List Lit) (l : Lit) → is_free given l.var ≡ false → (has given l ≡ true) ⊎ (has given (flip l) ≡ true)
not_free [] l f = absurd (false≢true (sym f))
not_free (x ∷ xs) l f = elim (and_cases _ _ f) [
  | inl n ↦ let same : x.var ≡ l.var = eqb-true _ _ (not-false _ n) in elim (cases_Bool (is_same x l)) [
    | inl s ↦ inl (has-here x xs l s)
    | inr d ↦ inr (has-here x xs (flip l) (is_same-from x (flip l) (sym (flip-flip x) ∙ ap flip (sym (is_same-flip x l same d)))))
  ]
  | inr r ↦ elim (not_free xs l r) [ inl h ↦ inl (has-later x xs l h) | inr h ↦ inr (has-later x xs (flip l) h) ]
]

-- a quiet clause has a true literal where all variables are assigned
met_one : (vars : ℕ) (given c : List Lit) (values : List Bool) → IsFull vars given → AreValues vars given values → all_below vars c ≡ true → is_quiet given c ≡ true → is_met values c ≡ true
met_one vars given c values full v b q = go (unfalsified given c) refl (not-true _ q)
  where
    go : (us : List Lit) → unfalsified given c ≡ us → is_pressed given us ≡ false → is_met values c ≡ true
    go [] e p = absurd (false≢true (sym p))
    go (x ∷ xs) e p =
        let of_clause : has c x ≡ true = unfalsified-of given c x (subst (λ (us : List Lit). has us x ≡ true) (sym e) (has-here x xs x (is_same-self x))) in
        let low : x.var < vars = all_below-has vars c x b of_clause in
        let open_x : has given (flip x) ≡ false = unfalsified-open given c x (subst (λ (us : List Lit). has us x ≡ true) (sym e) (has-here x xs x (is_same-self x))) in
        elim (not_free given x (full x.var low)) [ inl h ↦ met_at values c x of_clause (v x low h) | inr h ↦ absurd (both_ways _ open_x h) ]

pub are_met-from : (vars : ℕ) (given : List Lit) (clauses more : List (List Lit)) (values : List Bool) → IsFull vars given → AreValues vars given values → are_clauses vars (clauses ++ more) ≡ true → are_quiet given (clauses ++ more) ≡ true → are_met values clauses ≡ true
are_met-from vars given [] more values f v b q = refl
are_met-from vars given (c ∷ cs) more values f v b q =
    let good = and_parts (is_clause vars c) (are_clauses vars (cs ++ more)) b in
    let low = and_parts (is_ascending c) (all_below vars c) good.0 in
    and_from _ _ (met_one vars given c values f v low.1 (and_parts _ _ q).0) (are_met-from vars given cs more values f v good.1 (and_parts _ _ q).1)

pub begun : (vars : ℕ) (formula : List (List Lit)) (budget : ℕ) (trail : Assigned) (clauses : List (List Lit)) (lines : List Line) → are_clauses vars formula ≡ true → trail ≡ record { vars = vars; entries = [] } → clauses ≡ formula → lines ≡ [] → IsState vars formula budget trail clauses lines
begun vars formula budget trail clauses lines good t c l = rw (t, c, l) (record {
  vars_are = refl;
  older = sym (append-nil formula);
  in_range = good;
  is_trail = tt;
  new = tt;
  count = omega arith;
})

pub solved : (vars : ℕ) (formula : List (List Lit)) (budget : ℕ) (trail mid : Assigned) (clauses : List (List Lit)) (lines : List Line) (values : List Bool) → IsState vars formula budget trail clauses lines → Grows clauses trail mid → are_quiet (lits_of mid.entries) clauses ≡ true → IsFull mid.vars (lits_of mid.entries) → AreValues mid.vars (lits_of mid.entries) values → length values ≡ mid.vars → (length values ≡ vars) × (are_met values formula ≡ true)
solved vars formula budget trail mid clauses lines values st g q f v n = (
  n ∙ g.vars ∙ st.vars_are,
  are_met-from mid.vars (lits_of mid.entries) formula (map clause_of lines) values f v
      (subst (λ (k : ℕ). are_clauses k (older_clauses formula lines) ≡ true) (sym g.vars) (subst (λ (cs : List (List Lit)). are_clauses trail.vars cs ≡ true) st.older st.in_range))
      (subst (λ (cs : List (List Lit)). are_quiet (lits_of mid.entries) cs ≡ true) st.older q),
)

pub refuted : (vars : ℕ) (formula : List (List Lit)) (budget : ℕ) (trail : Assigned) (clauses : List (List Lit)) (lines log : List Line) (line : Line) → IsState vars formula budget trail clauses lines → IsDerived clauses line → line.clause ≡ [] → log ≡ lines ++ line ∷ [] → IsRefutation formula log × (length log ≤ budget + 1)
refuted vars formula budget trail clauses lines log line st d n f =
    let long : length log ≡ length lines + 1 = ap length f ∙ length_push lines line in
    let count : length lines ≤ budget = st.count in
    (subst (IsRefutation formula) (sym f) (IsRefutation-from formula lines line st.new (subst (λ (cs : List (List Lit)). IsDerived cs line) st.older d) n), omega arith)

-- the line of a conflict above level 0 is new
pub new_line : (vars : ℕ) (formula : List (List Lit)) (budget : ℕ) (trail mid : Assigned) (clauses : List (List Lit)) (lines : List Line) (line : Line) → IsState vars formula budget trail clauses lines → Grows clauses trail mid → IsDerived clauses line → (0 < level_of mid.entries → IsLearnt mid.entries line.clause) → (level_of mid.entries ≡ 0 → ⊥) → IsNewLine (older_clauses formula lines) line
new_line vars formula budget trail mid clauses lines line st g d l n =
    let low : 0 < level_of mid.entries = omega arith in
    record {
      derived = subst (λ (cs : List (List Lit)). IsDerived cs line) st.older d;
      news = subst (λ (cs : List (List Lit)). IsNews cs line.clause) st.older (IsNews-learnt clauses mid.entries line.clause g.trail low (l low));
    }

pub spent : (vars : ℕ) (formula : List (List Lit)) (budget : ℕ) (trail mid : Assigned) (clauses : List (List Lit)) (lines : List Line) (line : Line) → IsState vars formula budget trail clauses lines → Grows clauses trail mid → IsDerived clauses line → (0 < level_of mid.entries → IsLearnt mid.entries line.clause) → (level_of mid.entries ≡ 0 → ⊥) → length lines ≡ budget → IsSpent formula budget lines
spent vars formula budget trail mid clauses lines line st g d l n b = record {
  count = b;
  new = st.new;
  next = line;
  more = new_line vars formula budget trail mid clauses lines line st g d l n;
}

pub few : (vars : ℕ) (formula : List (List Lit)) (budget : ℕ) (lines : List Line) → are_clauses vars formula ≡ true → IsSpent formula budget lines → budget + 1 < 3 ^ vars
few vars formula budget lines good s = let most = spent_few vars formula budget lines good s in omega arith

pub lean : (vars : ℕ) (formula : List (List Lit)) (budget : ℕ) (lines : List Line) → are_clauses vars formula ≡ true → IsSpent formula budget lines → AreLean formula lines
lean vars formula budget lines good s = new_lean vars formula lines good s.new

pub decided : (vars : ℕ) (formula : List (List Lit)) (budget : ℕ) (trail mid new : Assigned) (clauses : List (List Lit)) (lines : List Line) (l : Lit) → IsState vars formula budget trail clauses lines → Grows clauses trail mid → are_quiet (lits_of mid.entries) clauses ≡ true → is_free (lits_of mid.entries) l.var ≡ true → new.vars ≡ mid.vars → new.entries ≡ record { lit = l; reason = None } ∷ mid.entries → IsState vars formula budget new clauses lines
decided vars formula budget trail mid new clauses lines l st g q f v e = record {
  vars_are = v ∙ g.vars ∙ st.vars_are;
  older = st.older;
  in_range = subst (λ (n : ℕ). are_clauses n clauses ≡ true) (sym (v ∙ g.vars)) st.in_range;
  is_trail = subst (λ (es : List Entry). IsTrail clauses es) (sym e) (record { free = f; why = q }, g.trail);
  new = st.new;
  count = st.count;
}

pub learned : (vars : ℕ) (formula : List (List Lit)) (budget : ℕ) (trail mid new : Assigned) (clauses more : List (List Lit)) (lines longer : List Line) (line : Line) → IsState vars formula budget trail clauses lines → Grows clauses trail mid → IsDerived clauses line → (0 < level_of mid.entries → IsLearnt mid.entries line.clause) → (level_of mid.entries ≡ 0 → ⊥) → (length lines ≡ budget → ⊥) → new.vars ≡ mid.vars → more ≡ clauses ++ line.clause ∷ [] → longer ≡ lines ++ line ∷ [] → are_clauses new.vars more ≡ true → IsTrail more new.entries → IsState vars formula budget new more longer
learned vars formula budget trail mid new clauses more lines longer line st g d l n b v m o r i =
    let count : length lines ≤ budget = st.count in
    let long : length longer ≡ length lines + 1 = ap length o ∙ length_push lines line in
    record {
      vars_are = v ∙ g.vars ∙ st.vars_are;
      older = m ∙ ap (λ (cs : List (List Lit)). cs ++ line.clause ∷ []) st.older ∙ sym (older-push formula lines line) ∙ ap (older_clauses formula) (sym o);
      in_range = r;
      is_trail = i;
      new = subst (AreNewLines formula) (sym o) (AreNewLines-push formula lines line st.new (new_line vars formula budget trail mid clauses lines line st g d l n));
      count = omega arith;
    }

-- with a line more, the budget that is left falls
falls-learned : (budget n v u w : ℕ) → n < budget → w ≤ v → (budget - (n + 1)) * (v + 1) + w < (budget - n) * (v + 1) + u
falls-learned budget n v u w low most =
    let k : ℕ = budget - (n + 1) in
    let e : budget - n ≡ budget - (n + 1) + 1 = omega arith in
    rw e (omega (arith, most))

pub smaller-learned : (budget : ℕ) (trail mid new : Assigned) (clauses : List (List Lit)) (lines longer : List Line) (line : Line) → length lines ≤ budget → (length lines ≡ budget → ⊥) → Grows clauses trail mid → new.vars ≡ mid.vars → longer ≡ lines ++ line ∷ [] → (budget - length longer) * (new.vars + 1) + unset_in new < (budget - length lines) * (trail.vars + 1) + unset_in trail
smaller-learned budget trail mid new clauses lines longer line c n g v o =
    let long : length longer ≡ length lines + 1 = ap length o ∙ length_push lines line in
    let same : new.vars ≡ trail.vars = v ∙ g.vars in
    rw (long, same) (falls-learned budget (length lines) trail.vars _ _ (omega arith) (unset_count-most (lits_of new.entries) trail.vars))

pub unset-decided : (trail mid new : Assigned) (clauses : List (List Lit)) (l : Lit) → Grows clauses trail mid → new.vars ≡ mid.vars → l.var < mid.vars → is_free (lits_of mid.entries) l.var ≡ true → new.entries ≡ record { lit = l; reason = None } ∷ mid.entries → unset_in new < unset_in trail
unset-decided trail mid new clauses l g v low f e =
    let less = unset_count-less (lits_of mid.entries) l mid.vars f low in
    let most : unset_in mid ≤ unset_in trail = g.unset in
    rw (e, v) (omega arith)

pub smaller-decided : (budget n : ℕ) (trail mid new : Assigned) (clauses : List (List Lit)) (l : Lit) → Grows clauses trail mid → new.vars ≡ mid.vars → l.var < mid.vars → is_free (lits_of mid.entries) l.var ≡ true → new.entries ≡ record { lit = l; reason = None } ∷ mid.entries → (budget - n) * (new.vars + 1) + unset_in new < (budget - n) * (trail.vars + 1) + unset_in trail
smaller-decided budget n trail mid new clauses l g v low f e =
    let less = unset-decided trail mid new clauses l g v low f e in
    let same : new.vars ≡ trail.vars = v ∙ g.vars in
    fewer (budget - n) new.vars trail.vars (unset_in new) (unset_in trail) same less
  where
    fewer : (k v w x y : ℕ) → v ≡ w → x < y → k * (v + 1) + x < k * (w + 1) + y
    fewer k v w x y e low = rw e (omega arith)
