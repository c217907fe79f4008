-- Facts of two clauses joined, and of their resolvent.
use Rattle.std.proofs.Common.{◌≡◌, ◌⊎◌, ℕ, ◌<◌, ◌≤◌, Bool, true, false, ◌||◌, ltb, List, [], ◌∷◌, ◌++◌, length, drop, refl, sym, ◌∙◌, ap, subst, inl, inr, arith}
use Rattle.std.specs.Prelude.{if◌then◌else◌, nat_lt, Some, None}
use Rattle.std.proofs.lemmas.Bool.{and_parts, and_from, or_cases, or_parts, or_from, or_left, or_right, ltb-true, ltb-false, lt-ltb, le-ltb, cases_Bool, false≢true, both_ways, cond_both, cond-true, cond-false}
use Rattle.std.proofs.lemmas.List.{drop_all, append-nil}
use Rattle.std.proofs.lemmas.Option.{same_Some}
use Rattle.cnf_form.specs.declared.lit.Lit.{Lit}
use Rattle.cnf_form.specs.Literals.{flip, is_same, has}
use Rattle.cnf_form.specs.Clauses.{all_above, is_ascending}
use Rattle.cnf_form.specs.Resolvent.{Joined, kept, clashing, joined, where_one, resolvent}
use Rattle.cnf_form.proofs.LitLaws.{is_same-true, is_same-self, is_same-from, is_same-flip, same_var, has-above, has-not_above, all_above-less, flip-flip, apart, not_flip, has-here, has-later}

-- the four ways of one step
pub step_cases : (P : Joined → Type 0) (l m : Lit) (x y z w : Joined) → (l.var < m.var → P x) → (m.var < l.var → P y) → (l.var ≡ m.var → is_same l m ≡ true → P z) → (l.var ≡ m.var → is_same l m ≡ false → P w) → P (if nat_lt l.var m.var then x else (if nat_lt m.var l.var then y else (if is_same l m then z else w)))
step_cases P l m x y z w px py pz pw =
    cond_both (ltb l.var m.var) x _ P (λ e. px (ltb-true _ _ e)) (λ e.
    cond_both (ltb m.var l.var) y _ P (λ f. py (ltb-true _ _ f)) (λ f.
    let same : l.var ≡ m.var = omega (arith, ltb-false l.var m.var e, ltb-false m.var l.var f) in
    cond_both (is_same l m) z w P (pz same) (pw same)))

pub joined-less : (l m : Lit) (ls ms : List Lit) → l.var < m.var → joined (l ∷ ls) (m ∷ ms) ≡ kept l (joined ls (m ∷ ms))
joined-less l m ls ms low = cond-true _ _ _ (lt-ltb _ _ low)

pub joined-more : (l m : Lit) (ls ms : List Lit) → m.var < l.var → joined (l ∷ ls) (m ∷ ms) ≡ kept m (joined (l ∷ ls) ms)
joined-more l m ls ms low = cond-false _ _ _ (le-ltb l.var m.var (omega (arith, low))) ∙ cond-true _ _ _ (lt-ltb _ _ low)

pub joined-same : (l m : Lit) (ls ms : List Lit) → l ≡ m → joined (l ∷ ls) (m ∷ ms) ≡ kept l (joined ls ms)
joined-same l m ls ms e = subst (λ k. joined (l ∷ ls) (k ∷ ms) ≡ kept l (joined ls ms)) e
    (cond-false _ _ _ (le-ltb l.var l.var (omega arith)) ∙ cond-false _ _ _ (le-ltb l.var l.var (omega arith)) ∙ cond-true _ _ _ (is_same-self l))

pub joined-clash : (l m : Lit) (ls ms : List Lit) → l.var ≤ m.var → m.var ≤ l.var → (l ≡ m → ⊥) → joined (l ∷ ls) (m ∷ ms) ≡ clashing l (joined ls ms)
joined-clash l m ls ms low high n =
    cond-false _ _ _ (le-ltb l.var m.var high) ∙ cond-false _ _ _ (le-ltb m.var l.var low) ∙ cond-false _ _ _ differ
  where
    differ : is_same l m ≡ false
    differ = elim (cases_Bool (is_same l m)) [ inl e ↦ absurd (n (is_same-true l m e)) | inr f ↦ f ]

pub joined-nil : (ls : List Lit) → joined ls [] ≡ record { lits = ls; clashes = [] }
joined-nil [] = refl
joined-nil (l ∷ ls) = ap (kept l) (joined-nil ls)

-- what is below both is below all
pub all_above-joined : (v : ℕ) (ls ms : List Lit) → all_above v ls ≡ true → all_above v ms ≡ true → all_above v (joined ls ms).lits ≡ true
all_above-joined v [] ms a b = b
all_above-joined v (l ∷ ls) [] a b = and_from _ _ (and_parts _ _ a).0 (all_above-joined v ls [] (and_parts _ _ a).1 refl)
all_above-joined v (l ∷ ls) (m ∷ ms) a b =
    let (al, als) = and_parts _ _ a in
    let (bm, bms) = and_parts _ _ b in
    step_cases (λ j. all_above v j.lits ≡ true) l m _ _ _ _
    (λ _. and_from _ _ al (all_above-joined v ls (m ∷ ms) als b))
    (λ _. and_from _ _ bm (all_above-joined v (l ∷ ls) ms a bms))
    (λ _ _. and_from _ _ al (all_above-joined v ls ms als bms))
    (λ _ _. all_above-joined v ls ms als bms)

pub is_ascending-joined : (ls ms : List Lit) → is_ascending ls ≡ true → is_ascending ms ≡ true → is_ascending (joined ls ms).lits ≡ true
is_ascending-joined [] ms a b = b
is_ascending-joined (l ∷ ls) [] a b = subst (λ j. is_ascending j.lits ≡ true) (sym (joined-nil (l ∷ ls))) a
is_ascending-joined (l ∷ ls) (m ∷ ms) a b =
    let (al, als) = and_parts _ _ a in
    let (bm, bms) = and_parts _ _ b in
    step_cases (λ j. is_ascending j.lits ≡ true) l m _ _ _ _
    (λ low. and_from _ _ (all_above-joined l.var ls (m ∷ ms) al (and_from _ _ (lt-ltb _ _ low) (all_above-less l.var m.var ms (omega arith) bm))) (is_ascending-joined ls (m ∷ ms) als b))
    (λ low. and_from _ _ (all_above-joined m.var (l ∷ ls) ms (and_from _ _ (lt-ltb _ _ low) (all_above-less m.var l.var ls (omega arith) al)) bm) (is_ascending-joined (l ∷ ls) ms a bms))
    (λ e _. and_from _ _ (all_above-joined l.var ls ms al (subst (λ n. all_above n ms ≡ true) (sym e) bm)) (is_ascending-joined ls ms als bms))
    (λ _ _. is_ascending-joined ls ms als bms)

-- once one side is at its end, the rest of the other is what is left
pub joined-end : (ls ms : List Lit) (i j : ℕ) → (length ls ≤ i) ⊎ (length ms ≤ j) → joined (drop i ls) (drop j ms) ≡ record { lits = drop i ls ++ drop j ms; clashes = [] }
joined-end ls ms i j (inl h) = subst (λ ks. joined ks (drop j ms) ≡ record { lits = ks ++ drop j ms; clashes = [] }) (sym (drop_all i ls h)) refl
joined-end ls ms i j (inr h) = subst (λ ks. joined (drop i ls) ks ≡ record { lits = drop i ls ++ ks; clashes = [] }) (sym (drop_all j ms h)) (joined-nil (drop i ls) ∙ ap (λ ks. record { lits = ks; clashes = [] }) (sym (append-nil (drop i ls))))

pub resolvent-one : (ls ms : List Lit) → length (joined ls ms).clashes ≡ 1 → resolvent ls ms ≡ Some (joined ls ms).lits
unfolding resolvent
resolvent-one ls ms e = go (joined ls ms).lits (joined ls ms).clashes e
  where
    go : (lits clashes : List Lit) → length clashes ≡ 1 → where_one clashes lits ≡ Some lits
    go lits [] e = cc
    go lits (l ∷ []) e = refl
    go lits (l ∷ m ∷ ms) e = absurd (omega (arith, e))

pub resolvent-none : (ls ms : List Lit) → (length (joined ls ms).clashes ≡ 1 → ⊥) → resolvent ls ms ≡ None
unfolding resolvent
resolvent-none ls ms n = go (joined ls ms).lits (joined ls ms).clashes n
  where
    go : (lits clashes : List Lit) → (length clashes ≡ 1 → ⊥) → where_one clashes lits ≡ None
    go lits [] n = refl
    go lits (l ∷ []) n = absurd (n refl)
    go lits (l ∷ m ∷ ms) n = refl

-- the literals of the first whose negation is in the second
abbrev pub negated_in : List Lit → List Lit → List Lit
negated_in [] ms = []
negated_in (l ∷ ls) ms = if has ms (flip l) then l ∷ negated_in ls ms else negated_in ls ms

negated_in-nil : (ls : List Lit) → negated_in ls [] ≡ []
negated_in-nil [] = refl
negated_in-nil (l ∷ ls) = negated_in-nil ls

same_choice : (b d : Bool) (x : Lit) (xs ys : List Lit) → b ≡ d → xs ≡ ys → (if b then x ∷ xs else xs) ≡ (if d then x ∷ ys else ys)
same_choice b d x xs ys e f = cc

negated_in-skip : (m : Lit) (ls ms : List Lit) → all_above m.var ls ≡ true → negated_in ls (m ∷ ms) ≡ negated_in ls ms
negated_in-skip m [] ms a = refl
negated_in-skip m (x ∷ xs) ms a =
    let (here, rest) = and_parts _ _ a in
    same_choice _ _ x _ _ (ap (λ b. b || has ms (flip x)) (apart m (flip x) (has-above m.var (x ∷ xs) x a (has-here x xs x (is_same-self x))))) (negated_in-skip m xs ms rest)

pub clashes-joined : (ls ms : List Lit) → is_ascending ls ≡ true → is_ascending ms ≡ true → (joined ls ms).clashes ≡ negated_in ls ms
clashes-joined [] ms a b = refl
clashes-joined (l ∷ ls) [] a b = ap (λ (j : Joined). j.clashes) (joined-nil (l ∷ ls)) ∙ sym (negated_in-nil (l ∷ ls))
clashes-joined (l ∷ ls) (m ∷ ms) a b =
    let (al, als) = and_parts _ _ a in
    let (bm, bms) = and_parts _ _ b in
    step_cases (λ j. j.clashes ≡ negated_in (l ∷ ls) (m ∷ ms)) l m _ _ _ _
    (λ low. clashes-joined ls (m ∷ ms) als b ∙ sym (cond-false _ _ _ (or_from _ _ (sym_apart l m low) (has-not_above m.var ms (flip l) bm (omega arith)))))
    (λ low. clashes-joined (l ∷ ls) ms a bms ∙ sym (negated_in-skip m (l ∷ ls) ms (and_from _ _ (lt-ltb _ _ low) (all_above-less m.var l.var ls (omega arith) al))))
    (λ e s. clashes-joined ls ms als bms ∙ sym (negated_in-skip m ls ms (subst (λ n. all_above n ls ≡ true) e al)) ∙ sym (cond-false _ _ _ (or_from _ _ (subst (λ k. is_same k (flip l) ≡ false) (is_same-true l m s) (not_flip l)) (has-not_above m.var ms (flip l) bm (omega arith)))))
    (λ e s. ap (λ (xs : List Lit). l ∷ xs) (clashes-joined ls ms als bms ∙ sym (negated_in-skip m ls ms (subst (λ n. all_above n ls ≡ true) e al))) ∙ sym (cond-true _ _ _ (or_left _ _ (is_same-from m (flip l) (is_same-flip l m e s)))))
  where
    sym_apart : (l m : Lit) → l.var < m.var → is_same m (flip l) ≡ false
    sym_apart l m low = elim (cases_Bool (is_same m (flip l))) [ inl e ↦ absurd (let same : m.var ≡ l.var = same_var m (flip l) e in omega arith) | inr n ↦ n ]

not_flipped : (v : ℕ) (ls : List Lit) (k : Lit) → all_above v ls ≡ true → v ≡ k.var → has ls (flip k) ≡ false
not_flipped v ls k a e = has-not_above v ls (flip k) a (omega arith)

-- it came from one side, and its negation isn't in the other
abbrev pub CameFrom : List Lit → List Lit → Lit → Type 0
CameFrom ls ms k = ((has ls k ≡ true) × (has ms (flip k) ≡ false)) ⊎ ((has ms k ≡ true) × (has ls (flip k) ≡ false))

more_both : (l m : Lit) (ls ms : List Lit) (k : Lit) → all_above l.var ls ≡ true → all_above m.var ms ≡ true → l.var ≡ m.var → CameFrom ls ms k → CameFrom (l ∷ ls) (m ∷ ms) k
more_both l m ls ms k al bm e (inl (h, n)) = inl (or_right _ _ h, or_from _ _ (let up : l.var < k.var = has-above l.var ls k al h in apart m (flip k) (omega arith)) n)
more_both l m ls ms k al bm e (inr (h, n)) = inr (or_right _ _ h, or_from _ _ (let up : m.var < k.var = has-above m.var ms k bm h in apart l (flip k) (omega arith)) n)

more_left : (l : Lit) (ls ms : List Lit) (k : Lit) → all_above l.var ms ≡ true → CameFrom ls ms k → CameFrom (l ∷ ls) ms k
more_left l ls ms k bl (inl (h, n)) = inl (or_right _ _ h, n)
more_left l ls ms k bl (inr (h, n)) = inr (h, or_from _ _ (apart l (flip k) (has-above l.var ms k bl h)) n)

more_right : (m : Lit) (ls ms : List Lit) (k : Lit) → all_above m.var ls ≡ true → CameFrom ls ms k → CameFrom ls (m ∷ ms) k
more_right m ls ms k al (inl (h, n)) = inl (h, or_from _ _ (apart m (flip k) (has-above m.var ls k al h)) n)
more_right m ls ms k al (inr (h, n)) = inr (or_right _ _ h, n)

pub has-joined : (ls ms : List Lit) (k : Lit) → is_ascending ls ≡ true → is_ascending ms ≡ true → has (joined ls ms).lits k ≡ true → CameFrom ls ms k
has-joined [] ms k a b h = inr (h, refl)
has-joined (l ∷ ls) [] k a b h = inl (subst (λ (j : Joined). has j.lits k ≡ true) (joined-nil (l ∷ ls)) h, refl)
has-joined (l ∷ ls) (m ∷ ms) k a b h0 =
    let (al, als) = and_parts _ _ a in
    let (bm, bms) = and_parts _ _ b in
    (step_cases (λ j. has j.lits k ≡ true → CameFrom (l ∷ ls) (m ∷ ms) k) l m _ _ _ _
    (λ low h. let above : all_above l.var (m ∷ ms) ≡ true = and_from _ _ (lt-ltb _ _ low) (all_above-less l.var m.var ms (omega arith) bm) in
    elim (or_cases _ _ h) [
      | inl e ↦ inl (has-here l ls k e, not_flipped l.var (m ∷ ms) k above (same_var l k e))
      | inr t ↦ more_left l ls (m ∷ ms) k above (has-joined ls (m ∷ ms) k als b t)
    ])
    (λ low h. let above : all_above m.var (l ∷ ls) ≡ true = and_from _ _ (lt-ltb _ _ low) (all_above-less m.var l.var ls (omega arith) al) in
    elim (or_cases _ _ h) [
      | inl e ↦ inr (has-here m ms k e, not_flipped m.var (l ∷ ls) k above (same_var m k e))
      | inr t ↦ more_right m (l ∷ ls) ms k above (has-joined (l ∷ ls) ms k a bms t)
    ])
    (λ v s h. elim (or_cases _ _ h) [
      | inl e ↦ inl (has-here l ls k e, or_from _ _ (subst (λ x. is_same x (flip k) ≡ false) (sym (is_same-true l k e) ∙ is_same-true l m s) (not_flip k)) (not_flipped m.var ms k bm (sym v ∙ same_var l k e)))
      | inr t ↦ more_both l m ls ms k al bm v (has-joined ls ms k als bms t)
    ])
    (λ v s h. more_both l m ls ms k al bm v (has-joined ls ms k als bms h))) h0

-- what doesn't clash stays
pub joined-keeps : (ls ms : List Lit) (k : Lit) → has ls k ≡ true → has ms (flip k) ≡ false → has (joined ls ms).lits k ≡ true
joined-keeps [] ms k h n = absurd (false≢true h)
joined-keeps (l ∷ ls) [] k h n = subst (λ (j : Joined). has j.lits k ≡ true) (sym (joined-nil (l ∷ ls))) h
joined-keeps (l ∷ ls) (m ∷ ms) k h n =
    let (nm, nms) = or_parts _ _ n in
    step_cases (λ j. has j.lits k ≡ true) l m _ _ _ _
    (λ _. elim (or_cases _ _ h) [ inl e ↦ has-here l (joined ls (m ∷ ms)).lits k e | inr t ↦ has-later l (joined ls (m ∷ ms)).lits k (joined-keeps ls (m ∷ ms) k t n) ])
    (λ _. has-later m (joined (l ∷ ls) ms).lits k (joined-keeps (l ∷ ls) ms k h nms))
    (λ _ _. elim (or_cases _ _ h) [ inl e ↦ has-here l (joined ls ms).lits k e | inr t ↦ has-later l (joined ls ms).lits k (joined-keeps ls ms k t nms) ])
    (λ v s. elim (or_cases _ _ h) [
      | inl e ↦ absurd (false≢true (sym nm ∙ is_same-from m (flip k) (is_same-flip l m v s ∙ ap flip (is_same-true l k e))))
      | inr t ↦ joined-keeps ls ms k t nms
    ])

negated_in-none : (ls ms : List Lit) → ((k : Lit) → has ls k ≡ true → has ms (flip k) ≡ false) → negated_in ls ms ≡ []
negated_in-none [] ms h = refl
negated_in-none (x ∷ xs) ms h = cond-false _ _ _ (h x (has-here x xs x (is_same-self x))) ∙ negated_in-none xs ms (λ k t. h k (has-later x xs k t))

-- exactly one clashes
pub negated_in-one : (p : Lit) (ls ms : List Lit) → is_ascending ls ≡ true → has ls p ≡ true → has ms (flip p) ≡ true → ((k : Lit) → has ls k ≡ true → (k ≡ p → ⊥) → has ms (flip k) ≡ false) → negated_in ls ms ≡ p ∷ []
negated_in-one p [] ms a h n only = absurd (false≢true h)
negated_in-one p (x ∷ xs) ms a h n only =
    let (ax, axs) = and_parts _ _ a in
    elim (or_cases _ _ h) [
      | inl e ↦ let same = is_same-true x p e in
          cond-true _ _ _ (subst (λ k. has ms (flip k) ≡ true) (sym same) n) ∙ ap (λ (k : Lit). k ∷ negated_in xs ms) same ∙ ap (λ (ks : List Lit). p ∷ ks) (negated_in-none xs ms (λ k t. only k (has-later x xs k t) (λ (q : k ≡ p). let up : x.var < k.var = has-above x.var xs k ax t in let v : x.var ≡ k.var = ap (λ (l : Lit). l.var) (same ∙ sym q) in absurd (omega arith))))
      | inr t ↦ cond-false _ _ _ (only x (has-here x xs x (is_same-self x)) (λ (q : x ≡ p). let up : x.var < p.var = has-above x.var xs p ax t in let v : x.var ≡ p.var = ap (λ (l : Lit). l.var) q in absurd (omega arith))) ∙ negated_in-one p xs ms axs t n (λ k u. only k (has-later x xs k u))
    ]

-- what doesn't clash stays, from the right
pub joined-keeps_right : (ls ms : List Lit) (k : Lit) → has ms k ≡ true → has ls (flip k) ≡ false → has (joined ls ms).lits k ≡ true
joined-keeps_right [] ms k h n = h
joined-keeps_right (l ∷ ls) [] k h n = absurd (false≢true h)
joined-keeps_right (l ∷ ls) (m ∷ ms) k h n =
    let (nl, nls) = or_parts _ _ n in
    step_cases (λ j. has j.lits k ≡ true) l m _ _ _ _
    (λ _. has-later l (joined ls (m ∷ ms)).lits k (joined-keeps_right ls (m ∷ ms) k h nls))
    (λ _. elim (or_cases _ _ h) [ inl e ↦ has-here m (joined (l ∷ ls) ms).lits k e | inr t ↦ has-later m (joined (l ∷ ls) ms).lits k (joined-keeps_right (l ∷ ls) ms k t n) ])
    (λ v s. elim (or_cases _ _ h) [ inl e ↦ has-here l (joined ls ms).lits k (is_same-from l k (is_same-true l m s ∙ is_same-true m k e)) | inr t ↦ has-later l (joined ls ms).lits k (joined-keeps_right ls ms k t nls) ])
    (λ v s. elim (or_cases _ _ h) [
      | inl e ↦ absurd (both_ways _ nl (is_same-from l (flip k) (sym (flip-flip l) ∙ ap flip (sym (is_same-flip l m v s) ∙ is_same-true m k e))))
      | inr t ↦ joined-keeps_right ls ms k t nls
    ])

pub in_negated : (ls ms : List Lit) (k : Lit) → has ls k ≡ true → has ms (flip k) ≡ true → has (negated_in ls ms) k ≡ true
in_negated [] ms k h c = absurd (false≢true h)
in_negated (x ∷ xs) ms k h c = elim (cases_Bool (has ms (flip x))) [
  | inl t ↦ subst (λ (ys : List Lit). has ys k ≡ true) (sym (cond-true _ _ _ t)) (elim (or_cases _ _ h) [ inl e ↦ has-here x (negated_in xs ms) k e | inr u ↦ has-later x (negated_in xs ms) k (in_negated xs ms k u c) ])
  | inr f ↦ subst (λ (ys : List Lit). has ys k ≡ true) (sym (cond-false _ _ _ f)) (elim (or_cases _ _ h) [ inl e ↦ absurd (both_ways _ f (subst (λ (y : Lit). has ms (flip y) ≡ true) (sym (is_same-true x k e)) c)) | inr u ↦ in_negated xs ms k u c ])
]

-- a resolvent has one clash
pub one_clash : (c d r : List Lit) → resolvent c d ≡ Some r → ((joined c d).lits ≡ r) × ((p : Lit) × ((joined c d).clashes ≡ p ∷ []))
unfolding resolvent
one_clash c d r e = go (joined c d).lits (joined c d).clashes e
  where
    go : (lits clashes : List Lit) → where_one clashes lits ≡ Some r → (lits ≡ r) × ((p : Lit) × (clashes ≡ p ∷ []))
    go lits [] e = cc
    go lits (l ∷ []) e = (same_Some _ _ e, (l, refl))
    go lits (l ∷ m ∷ ms) e = cc
