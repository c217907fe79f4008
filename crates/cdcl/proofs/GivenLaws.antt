-- Clauses under what is given.
use Rattle.std.proofs.Common.{◌≡◌, ◌⊎◌, ℕ, zero, suc, ◌<◌, ◌+◌, Bool, true, false, not, ◌&&◌, eqb, List, [], ◌∷◌, ◌++◌, length, take, drop, get_or, Option, Some, None, refl, sym, ◌∙◌, ap, subst, inl, inr, arith}
use Rattle.std.specs.Option.{option_to_list, is_some}
use Rattle.cnf_form.specs.Clauses.{all_below}
use Rattle.std.proofs.lemmas.Bool.{and_parts, and_from, or_cases, cases_Bool, false≢true, cond-true, cond-false, not-true, not-false, eqb-true, eq-eqb, both_ways, ltb-true}
use Rattle.std.proofs.lemmas.List.{at_drop_more, take_more}
use Rattle.std.proofs.Math.Bool.{beq}
use Rattle.cnf_form.specs.declared.lit.Lit.{Lit}
use Rattle.cnf_form.specs.Literals.{flip, has}
use Rattle.cnf_form.specs.Clauses.{is_ascending}
use Rattle.cnf_form.specs.News.{is_free, are_distinct, unfalsified, is_pressed, is_quiet}
use Rattle.cnf_form.specs.Resolvent.{joined, resolvent}
use Rattle.cnf_form.proofs.NewsLaws.{free-has, distinct-flip, unfalsified-has}
use Rattle.cnf_form.proofs.LitLaws.{is_same-true, is_same-self, flip-flip, has-here, has-later}
use Rattle.cnf_form.proofs.JoinLaws.{resolvent-one, has-joined, joined-keeps, negated_in-one, clashes-joined, CameFrom}
use Rattle.cdcl.specs.Trail.{AllFalse}

pub quiet_two : (given ls : List Lit) (x y : Lit) (zs : List Lit) → unfalsified given ls ≡ x ∷ y ∷ zs → is_quiet given ls ≡ true
quiet_two given ls x y zs e = ap (λ (us : List Lit). not (is_pressed given us)) e

pressed_not : (given us : List Lit) (l : Lit) → has us l ≡ true → has given l ≡ true → not (is_pressed given us) ≡ true
pressed_not given [] l h t = absurd (false≢true h)
pressed_not given (x ∷ []) l h t = elim (or_cases _ _ h) [ inl e ↦ ap (λ b. not (not b)) (subst (λ y. has given y ≡ true) (sym (is_same-true x l e)) t) | inr u ↦ absurd (false≢true u) ]
pressed_not given (x ∷ y ∷ zs) l h t = refl

-- a clause with a true literal is quiet
pub quiet_true : (given clause : List Lit) (l : Lit) → are_distinct given ≡ true → has clause l ≡ true → has given l ≡ true → is_quiet given clause ≡ true
quiet_true given clause l d h t = pressed_not given (unfalsified given clause) l (unfalsified-has given clause l h (distinct-flip given l d t)) t

pub has-at : (ls : List Lit) (k : ℕ) (d : Lit) → k < length ls → has ls (get_or ls k d) ≡ true
has-at [] k d low = absurd (omega arith)
has-at (x ∷ xs) zero d low = has-here x xs x (is_same-self x)
has-at (x ∷ xs) (suc k) d low = has-later x xs (get_or xs k d) (has-at xs k d (omega arith))

-- one step over the literals of a clause
pub step_false : (given ls : List Lit) (found : Option Lit) (k : ℕ) (d : Lit) → k < length ls → has given (flip (get_or ls k d)) ≡ true → unfalsified given ls ≡ option_to_list found ++ unfalsified given (drop k ls) → unfalsified given ls ≡ option_to_list found ++ unfalsified given (drop (k + 1) ls)
step_false given ls found k d low f e =
    e ∙ ap (λ (us : List Lit). option_to_list found ++ us) (at_drop_more (unfalsified given) ls k d low ∙ cond-true _ _ _ f)

pub step_unset : (given ls : List Lit) (found : Option Lit) (k : ℕ) (d : Lit) → k < length ls → is_free given (get_or ls k d).var ≡ true → unfalsified given ls ≡ option_to_list found ++ unfalsified given (drop k ls) → unfalsified given ls ≡ option_to_list found ++ (get_or ls k d ∷ unfalsified given (drop (k + 1) ls))
step_unset given ls found k d low f e =
    e ∙ ap (λ (us : List Lit). option_to_list found ++ us) (at_drop_more (unfalsified given) ls k d low ∙ cond-false _ _ _ (free-has given _ (flip (get_or ls k d)) f refl))

-- nothing unfalsified: all are false
pub all_false-from : (given clause : List Lit) → unfalsified given clause ≡ [] → AllFalse given clause
all_false-from given clause e k h = elim (cases_Bool (has given (flip k))) [ inl t ↦ t | inr n ↦ absurd (false≢true (subst (λ us. has us k ≡ true) e (unfalsified-has given clause k h n))) ]

-- resolving a false clause with the reason of the newest literal leaves a false one
pub record Resolves (given : List Lit) (l : Lit) (c r : List Lit) : Type 0 where
  pub is_resolvent : resolvent c r ≡ Some (joined c r).lits
  pub false : AllFalse given (joined c r).lits
  pub keeps : (k : Lit) → has c k ≡ true → (k ≡ flip l → ⊥) → has (joined c r).lits k ≡ true

pub resolves : (given : List Lit) (l : Lit) (c r : List Lit) → is_ascending c ≡ true → is_ascending r ≡ true → are_distinct given ≡ true → is_free given l.var ≡ true → AllFalse (l ∷ given) c → has c (flip l) ≡ true → has r l ≡ true → ((k : Lit) → has r k ≡ true → (k ≡ l → ⊥) → has given (flip k) ≡ true) → Resolves given l c r
resolves given l c r a b d f all hc hr others = record {
  is_resolvent = resolvent-one c r (ap length (clashes-joined c r a b ∙ negated_in-one (flip l) c r a hc (subst (λ k. has r k ≡ true) (sym (flip-flip l)) hr) only));
  false = λ k h. from k (has-joined c r k a b h);
  keeps = λ k h n. joined-keeps c r k h (only k h n);
}
  where
    -- a literal of c whose negation isn't l is false without l
    rest : (k : Lit) → has c k ≡ true → (k ≡ flip l → ⊥) → has given (flip k) ≡ true
    rest k h n = elim (or_cases _ _ (all k h)) [ inl e ↦ absurd (n (sym (flip-flip k) ∙ sym (ap flip (is_same-true l (flip k) e)))) | inr t ↦ t ]

    only : (k : Lit) → has c k ≡ true → (k ≡ flip l → ⊥) → has r (flip k) ≡ false
    only k h n = elim (cases_Bool (has r (flip k))) [
      | inl t ↦ absurd (both_ways _ (distinct-flip given (flip k) d (rest k h n)) (others (flip k) t (λ (q : flip k ≡ l). n (sym (flip-flip k) ∙ ap flip q))))
      | inr u ↦ u
    ]

    from : (k : Lit) → CameFrom c r k → has given (flip k) ≡ true
    from k (inl (h, n)) = rest k h (λ (q : k ≡ flip l). both_ways _ n (subst (λ m. has r m ≡ true) (sym (flip-flip l) ∙ ap flip (sym q)) hr))
    from k (inr (h, n)) = others k h (λ (q : k ≡ l). both_ways _ n (subst (λ m. has c m ≡ true) (ap flip (sym q)) hc))

pub below-at : (v : ℕ) (ls : List Lit) (k : ℕ) (d : Lit) → all_below v ls ≡ true → k < length ls → (get_or ls k d).var < v
below-at v [] k d a low = absurd (omega arith)
below-at v (x ∷ xs) zero d a low = ltb-true _ _ (and_parts _ _ a).0
below-at v (x ∷ xs) (suc k) d a low = below-at v xs k d (and_parts _ _ a).1 (omega arith)

two_found : (given ls : List Lit) (found : Option Lit) (y : Lit) (ys : List Lit) → is_some found ≡ true → unfalsified given ls ≡ option_to_list found ++ y ∷ ys → is_quiet given ls ≡ true
two_found given ls None y ys s e = cc
two_found given ls (Some x) y ys s e = quiet_two given ls x y ys e

-- a second unset literal
pub quiet_found : (given ls : List Lit) (found : Option Lit) (k : ℕ) (d : Lit) → is_some found ≡ true → k < length ls → is_free given (get_or ls k d).var ≡ true → unfalsified given ls ≡ option_to_list found ++ unfalsified given (drop k ls) → is_quiet given ls ≡ true
quiet_found given ls found k d s low f e = two_found given ls found (get_or ls k d) (unfalsified given (drop (k + 1) ls)) s (step_unset given ls found k d low f e)

-- the first
pub first_found : (given ls : List Lit) (found : Option Lit) (k : ℕ) (d : Lit) → is_some found ≡ false → k < length ls → is_free given (get_or ls k d).var ≡ true → unfalsified given ls ≡ option_to_list found ++ unfalsified given (drop k ls) → unfalsified given ls ≡ option_to_list (Some (get_or ls k d)) ++ unfalsified given (drop (k + 1) ls)
first_found given ls None k d s low f e = step_unset given ls None k d low f e
first_found given ls (Some x) k d s low f e = cc

pub has-push : (xs : List Lit) (x k : Lit) → has (xs ++ x ∷ []) k ≡ true → (has xs k ≡ true) ⊎ (k ≡ x)
has-push [] x k h = elim (or_cases _ _ h) [ inl e ↦ inr (sym (is_same-true x k e)) | inr f ↦ absurd (false≢true f) ]
has-push (y ∷ ys) x k h = elim (or_cases _ _ h) [ inl e ↦ inl (has-here y ys k e) | inr t ↦ elim (has-push ys x k t) [ inl u ↦ inl (has-later y ys k u) | inr v ↦ inr v ] ]

same_bool : (a b : Bool) → beq a b ≡ true → a ≡ b
same_bool true true e = refl
same_bool true false e = cc
same_bool false true e = cc
same_bool false false e = refl

self_bool : (a : Bool) → beq a a ≡ true
self_bool true = refl
self_bool false = refl

-- what the code's test of two literals tells
pub lit_differs : (l m : Lit) → not (eqb l.var m.var && beq l.negated m.negated) ≡ true → l ≡ m → ⊥
lit_differs l m h e = both_ways _ (not-true _ h) (subst (λ (k : Lit). (eqb l.var k.var && beq l.negated k.negated) ≡ true) e (and_from _ _ (eq-eqb l.var l.var refl) (self_bool l.negated)))

pub lit_same : (l m : Lit) → not (eqb l.var m.var && beq l.negated m.negated) ≡ false → l ≡ m
lit_same l m h = let (v, n) = and_parts _ _ (not-false _ h) in ap (λ (w : ℕ). make w l.negated) (eqb-true _ _ v) ∙ ap (make m.var) (same_bool _ _ n)
  where
    make : ℕ → Bool → Lit
    make w b = record { var = w; negated = b }

-- what holds of the literals so far, and of the next one
pub has-next : (P : Lit → Type 0) (ls : List Lit) (i : ℕ) (d : Lit) → i < length ls → ((k : Lit) → has (take i ls) k ≡ true → P k) → P (get_or ls i d) → (k : Lit) → has (take (i + 1) ls) k ≡ true → P k
has-next P ls i d low all here k h = elim (has-push (take i ls) (get_or ls i d) k (subst (λ (xs : List Lit). has xs k ≡ true) (take_more ls i d low) h)) [
  | inl t ↦ all k t
  | inr e ↦ subst P (sym e) here
]
