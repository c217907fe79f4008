-- Values that are dealt to a pair.
use Rattle.std.proofs.Common.{◌≡◌, ℕ, suc, zero, ◌+◌, ◌*◌, ◌<◌, ◌≤◌, Bool, true, false, cond, List, [], ◌∷◌, ◌++◌, length, get_or, drop, refl, sym, ◌∙◌, ap, subst, arith, append_assoc, append-nil, add-one, drop-cons}
use Rattle.ct_pairs.specs.declared.input_byte.InputByte.{InputByte}
use Rattle.ct_pairs.specs.declared.pair.Pair.{Pair}
use Rattle.rel_step.specs.Bridge.{variable_of, public_values, secret_values}
use Rattle.path_run.specs.declared.pairs.Dealt.{Dealt}
use Rattle.path_run.specs.Pairs.{AreDealt}

-- the values of one input and those of the rest
pub public_more : (env : ℕ → ℕ) (n : ℕ) (input : InputByte) (rest : List InputByte) (secret : Bool) → input.secret ≡ secret → public_values env n (input ∷ rest) ≡ cond secret (public_values env (n + 2) rest) (env n ∷ public_values env (n + 2) rest)
unfolding public_values
public_more env n input rest secret e = ap (λ b. cond b (public_values env (n + 2) rest) (env n ∷ public_values env (n + 2) rest)) e

pub secret_more : (right : Bool) (env : ℕ → ℕ) (n : ℕ) (input : InputByte) (rest : List InputByte) (secret : Bool) → input.secret ≡ secret →
    secret_values right env n (input ∷ rest) ≡ cond secret (env (variable_of right n true) ∷ secret_values right env (n + 2) rest) (secret_values right env (n + 2) rest)
unfolding secret_values
secret_more right env n input rest secret e = ap (λ b. cond b (env (variable_of right n true) ∷ secret_values right env (n + 2) rest) (secret_values right env (n + 2) rest)) e

pub public_none : (env : ℕ → ℕ) (n : ℕ) → public_values env n [] ≡ []
unfolding public_values
public_none env n = refl

pub secret_none : (right : Bool) (env : ℕ → ℕ) (n : ℕ) → secret_values right env n [] ≡ []
unfolding secret_values
secret_none right env n = refl

drop_at : (xs : List InputByte) (k : ℕ) (d : InputByte) → k < length xs → drop k xs ≡ get_or xs k d ∷ drop (k + 1) xs
drop_at xs k d below = rw add-one (drop-cons xs k d below)

joined : (xs ys zs : List ℕ) (x : ℕ) → xs ++ (x ∷ ys) ≡ zs → (xs ++ x ∷ []) ++ ys ≡ zs
joined xs ys zs x e = append_assoc xs (x ∷ []) ys ∙ e

-- a secret input byte is dealt to both runs
pub dealt_secret : (env : ℕ → ℕ) (m k : ℕ) (all xs : List InputByte) (input : InputByte) (old new : Dealt) → k < length xs → input ≡ get_or xs k input → input.secret ≡ true → AreDealt env m all old (2 * k) (drop k xs) →
    new.shared.items ≡ old.shared.items → new.left.items ≡ old.left.items ++ env (2 * k) ∷ [] → new.right.items ≡ old.right.items ++ env (2 * k + 1) ∷ [] → AreDealt env m all new (2 * (k + 1)) (drop (k + 1) xs)
dealt_secret env m k all xs input old new below here secret h shared left right = record {
  shared_are = subst (λ ys. ys ++ public_values env (2 * (k + 1)) rest ≡ public_values env m all) (sym shared) (subst (λ n. old.shared.items ++ public_values env n rest ≡ public_values env m all) twice (ap (λ ys. old.shared.items ++ ys) (sym (public_more env (2 * k) input rest true secret)) ∙ ap (λ zs. old.shared.items ++ public_values env (2 * k) zs) (sym is) ∙ h.shared_are));
  left_are = subst (λ ys. ys ++ secret_values false env (2 * (k + 1)) rest ≡ secret_values false env m all) (sym left) (subst (λ n. (old.left.items ++ env (2 * k) ∷ []) ++ secret_values false env n rest ≡ secret_values false env m all) twice (joined old.left.items _ _ (env (2 * k)) (ap (λ v. old.left.items ++ (env v ∷ secret_values false env (2 * k + 2) rest)) (omega arith) ∙ ap (λ ys. old.left.items ++ ys) (sym (secret_more false env (2 * k) input rest true secret)) ∙ ap (λ zs. old.left.items ++ secret_values false env (2 * k) zs) (sym is) ∙ h.left_are)));
  right_are = subst (λ ys. ys ++ secret_values true env (2 * (k + 1)) rest ≡ secret_values true env m all) (sym right) (subst (λ n. (old.right.items ++ env (2 * k + 1) ∷ []) ++ secret_values true env n rest ≡ secret_values true env m all) twice (joined old.right.items _ _ (env (2 * k + 1)) (ap (λ ys. old.right.items ++ ys) (sym (secret_more true env (2 * k) input rest true secret)) ∙ ap (λ zs. old.right.items ++ secret_values true env (2 * k) zs) (sym is) ∙ h.right_are)));
}
  where
    rest : List InputByte
    rest = drop (k + 1) xs

    is : drop k xs ≡ input ∷ rest
    is = drop_at xs k input below ∙ ap (λ x. x ∷ rest) (sym here)

    twice : 2 * k + 2 ≡ 2 * (k + 1)
    twice = omega arith

-- a public one to both runs at once
pub dealt_public : (env : ℕ → ℕ) (m k : ℕ) (all xs : List InputByte) (input : InputByte) (old new : Dealt) → k < length xs → input ≡ get_or xs k input → input.secret ≡ false → AreDealt env m all old (2 * k) (drop k xs) →
    new.shared.items ≡ old.shared.items ++ env (2 * k) ∷ [] → new.left.items ≡ old.left.items → new.right.items ≡ old.right.items → AreDealt env m all new (2 * (k + 1)) (drop (k + 1) xs)
dealt_public env m k all xs input old new below here secret h shared left right = record {
  shared_are = subst (λ ys. ys ++ public_values env (2 * (k + 1)) rest ≡ public_values env m all) (sym shared) (subst (λ n. (old.shared.items ++ env (2 * k) ∷ []) ++ public_values env n rest ≡ public_values env m all) twice (joined old.shared.items _ _ (env (2 * k)) (ap (λ ys. old.shared.items ++ ys) (sym (public_more env (2 * k) input rest false secret)) ∙ ap (λ zs. old.shared.items ++ public_values env (2 * k) zs) (sym is) ∙ h.shared_are)));
  left_are = subst (λ ys. ys ++ secret_values false env (2 * (k + 1)) rest ≡ secret_values false env m all) (sym left) (subst (λ n. old.left.items ++ secret_values false env n rest ≡ secret_values false env m all) twice (ap (λ ys. old.left.items ++ ys) (sym (secret_more false env (2 * k) input rest false secret)) ∙ ap (λ zs. old.left.items ++ secret_values false env (2 * k) zs) (sym is) ∙ h.left_are));
  right_are = subst (λ ys. ys ++ secret_values true env (2 * (k + 1)) rest ≡ secret_values true env m all) (sym right) (subst (λ n. old.right.items ++ secret_values true env n rest ≡ secret_values true env m all) twice (ap (λ ys. old.right.items ++ ys) (sym (secret_more true env (2 * k) input rest false secret)) ∙ ap (λ zs. old.right.items ++ secret_values true env (2 * k) zs) (sym is) ∙ h.right_are));
}
  where
    rest : List InputByte
    rest = drop (k + 1) xs

    is : drop k xs ≡ input ∷ rest
    is = drop_at xs k input below ∙ ap (λ x. x ∷ rest) (sym here)

    twice : 2 * k + 2 ≡ 2 * (k + 1)
    twice = omega arith

-- all values are dealt
pub dealt_all : (env : ℕ → ℕ) (m n : ℕ) (all rest : List InputByte) (dealt : Dealt) → rest ≡ [] → AreDealt env m all dealt n rest →
    (dealt.shared.items ≡ public_values env m all) × (dealt.left.items ≡ secret_values false env m all) × (dealt.right.items ≡ secret_values true env m all)
dealt_all env m n all rest dealt none h = (
  sym (append-nil dealt.shared.items) ∙ ap (λ ys. dealt.shared.items ++ ys) (sym (public_none env n)) ∙ ap (λ zs. dealt.shared.items ++ public_values env n zs) (sym none) ∙ h.shared_are,
  sym (append-nil dealt.left.items) ∙ ap (λ ys. dealt.left.items ++ ys) (sym (secret_none false env n)) ∙ ap (λ zs. dealt.left.items ++ secret_values false env n zs) (sym none) ∙ h.left_are,
  sym (append-nil dealt.right.items) ∙ ap (λ ys. dealt.right.items ++ ys) (sym (secret_none true env n)) ∙ ap (λ zs. dealt.right.items ++ secret_values true env n zs) (sym none) ∙ h.right_are,
)

get_or_in : {X : Type 0} (xs : List X) (k : ℕ) (d e : X) → k < length xs → get_or xs k d ≡ get_or xs k e
get_or_in [] k d e below = absurd (omega (arith, below))
get_or_in (x ∷ xs) zero d e below = refl
get_or_in (x ∷ xs) (suc k) d e below = get_or_in xs k d e (omega (arith, below))

-- the same, of the input that was read
pub dealt_secret_at : (env : ℕ → ℕ) (k : ℕ) (inputs xs : List InputByte) (d : InputByte) (old new : Dealt) → xs ≡ inputs → k < length inputs → (get_or xs k d).secret ≡ true → AreDealt env 0 inputs old (2 * k) (drop k inputs) →
    new.shared.items ≡ old.shared.items → new.left.items ≡ old.left.items ++ env (2 * k) ∷ [] → new.right.items ≡ old.right.items ++ env (2 * k + 1) ∷ [] → AreDealt env 0 inputs new (2 * (k + 1)) (drop (k + 1) inputs)
dealt_secret_at env k inputs xs d old new same below secret h shared left right =
    dealt_secret env 0 k inputs inputs (get_or inputs k d) old new below (get_or_in inputs k d (get_or inputs k d) below) (subst (λ ys. (get_or ys k d).secret ≡ true) same secret) h shared left right

pub dealt_public_at : (env : ℕ → ℕ) (k : ℕ) (inputs xs : List InputByte) (d : InputByte) (old new : Dealt) → xs ≡ inputs → k < length inputs → (get_or xs k d).secret ≡ false → AreDealt env 0 inputs old (2 * k) (drop k inputs) →
    new.shared.items ≡ old.shared.items ++ env (2 * k) ∷ [] → new.left.items ≡ old.left.items → new.right.items ≡ old.right.items → AreDealt env 0 inputs new (2 * (k + 1)) (drop (k + 1) inputs)
dealt_public_at env k inputs xs d old new same below secret h shared left right =
    dealt_public env 0 k inputs inputs (get_or inputs k d) old new below (get_or_in inputs k d (get_or inputs k d) below) (subst (λ ys. (get_or ys k d).secret ≡ false) same secret) h shared left right

pub drop_none : {X : Type 0} (xs : List X) (n : ℕ) → length xs ≤ n → drop n xs ≡ []
drop_none [] zero below = refl
drop_none [] (suc n) below = refl
drop_none (x ∷ xs) zero below = absurd (omega (arith, below))
drop_none (x ∷ xs) (suc n) below = drop_none xs n (omega (arith, below))

pub pair_same : (s l r s2 l2 r2 : List ℕ) → s ≡ s2 → l ≡ l2 → r ≡ r2 → ◌≡◌ {A = Pair} (record { shared = s; left = l; right = r }) (record { shared = s2; left = l2; right = r2 })
pair_same s l r s2 l2 r2 a b c = λ i. record { shared = a i; left = b i; right = c i }
