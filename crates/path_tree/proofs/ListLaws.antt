-- Sums over lists with an element replaced, last elements, and ranges.
use Rattle.std.proofs.Common.{◌≡◌, ℕ, zero, suc, ◌≤◌, ◌+◌, ◌-◌, cond, eqb, ltb, List, [], ◌∷◌, ◌++◌, length, set, take, Some, refl, sym, ◌∙◌, ap, add-zero, arith}
use Rattle.std.specs.Prelude.{slice_get, ◌==◌}
use Rattle.std.specs.List.{sum_by, count_by, range_with_len}
use Rattle.std.proofs.lemmas.Bool.Decides.{nat_tests}
use Rattle.std.proofs.lemmas.List.{append_assoc, length-append, take_more, take_all}
use Rattle.std.proofs.lemmas.List.Sums.{sum_by-set, sum_by-cons}
use Rattle.std.proofs.lemmas.Option.{slice_get_within, get_or_from_slice_get}

-- a sum gains the new term and loses the old one
pub sum_by-put : {X : Type 0} (f : X → ℕ) (xs : List X) (i : ℕ) (x y : X) → slice_get xs i ≡ Some x → sum_by f (set xs i y) + f x ≡ sum_by f xs + f y
sum_by-put f xs i x y e =
    rw (get_or_from_slice_get xs i x x e) at (sum_by-set f xs i y x (slice_get_within xs i x e))

-- a list is its front and its last element
pub last_apart : {X : Type 0} (xs : List X) (x : X) → slice_get xs (length xs - 1) ≡ Some x → xs ≡ take (length xs - 1) xs ++ x ∷ []
last_apart xs x e =
    let within = slice_get_within xs (length xs - 1) x e in
    let whole : length xs - 1 + 1 ≡ length xs = omega arith in
    let more = take_more xs (length xs - 1) x within in
    let all = take_all (length xs) xs (omega arith) in
    let read = get_or_from_slice_get xs (length xs - 1) x x e in
    sym all ∙ ap (λ n. take n xs) (sym whole) ∙ more ∙ ap (λ y. take (length xs - 1) xs ++ y ∷ []) read

-- 1 for the numbers from a on, below a + k
pub count_by-range : (n a k : ℕ) → count_by (λ m. m == n) (range_with_len a k) + cond (ltb n a) 1 0 ≡ cond (ltb n (a + k)) 1 0
count_by-range n a zero = grind (arith, nat_tests)
count_by-range n a (suc k) =
    let rest = count_by-range n (a + 1) k in
    let first = sum_by-cons (λ m. cond (eqb m n) 1 0) a (range_with_len (a + 1) k) in
    grind (arith, nat_tests)

-- a range with one number more
range-push : (a k : ℕ) → range_with_len a (suc k) ≡ range_with_len a k ++ (a + k) ∷ []
range-push a zero = rw add-zero refl
range-push a (suc k) =
    let next : a + 1 + k ≡ a + suc k = omega arith in
    ap (λ xs. a ∷ xs) (range-push (a + 1) k ∙ ap (λ m. range_with_len (a + 1) k ++ m ∷ []) next)

-- a list to which a range was appended, and then the next number
pub range-next : (old now next : List ℕ) (first number : ℕ) → first ≤ number → now ≡ old ++ range_with_len first (number - first) → next ≡ now ++ number ∷ [] → next ≡ old ++ range_with_len first (number + 1 - first)
range-next old now next first number low e f =
    let more : number + 1 - first ≡ suc (number - first) = omega arith in
    let at : first + (number - first) ≡ number = omega arith in
    f
    ∙ ap (λ xs. xs ++ number ∷ []) e
    ∙ append_assoc old (range_with_len first (number - first)) (number ∷ [])
    ∙ ap (λ xs. old ++ xs) (ap (λ m. range_with_len first (number - first) ++ m ∷ []) (sym at) ∙ sym (range-push first (number - first)) ∙ ap (range_with_len first) (sym more))

-- the last element of a list, and what stands before it
pub last_of : {X : Type 0} (xs ys : List X) (x : X) → xs ≡ ys ++ x ∷ [] → (slice_get xs (length xs - 1) ≡ Some x) × (ys ≡ take (length xs - 1) xs)
last_of xs ys x e =
    let long : length xs ≡ length ys + 1 = ap length e ∙ length-append ys (x ∷ []) in
    let at : length xs - 1 ≡ length ys = omega arith in
    let here : slice_get (ys ++ x ∷ []) (length ys) ≡ Some x = slice_get-end ys x in
    (ap (slice_get xs) at ∙ ap (λ zs. slice_get zs (length ys)) e ∙ here, sym (ap (λ n. take n xs) at ∙ ap (take (length ys)) e ∙ take-front ys (x ∷ [])))
  where
    slice_get-end : {X : Type 0} (ys : List X) (x : X) → slice_get (ys ++ x ∷ []) (length ys) ≡ Some x
    slice_get-end [] x = refl
    slice_get-end (y ∷ ys) x = slice_get-end ys x

    take-front : {X : Type 0} (ys zs : List X) → take (length ys) (ys ++ zs) ≡ ys
    take-front [] zs = refl
    take-front (y ∷ ys) zs = ap (λ xs. y ∷ xs) (take-front ys zs)

-- a list of length 0
pub none_left : {X : Type 0} (xs : List X) → length xs ≡ 0 → xs ≡ []
none_left [] e = refl
none_left (x ∷ xs) e = absurd (omega arith)
