-- What the numbers that wait say of a pool.
use Rattle.std.proofs.Common.{◌≡◌, ℕ, zero, suc, ◌-◌, ◌<◌, cond, eqb, List, [], ◌∷◌, length, Option, Some, None, refl, arith}
use Rattle.std.specs.Prelude.{slice_get, ◌==◌}
use Rattle.std.specs.List.{count_by}
use Rattle.std.proofs.lemmas.Bool.Decides.{nat_tests}
use Rattle.std.proofs.lemmas.List.Sums.{sum_by-cons}
use Rattle.std.proofs.lemmas.Option.{slice_get-get_or}
use Rattle.path_tree.specs.declared.taken.Taken.TheVariants.{NotNow}
use Rattle.path_tree.specs.PoolMachine.{Pool, next_up, out_count, ArePlaced}
use Rattle.path_tree.specs.Bag.{reply}
use Rattle.path_pool.specs.Turns.{HasToWait}

counted : (xs : List ℕ) (i n : ℕ) → slice_get xs i ≡ Some n → 0 < count_by (λ m. m == n) xs
counted [] i n h = cc
counted (x ∷ xs) zero n h =
    let same : x ≡ n = cc in
    let first = sum_by-cons (λ m. cond (eqb m n) 1 0) x xs in
    grind (arith, nat_tests)
counted (x ∷ xs) (suc i) n h =
    let rest = counted xs i n h in
    let first = sum_by-cons (λ m. cond (eqb m n) 1 0) x xs in
    grind (arith, nat_tests)

-- the number that is taken next is that of a path
pub next_within : (pool : Pool) (n : ℕ) → ArePlaced pool → next_up pool ≡ Some n → n < length pool.paths
next_within pool n placed next =
    let waits = counted pool.waiting (length pool.waiting - 1) n next in
    let here = placed n in
    grind (arith, nat_tests)

no_last : (xs : List ℕ) → slice_get xs (length xs - 1) ≡ None → xs ≡ []
no_last [] h = refl
no_last (x ∷ xs) h = let last = slice_get-get_or (x ∷ xs) (length (x ∷ xs) - 1) x (omega arith) in cc

not_now : (next : Option ℕ) (count out : ℕ) → NotNow out ≡ reply next count → (next ≡ None) × (0 < count)
not_now (Some n) count out h = cc
not_now None zero out h = cc
not_now None (suc count) out h = (refl, omega arith)

-- who is told to wait has to
pub told_to_wait : (pool : Pool) (out : ℕ) → NotNow out ≡ reply (next_up pool) (out_count pool) → HasToWait pool
told_to_wait pool out h =
    let told = not_now (next_up pool) (out_count pool) out h in
    record { none_waits = no_last pool.waiting told.0; out = told.1 }
