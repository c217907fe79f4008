-- What a seat's own calls say of the pool.
use Rattle.std.proofs.Common.{◌≡◌, ◌≢◌, ℕ, zero, suc, ◌+◌, ◌<◌, ◌≤◌, Bool, true, false, cond, eqb, ltb, List, [], ◌∷◌, ◌++◌, length, set, replicate, Some, None, sym, refl, ap, ◌∙◌, subst, eq-eqb, lt-ltb, arith}
use Rattle.std.specs.Prelude.{slice_get}
use mathlib.Core.Bool.{not}
use Rattle.std.proofs.lemmas.Option.{same_Some, slice_get_within}
use Rattle.std.specs.List.{count_by, position, position_or_len}
use Rattle.std.proofs.lemmas.Bool.Decides.{nat_tests}
use Rattle.std.proofs.lemmas.Bool.{eqb-true, eqb-false}
use Rattle.std.proofs.lemmas.List.Sums.{sum_by-cons}
use Rattle.path_tree.specs.declared.path.Path.{Path}
use Rattle.path_tree.specs.declared.seat.Seat.{Seat}
use Rattle.path_tree.specs.declared.seat.Seat.TheVariants.{Free, Holds, Ended}
use Rattle.path_tree.specs.declared.entered.PoolCall.{PoolCall}
use Rattle.path_tree.specs.declared.entered.PoolCall.TheVariants.{Took, Finished, Split, Closed, GaveBack}
use Rattle.path_tree.specs.declared.entered.Entered.{Entered}
use Rattle.path_tree.specs.PoolMachine.{Pool, Contents, beginning, holds, holder, MayTake, moved, Leads, IsLegal, ArePlaced}
use Rattle.path_pool.proofs.Totals.{mark}
use Rattle.path_pool.specs.Calls.{calls_of, after_call, doing_after, doing}

at_same : (xs : List Seat) (i : ℕ) (x y : Seat) → slice_get xs i ≡ Some x → slice_get (set xs i y) i ≡ Some y
at_same [] i x y at = cc
at_same (z ∷ xs) zero x y at = refl
at_same (z ∷ xs) (suc i) x y at = at_same xs i x y at

at_other : (xs : List Seat) (i k : ℕ) (y : Seat) → i ≢ k → slice_get (set xs i y) k ≡ slice_get xs k
at_other [] i k y other = refl
at_other (z ∷ xs) zero zero y other = absurd (other refl)
at_other (z ∷ xs) zero (suc k) y other = refl
at_other (z ∷ xs) (suc i) zero y other = refl
at_other (z ∷ xs) (suc i) (suc k) y other = at_other xs i k y (λ e. other (ap suc e))

slice_get-set : (xs : List Seat) (i k : ℕ) (x y : Seat) → slice_get xs k ≡ Some x → slice_get (set xs i y) k ≡ Some (cond (eqb i k) y x)
slice_get-set xs i k x y at = by (eqb i k) refl
  where
    by : (b : Bool) → eqb i k ≡ b → slice_get (set xs i y) k ≡ Some (cond (eqb i k) y x)
    by true same =
        ap (λ n. slice_get (set xs n y) k) (eqb-true i k same) ∙ at_same xs k x y at ∙ sym (ap (λ b. Some (cond b y x)) same)
    by false other = at_other xs i k y (eqb-false i k other) ∙ at ∙ sym (ap (λ b. Some (cond b y x)) other)

-- what a seat does after an entry
moved_seat : (pool : Pool) (entry : Entered) (kids : List Path) (number : ℕ) (seat : Seat) → slice_get pool.seats number ≡ Some seat → slice_get (moved pool entry.seat entry.call kids).seats number ≡ Some (cond (eqb entry.seat number) (after_call entry.call) seat)
moved_seat pool entry kids number seat at = by_call entry.call
  where
    by_call : (call : PoolCall) → slice_get (moved pool entry.seat call kids).seats number ≡ Some (cond (eqb entry.seat number) (after_call call) seat)
    by_call (Took n) = slice_get-set pool.seats entry.seat number seat (Holds n) at
    by_call Finished = slice_get-set pool.seats entry.seat number seat Ended at
    by_call (Split n first count) = slice_get-set pool.seats entry.seat number seat (Holds first) at
    by_call (Closed n) = slice_get-set pool.seats entry.seat number seat Free at
    by_call (GaveBack n) = slice_get-set pool.seats entry.seat number seat Ended at

after_first : (b : Bool) (call : PoolCall) (calls : List PoolCall) (seat : Seat) → doing_after (cond b (after_call call) seat) calls ≡ doing_after seat (cond b (call ∷ calls) calls)
after_first true call calls seat = refl
after_first false call calls seat = refl

-- what a seat does after the entries
led_seat : (first last : Pool) (entries : List Entered) (number : ℕ) (seat : Seat) → Leads first entries last → slice_get first.seats number ≡ Some seat → slice_get last.seats number ≡ Some (doing_after seat (calls_of number entries))
led_seat first last [] number seat leads at = subst (λ (p : Pool). slice_get p.seats number ≡ Some seat) leads at
led_seat first last (entry ∷ entries) number seat (next, step, leads) at =
    let here : slice_get next.seats number ≡ Some (cond (eqb entry.seat number) (after_call entry.call) seat) = ap (λ (p : Pool). slice_get p.seats number) step.change ∙ moved_seat first entry step.kids number seat at in
    led_seat next last entries number _ leads here ∙ ap Some (after_first (eqb entry.seat number) entry.call (calls_of number entries) seat)

at_replicate : (n number : ℕ) → number < n → slice_get (replicate n Free) number ≡ Some Free
at_replicate zero number within = absurd (omega arith)
at_replicate (suc n) zero within = refl
at_replicate (suc n) (suc number) within = at_replicate n number (omega arith)

-- what a seat does in a pool is what its calls in the history say
pub seat_does : (inside : Contents) (number : ℕ) → IsLegal inside → number < length inside.pool.seats → slice_get inside.pool.seats number ≡ Some (doing (calls_of number inside.history))
seat_does inside number legal within =
    led_seat (beginning (length inside.pool.seats)) inside.pool inside.history number Free legal (at_replicate (length inside.pool.seats) number within)

pub may_take : (inside : Contents) (number : ℕ) (calls : List PoolCall) → IsLegal inside → number < length inside.pool.seats → calls_of number inside.history ≡ calls → doing calls ≡ Free → MayTake inside.pool number
may_take inside number calls legal within own free = seat_does inside number legal within ∙ ap Some (ap doing own ∙ free)

some_there : (p : Seat → Bool) (xs : List Seat) (i : ℕ) (x : Seat) → slice_get xs i ≡ Some x → p x ≡ true → 1 ≤ count_by p xs
some_there p [] i x at holds_it = cc
some_there p (z ∷ xs) zero x at holds_it =
    let here : p z ≡ true = ap p (same_Some z x at) ∙ holds_it in
    let one : mark (p z) ≡ 1 = ap mark here in
    omega (arith, sum_by-cons (λ y. cond (p y) 1 0) z xs)
some_there p (z ∷ xs) (suc i) x at holds_it = omega (arith, sum_by-cons (λ y. cond (p y) 1 0) z xs, some_there p xs i x at holds_it)

not_before : (b : Bool) (n : ℕ) → cond b 1 0 + n ≤ 1 → 1 ≤ n → b ≡ false
not_before true n one some = absurd (omega (arith, one, some))
not_before false n one some = refl

-- the only place at which a test holds
first_place : (p : Seat → Bool) (xs : List Seat) (i : ℕ) (x : Seat) → slice_get xs i ≡ Some x → p x ≡ true → count_by p xs ≤ 1 → position_or_len p xs ≡ i
first_place p [] i x at holds_it one = cc
first_place p (z ∷ xs) zero x at holds_it one = ap (λ b. cond (not b) (1 + position_or_len p xs) 0) (ap p (same_Some z x at) ∙ holds_it)
first_place p (z ∷ xs) (suc i) x at holds_it one =
    let first = sum_by-cons (λ y. cond (p y) 1 0) z xs in
    let none : p z ≡ false = not_before (p z) (count_by p xs) (omega (arith, one, first)) (some_there p xs i x at holds_it) in
    let rest = first_place p xs i x at holds_it (omega (arith, one, first)) in
    ap (λ b. cond (not b) (1 + position_or_len p xs) 0) none ∙ omega (arith, rest)

only_place : (p : Seat → Bool) (xs : List Seat) (i : ℕ) (x : Seat) → slice_get xs i ≡ Some x → p x ≡ true → count_by p xs ≤ 1 → position p xs ≡ Some i
only_place p xs i x at holds_it one =
    ap (λ n. cond (ltb n (length xs)) (Some n) None) (first_place p xs i x at holds_it one)
    ∙ ap (λ b. cond b (Some i) None) (lt-ltb i (length xs) (slice_get_within xs i x at))

holds_own : (number : ℕ) → holds number (Holds number) ≡ true
holds_own number = grind (arith, nat_tests)

-- the path is out to the seat that holds it
pub holder_is : (inside : Contents) (number path : ℕ) (calls : List PoolCall) → IsLegal inside → ArePlaced inside.pool → number < length inside.pool.seats → calls_of number inside.history ≡ calls → doing calls ≡ Holds path → holder inside.pool path ≡ Some number
holder_is inside number path calls legal placed within own held =
    let at : slice_get inside.pool.seats number ≡ Some (Holds path) = seat_does inside number legal within ∙ ap Some (ap doing own ∙ held) in
    only_place (holds path) inside.pool.seats number (Holds path) at (holds_own path) (omega (arith, placed path, at_most path (length inside.pool.paths)))
  where
    at_most : (n high : ℕ) → cond (ltb n high) 1 0 ≤ 1
    at_most n high = grind (arith, nat_tests)

after_push : (b : Bool) (call : PoolCall) (more old last : List PoolCall) → more ≡ old ++ last → cond b (call ∷ more) more ≡ cond b (call ∷ old) old ++ last
after_push true call more old last e = ap (λ calls. call ∷ calls) e
after_push false call more old last e = e

calls_of-push : (number : ℕ) (entries : List Entered) (entry : Entered) → calls_of number (entries ++ entry ∷ []) ≡ calls_of number entries ++ cond (eqb entry.seat number) (entry.call ∷ []) []
calls_of-push number [] entry = refl
calls_of-push number (e ∷ entries) entry = after_push (eqb e.seat number) e.call _ _ _ (calls_of-push number entries entry)

-- the calls of a seat, with one more
pub own_call : (number : ℕ) (call : PoolCall) (before after : List Entered) (calls : List PoolCall) → after ≡ before ++ record { seat = number; call = call } ∷ [] → calls_of number before ≡ calls → calls_of number after ≡ calls ++ call ∷ []
own_call number call before after calls more own =
    ap (calls_of number) more
    ∙ calls_of-push number before (record { seat = number; call = call })
    ∙ ap (λ b. calls_of number before ++ cond b (call ∷ []) []) (eq-eqb number number refl)
    ∙ ap (λ old. old ++ call ∷ []) own

doing_after-push : (seat : Seat) (calls : List PoolCall) (call : PoolCall) → doing_after seat (calls ++ call ∷ []) ≡ after_call call
doing_after-push seat [] call = refl
doing_after-push seat (c ∷ calls) call = doing_after-push (after_call c) calls call

-- the last call says what a seat does
pub doing-push : (calls : List PoolCall) (call : PoolCall) → doing (calls ++ call ∷ []) ≡ after_call call
doing-push calls call = doing_after-push Free calls call
