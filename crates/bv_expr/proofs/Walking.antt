-- Steps of a walk that finishes a node after its operands.
use Rattle.std.proofs.Common.{◌≡◌, ℕ, zero, suc, ◌+◌, ◌*◌, ◌<◌, Bool, true, false, List, [], ◌∷◌, ◌++◌, length, Option, Some, None, refl, sym, ap, ◌∙◌, inl, inr, arith}
use Rattle.std.specs.Prelude.{slice_index, MatchOption}
use Rattle.std.specs.Option.{option_to_list}
use Rattle.std.proofs.lemmas.Bool.{cases_lt, cases_eq}
use Rattle.std.proofs.lemmas.List.{length_push, get_or_append_left, get_or_push}
use Rattle.bv_expr.specs.Walk.{IsOpenBelow, IsWalking, unfinished_below, rest_of}

at_front : (xs : List ℕ) (y k : ℕ) → k < length xs → slice_index (xs ++ y ∷ []) k ≡ slice_index xs k
at_front xs y k lt = get_or_append_left xs (y ∷ []) 0 k lt

at_end : (xs : List ℕ) (y : ℕ) → slice_index (xs ++ y ∷ []) (length xs) ≡ y
at_end xs y = get_or_push xs y 0 (length xs) refl

-- the walk goes down to an operand that isn't finished
pub walk_down : (size : ℕ) (finished : ℕ → Bool) (below : List ℕ) (top a : ℕ) → IsWalking size finished below top → IsOpenBelow finished top a
    → IsWalking size finished (below ++ top ∷ []) a × (rest_of size finished a < rest_of size finished top)
unfolding rest_of
walk_down size finished below top a was lies = (
  record {
    inside = omega (arith, was.inside, lies.0);
    unfinished = lies.1;
    waits = λ k lt. elim (cases_lt k (length below)) [
      | inl l ↦ rw (at_front below top k l) (let w = was.waits k l in (w.0, w.1, omega (arith, w.2, lies.0)))
      | inr l ↦ (let e : k ≡ length below = omega (arith, length_push below top) in rw e (rw (at_end below top) (was.inside, was.unfinished, lies.0)))
    ];
    falls = λ j k jk lt. elim (cases_lt k (length below)) [
      | inl l ↦ rw (at_front below top k l) (rw (at_front below top j (omega arith)) (was.falls j k jk l))
      | inr l ↦ (let e : k ≡ length below = omega (arith, length_push below top) in rw e (rw (at_end below top) (rw (at_front below top j (omega arith)) ((was.waits j (omega arith)).2))))
    ];
  },
  omega (arith, lies.0),
)

-- top and nothing else was finished
pub record Finishes (old new : ℕ → Bool) (top : ℕ) : Type 0 where
  pub this : new top ≡ true
  pub others : (q : ℕ) → (q ≡ top → ⊥) → new q ≡ old q

unfinished-same : (old new : ℕ → Bool) (n : ℕ) → ((q : ℕ) → q < n → new q ≡ old q) → unfinished_below new n ≡ unfinished_below old n
unfinished-same old new zero h = refl
unfinished-same old new (suc n) h = rw (h n (omega arith)) (omega (arith, unfinished-same old new n (λ q lt. h q (omega arith))))

-- one node more that is finished leaves one less
unfinished-less : (old new : ℕ → Bool) (j n : ℕ) → j < n → old j ≡ false → Finishes old new j → unfinished_below new n + 1 ≡ unfinished_below old n
unfinished-less old new j zero lt was is = absurd (omega arith)
unfinished-less old new j (suc n) lt was is = elim (cases_eq n j) [
  | inl e ↦ (let a : new n ≡ true = rw e is.this in let b : old n ≡ false = rw e was in
      rw a (rw b (omega (arith, unfinished-same old new n (λ q l. is.others q (λ h. absurd (omega arith)))))))
  | inr e ↦ (let a : new n ≡ old n = is.others n e in rw a (omega (arith, unfinished-less old new j n (omega arith) was is)))
]

less_rest : (size : ℕ) (old new : ℕ → Bool) (top next : ℕ) → top < size → old top ≡ false → Finishes old new top → next < size → rest_of size new next < rest_of size old top
unfolding rest_of
less_rest size old new top next inside was is lt = omega (arith, ap (λ (u : ℕ). (size + 1) * u) (unfinished-less old new top size inside was is))

-- the walk finishes the node where it stands, and goes back to the one that waits for it
pub walk_up : (size : ℕ) (old new : ℕ → Bool) (below front : List ℕ) (top : ℕ) (o : Option ℕ) → IsWalking size old below top → Finishes old new top → below ≡ front ++ option_to_list o
    → MatchOption o (Unit {0}) (λ next. IsWalking size new front next × (rest_of size new next < rest_of size old top))
walk_up size old new below front top None was is e = tt
walk_up size old new below front top (Some next) was is e =
    let last : slice_index below (length front) ≡ next = rw e (at_end front next) in
    let long : length below ≡ length front + 1 = ap length e ∙ length_push front next in
    let w = was.waits (length front) (omega arith) in
    let above : top < next = omega (arith, w.2, last) in
    let in_next : next < size = omega (arith, w.0, last) in
    let keeps : (q : ℕ) → top < q → new q ≡ old q = λ q gt. is.others q (λ h. absurd (omega arith)) in
    let place : (k : ℕ) → k < length front → slice_index front k ≡ slice_index below k = λ k lt. sym (ap (λ (xs : List ℕ). slice_index xs k) e ∙ at_front front next k lt) in (
      record {
        inside = in_next;
        unfinished = keeps next above ∙ (rw (← last) w.1);
        waits = λ k lt. rw (place k lt) (let v = was.waits k (omega arith) in (v.0, keeps _ v.2 ∙ v.1, omega (arith, was.falls k (length front) lt (omega arith), last)));
        falls = λ j k jk lt. rw (place k lt) (rw (place j (omega arith)) (was.falls j k jk (omega arith)));
      },
      less_rest size old new top next was.inside was.unfinished is in_next,
    )
