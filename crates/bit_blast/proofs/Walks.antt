-- Steps of the walk, and where it stands.
use Rattle.std.proofs.Common.{◌≡◌, ℕ, ◌+◌, ◌<◌, Bool, true, false, List, [], ◌∷◌, ◌++◌, length, Option, Some, None, refl, sym, ap, ◌∙◌, arith}
use Rattle.std.specs.Prelude.{slice_index, MatchOption}
use Rattle.std.specs.Option.{option_to_list}
use Rattle.std.proofs.lemmas.List.{length_push, get_or_append_left}
use Rattle.bv_expr.specs.Walk.{IsOpenBelow, IsWalking}
use Rattle.bv_expr.proofs.Walking.{Finishes, walk_down, walk_up}
use Rattle.bit_blast.specs.Blasting.{Moves}

empty_of : (xs : List ℕ) → length xs ≡ 0 → xs ≡ []
empty_of [] h = refl
empty_of (x ∷ xs) h = absurd (omega arith)

first_same : (below : List ℕ) (top a : ℕ) → slice_index ((below ++ top ∷ []) ++ a ∷ []) 0 ≡ slice_index (below ++ top ∷ []) 0
first_same below top a = get_or_append_left (below ++ top ∷ []) (a ∷ []) 0 0 (omega (arith, length_push below top))

pub moves_down : (size : ℕ) (finished : ℕ → Bool) (below : List ℕ) (top a : ℕ) → IsWalking size finished below top → IsOpenBelow finished top a → Moves size finished below top finished (below ++ top ∷ []) (Some a)
moves_down size finished below top a was lies =
    let w = walk_down size finished below top a was lies in
    (w.0, w.1, first_same below top a)

pub moves_up : (size : ℕ) (old new : ℕ → Bool) (below front : List ℕ) (top n m : ℕ) (o : Option ℕ) → IsWalking size old below top → Finishes old new top → below ≡ front ++ option_to_list o → n ≡ length below
    → MatchOption o ((n ≡ 0) × (m ≡ 0)) (λ _. m + 1 ≡ n) → Moves size old below top new front o
moves_up size old new below front top n m None was done e long cases = (empty_of below (omega (arith, long, cases.0)), done.this)
moves_up size old new below front top n m (Some next) was done e long cases =
    let w = walk_up size old new below front top (Some next) was done e in
    let pushed : length below ≡ length front + 1 = ap (λ (xs : List ℕ). length xs) e ∙ length_push front next in
    (w.0, w.1, rw (← e) (sym (get_or_append_left below (top ∷ []) 0 0 (omega (arith, pushed)))))

-- where the walk for a root stands: it is over and the root is finished, or the root is the first node that waits
abbrev pub Stands : ℕ → (ℕ → Bool) → List ℕ → ℕ → Option ℕ → Type 0
Stands size finished below root None = finished root ≡ true
Stands size finished below root (Some top) = IsWalking size finished below top × (slice_index (below ++ top ∷ []) 0 ≡ root)

pub stands_next : (size : ℕ) (old new : ℕ → Bool) (below front : List ℕ) (top root : ℕ) (o : Option ℕ) → Moves size old below top new front o → slice_index (below ++ top ∷ []) 0 ≡ root → Stands size new front root o
stands_next size old new below front top root None moved first =
    let same : top ≡ root = sym (ap (λ (xs : List ℕ). slice_index (xs ++ top ∷ []) 0) moved.0) ∙ first in
    rw (← same) moved.1
stands_next size old new below front top root (Some next) moved first = (moved.0, moved.2 ∙ first)

pub starts : (size : ℕ) (finished : ℕ → Bool) (below : List ℕ) (root : ℕ) (o : Option ℕ) → root < size → below ≡ [] → MatchOption o (finished root ≡ true) (λ s. (s ≡ root) × (finished root ≡ false)) → Stands size finished below root o
starts size finished below root None here none found = found
starts size finished below root (Some top) here none found = (
  record {
    inside = omega (arith, found.0);
    unfinished = rw found.0 found.1;
    waits = λ k lt. absurd (omega (arith, ap (λ (xs : List ℕ). length xs) none));
    falls = λ j k jk lt. absurd (omega (arith, ap (λ (xs : List ℕ). length xs) none));
  },
  rw none found.0,
)
