-- Each assignment of the inputs spells bytes, and has their bits.
use Rattle.std.proofs.Common.{◌≡◌, ℕ, zero, suc, ◌+◌, ◌*◌, ◌/◌, ◌%◌, ◌^◌, ◌<◌, ◌≤◌, Bool, true, false, cond, List, [], ◌∷◌, length, take, drop, get_or, Some, refl, sym, ap, ◌∙◌, arith}
use Rattle.std.specs.Prelude.{◌≢◌, slice_get, slice_index, nat_eq}
use Rattle.std.specs.Int.{bit_at}
use Rattle.std.proofs.lemmas.Bool.Decides.{nat_tests}
use Rattle.std.proofs.lemmas.List.{take-append-drop}
use Rattle.std.proofs.lemmas.List.Sums.{count_by_more_yes, sum_by-append}
use Rattle.std.proofs.lemmas.Option.{get_or_from_slice_get, slice_get_within}
use Rattle.std.proofs.Math.Nat.{div-div-eq-div-mul, pow-suc}
use Rattle.ct_words.specs.Words.{flag}
use Rattle.gate_form.specs.declared.wire.Gate.{Gate}
use Rattle.gate_form.specs.declared.wire.Gate.TheVariants.{True, Input}
use Rattle.gate_form.specs.Net.{IsNet, is_input, input_count}
use Rattle.gate_form.specs.Run.{HasInputs}
use Rattle.bit_arith.specs.Number.{number}
use Rattle.bv_expr.specs.Nodes.{AreBytes}
use Rattle.bit_blast.specs.Bytes.{HasBytes}
use Rattle.bit_blast.specs.Roots.{AreApart}
use Rattle.bit_blast.specs.Spelling.{first_byte, spelled}

flag-le : (b : Bool) → flag b ≤ 1
flag-le true = omega arith
flag-le false = omega arith

number-lt : (bs : List Bool) → number bs < 2 ^ length bs
number-lt [] = omega arith
number-lt (b ∷ bs) = omega (arith, number-lt bs, pow-suc 2 (length bs), flag-le b)

lowest : (b : Bool) (m : ℕ) → bit_at (flag b + 2 * m) 0 ≡ flag b
lowest b m = omega (arith, flag-le b)

higher : (b : Bool) (m k : ℕ) → bit_at (flag b + 2 * m) (suc k) ≡ bit_at m k
higher b m k =
    let half : (flag b + 2 * m) / 2 ≡ m = omega (arith, flag-le b) in
    let turned : 2 ^ suc k ≡ 2 * 2 ^ k = omega (arith, pow-suc 2 k) in
    ap (λ (p : ℕ). (flag b + 2 * m) / p % 2) turned ∙ ap (λ (q : ℕ). q % 2) (sym (div-div-eq-div-mul (flag b + 2 * m) 2 (2 ^ k))) ∙ ap (λ (q : ℕ). q / 2 ^ k % 2) half

bit_of_number : (bs : List Bool) (k : ℕ) (d : Bool) → k < length bs → bit_at (number bs) k ≡ flag (get_or bs k d)
bit_of_number [] k d lt = absurd (omega arith)
bit_of_number (b ∷ bs) zero d lt = lowest b (number bs)
bit_of_number (b ∷ bs) (suc k) d lt = higher b (number bs) k ∙ bit_of_number bs k d (omega arith)

eighth : (x : ℕ → Bool) (b : ℕ) (d : Bool) → b < 8 → get_or (x 0 ∷ x 1 ∷ x 2 ∷ x 3 ∷ x 4 ∷ x 5 ∷ x 6 ∷ x 7 ∷ []) b d ≡ x b
eighth x zero d lt = refl
eighth x (suc zero) d lt = refl
eighth x (suc (suc zero)) d lt = refl
eighth x (suc (suc (suc zero))) d lt = refl
eighth x (suc (suc (suc (suc zero)))) d lt = refl
eighth x (suc (suc (suc (suc (suc zero))))) d lt = refl
eighth x (suc (suc (suc (suc (suc (suc zero)))))) d lt = refl
eighth x (suc (suc (suc (suc (suc (suc (suc zero))))))) d lt = refl
eighth x (suc (suc (suc (suc (suc (suc (suc (suc b)))))))) d lt = absurd (omega arith)

same_test : (a b : ℕ) → a ≡ b → nat_eq a b ≡ true
same_test a b h = grind (arith, nat_tests)

other_test : (a b : ℕ) → a ≢ b → nat_eq a b ≡ false
other_test a b h = grind (arith, nat_tests)

either_lt : (b : Bool) (p q : ℕ) → p < 2 ^ 8 → q < 2 ^ 8 → cond b p q < 2 ^ 8
either_lt true p q one two = one
either_lt false p q one two = two

pub spelled-lt : (x : ℕ → Bool) (vars : List ℕ) → AreBytes (spelled x vars)
spelled-lt x [] k = omega arith
spelled-lt x (first ∷ vars) k = either_lt (nat_eq k first) (first_byte x) (spelled (λ n. x (8 + n)) vars k) (number-lt (x 0 ∷ x 1 ∷ x 2 ∷ x 3 ∷ x 4 ∷ x 5 ∷ x 6 ∷ x 7 ∷ [])) (spelled-lt (λ n. x (8 + n)) vars k)

rest_apart : (first : ℕ) (vars : List ℕ) → AreApart (first ∷ vars) → AreApart vars
rest_apart first vars h i j d lt last = h (suc i) (suc j) d (omega arith) (omega arith)

first_apart : (first : ℕ) (vars : List ℕ) (i : ℕ) → AreApart (first ∷ vars) → i < length vars → slice_index vars i ≢ first
first_apart first vars i h lt same = h 0 (suc i) 0 (omega arith) (omega arith) (sym same)

spelled_bit : (x : ℕ → Bool) (vars : List ℕ) (i b : ℕ) → AreApart vars → i < length vars → b < 8 → bit_at (spelled x vars (slice_index vars i)) b ≡ flag (x (8 * i + b))
spelled_bit x [] i b apart lt small = absurd (omega arith)
spelled_bit x (first ∷ vars) zero b apart lt small =
    let start : b ≡ 8 * zero + b = omega arith in
    ap (λ (t : Bool). bit_at (cond t (first_byte x) (spelled (λ n. x (8 + n)) vars first)) b) (same_test first first refl)
    ∙ bit_of_number (x 0 ∷ x 1 ∷ x 2 ∷ x 3 ∷ x 4 ∷ x 5 ∷ x 6 ∷ x 7 ∷ []) b true small ∙ ap flag (eighth x b true small) ∙ ap (λ (n : ℕ). flag (x n)) start
spelled_bit x (first ∷ vars) (suc i) b apart lt small =
    let other : nat_eq (slice_index vars i) first ≡ false = other_test (slice_index vars i) first (first_apart first vars i apart (omega arith)) in
    let place : 8 + (8 * i + b) ≡ 8 * suc i + b = omega arith in
    ap (λ (t : Bool). bit_at (cond t (first_byte x) (spelled (λ n. x (8 + n)) vars (slice_index vars i))) b) other
    ∙ spelled_bit (λ n. x (8 + n)) vars i b (rest_apart first vars apart) (omega arith) small ∙ ap (λ (n : ℕ). flag (x n)) place

inputs_before : (gates : List Gate) (i n : ℕ) → slice_get gates i ≡ Some (Input n) → input_count (take i gates) < input_count gates
inputs_before gates i n at =
    let lt : i < length gates = slice_get_within gates i (Input n) at in
    let here : is_input (get_or gates i True) ≡ true = ap is_input (get_or_from_slice_get gates i (Input n) True at) in
    omega (arith, count_by_more_yes is_input gates i True lt here, ap input_count (take-append-drop (i + 1) gates), sum_by-append (λ g. cond (is_input g) 1 0) (take (i + 1) gates) (drop (i + 1) gates))

pub spelled_has : (x v : ℕ → Bool) (gates : List Gate) (vars : List ℕ) → IsNet gates → input_count gates ≡ 8 * length vars → AreApart vars → HasInputs x v gates → HasBytes (spelled x vars) v gates vars
spelled_has x v gates vars net count apart has = record {
  at = λ k i b small at.
      let inside : i < length vars = omega (arith, net.numbered k (8 * i + b) at, inputs_before gates k (8 * i + b) at, count) in
      ap flag (has.at k (8 * i + b) at) ∙ sym (spelled_bit x vars i b apart inside small);
}
