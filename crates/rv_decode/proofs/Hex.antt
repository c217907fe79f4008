-- What `{:05x}` and `{:08x}` print of a number that has no more digits.
use Rattle.std.proofs.Common.{◌≡◌, ℕ, zero, suc, ◌+◌, ◌-◌, ◌/◌, ◌%◌, ◌<◌, ◌≤◌, ◌^◌, true, false, List, [], ◌∷◌, ◌++◌, length, replicate, arith, refl, sym, ap, ◌∙◌, append_assoc}
use Rattle.std.proofs.Math.Nat.{sub-zero}
use Rattle.std.proofs.Common.{append-nil}
use Rattle.std.proofs.lemmas.List.{replicate_more}
use Rattle.std.proofs.lemmas.Nat.{div_below}
use Rattle.std.proofs.Math.Nat.{pow-suc}
use Rattle.std.specs.Prelude.{nat_eq, ◌⊎◌}
use Rattle.std.proofs.Common.{eq-eqb}
use Rattle.std.proofs.lemmas.Bool.{ne_eqb, cases_order}
use Rattle.std.proofs.Common.{inl, inr, ⊎_elim}
use Rattle.std.specs.Fmt.{digit_glyph, digits, digits_onto, padded_integral, char_count, format_spec}
use Rattle.rv_decode.specs.Text.{hex_digits}

-- the digits of 0
zeros : (k : ℕ) → hex_digits k 0 ≡ replicate k 48
unfolding hex_digits
zeros zero = refl
zeros (suc k) = ap (λ ds. ds ++ 48 ∷ []) (zeros k) ∙ (replicate_more {X = ℕ} k 48 ∙ ap (λ (j : ℕ). replicate {A = ℕ} j 48) {x = k + 1} {y = suc k} (omega arith))

order : (n m : ℕ) → (n < m) ⊎ (m ≤ n)
order n m = elim (cases_order n m) [ inl same ↦ inr (omega arith) | inr other ↦ elim other [ inl below ↦ inl below | inr above ↦ inr (omega arith) ] ]

last_digit : (fuel n : ℕ) (acc : List ℕ) → n < 16 → digits_onto (suc fuel) 16 false n acc ≡ digit_glyph false (n % 16) ∷ acc
last_digit fuel n acc one = let e : nat_eq (n / 16) 0 ≡ true = eq-eqb (n / 16) 0 (omega arith) in rw e

more_digits : (fuel n : ℕ) (acc : List ℕ) → 16 ≤ n
    → digits_onto (suc fuel) 16 false n acc ≡ digits_onto fuel 16 false (n / 16) (digit_glyph false (n % 16) ∷ acc)
more_digits fuel n acc more = let e : nat_eq (n / 16) 0 ≡ false = ne_eqb (n / 16) 0 (λ z. omega arith) in rw e

-- zeros and the digits that are left make up all digits
filled : (k fuel n p : ℕ) (acc : List ℕ) → k < fuel → n < 16 ^ suc k
    → p + length (digits_onto fuel 16 false n acc) ≡ suc k + length acc
    → replicate p 48 ++ digits_onto fuel 16 false n acc ≡ hex_digits (suc k) n ++ acc
unfolding hex_digits
filled k zero n p acc enough small size = absurd (omega arith)
filled zero (suc fuel) n p acc enough small size =
    let one : n < 16 = omega arith in
    let d = last_digit fuel n acc one in
    let none : p ≡ 0 = omega (arith, ap length d) in
    rw (d, none)
filled (suc k) (suc fuel) n p acc enough small size = ⊎_elim
    (λ one.
    let d = last_digit fuel n acc one in
    let rest : p ≡ suc k = omega (arith, ap length d) in
    let high : n / 16 ≡ 0 = omega arith in
    rw (d, rest, high, zeros (suc k)) (sym (append_assoc (replicate (suc k) 48) (digit_glyph false (n % 16) ∷ []) acc)))
    (λ more.
    let d = more_digits fuel n acc more in
    let front : n / 16 < 16 ^ suc k = div_below n 16 (16 ^ suc k) (omega arith) (rw (← pow-suc 16 (suc k)) small) in
    let size' : p + length (digits_onto fuel 16 false (n / 16) (digit_glyph false (n % 16) ∷ acc)) ≡ suc k + suc (length acc) = omega (arith, ap length d) in
    rw d (filled k fuel (n / 16) p (digit_glyph false (n % 16) ∷ acc) (omega arith) front size'
    ∙ sym (append_assoc (hex_digits (suc k) (n / 16)) (digit_glyph false (n % 16) ∷ []) acc)))
    (order n 16)

-- there are no more digits than that
few : (k fuel n : ℕ) (acc : List ℕ) → k < fuel → n < 16 ^ suc k → length (digits_onto fuel 16 false n acc) ≤ suc k + length acc
few k zero n acc enough small = absurd (omega arith)
few zero (suc fuel) n acc enough small = let one : n < 16 = omega arith in rw (last_digit fuel n acc one) (omega arith)
few (suc k) (suc fuel) n acc enough small = ⊎_elim
    (λ one. rw (last_digit fuel n acc one) (omega arith))
    (λ more.
    let front : n / 16 < 16 ^ suc k = div_below n 16 (16 ^ suc k) (omega arith) (rw (← pow-suc 16 (suc k)) small) in
    let rest : length (digits_onto fuel 16 false (n / 16) (digit_glyph false (n % 16) ∷ acc)) ≤ suc k + suc (length acc) = few k fuel (n / 16) (digit_glyph false (n % 16) ∷ acc) (omega arith) front in
    rw (more_digits fuel n acc more) (omega arith))
    (order n 16)

-- zeros up to the width
padded_zeros : (width : ℕ) (ds : List ℕ) → padded_integral (format_spec 32 0 4 width (2 ^ 64 - 1)) false [] ds ≡ replicate (width - length ds) 48 ++ ds
unfolding padded_integral char_count
padded_zeros width ds = simp (append-nil, sub-zero)

onto_digits : (n : ℕ) → digits 16 false n ≡ digits_onto 64 16 false n []
unfolding digits
onto_digits n = refl

-- k + 1 digits
hex_padded : (k fuel n : ℕ) (ds : List ℕ) → k < fuel → n < 16 ^ suc k → ds ≡ digits_onto fuel 16 false n []
    → padded_integral (format_spec 32 0 4 (suc k) (2 ^ 64 - 1)) false [] ds ≡ hex_digits (suc k) n
hex_padded k fuel n ds enough small e =
    rw e (padded_zeros (suc k) (digits_onto fuel 16 false n [])
    ∙ filled k fuel n (suc k - length (digits_onto fuel 16 false n [])) [] enough small (omega (arith, few k fuel n [] enough small))
    ∙ append-nil (hex_digits (suc k) n))

-- eight digits
pub hex_eight : (n : ℕ) → n < 2 ^ 32 → padded_integral (format_spec 32 0 4 8 (2 ^ 64 - 1)) false [] (digits 16 false n) ≡ hex_digits 8 n
hex_eight n small = hex_padded 7 64 n (digits 16 false n) (omega arith) small (onto_digits n)

-- five digits
pub hex_five : (n : ℕ) → n < 2 ^ 20 → padded_integral (format_spec 32 0 4 5 (2 ^ 64 - 1)) false [] (digits 16 false n) ≡ hex_digits 5 n
hex_five n small = hex_padded 4 64 n (digits 16 false n) (omega arith) small (onto_digits n)
