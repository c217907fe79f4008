-- Words of digits: their tests, and how large their number is.
use Rattle.std.proofs.Common.{◌≡◌, ◌∙◌, ◌==◌, ℕ, ◌^◌, ◌<◌, ◌≤◌, Bool, true, false, List, [], ◌∷◌, length, if◌then◌else◌, None, Some, IfSome, Result, Ok, Err, arith, refl, sym, ap, subst}
use Rattle.std.proofs.Math.Nat.{pow-le-pow_left, pow-le-pow_right}
use Rattle.std.proofs.lemmas.Grind.{common_steps}
use Rattle.std.proofs.lemmas.Int.Digits.{digits_value-lt}
use Rattle.std.specs.Char.{is_digit}
use Rattle.std.specs.List.{list_all}
use Rattle.std.specs.Result.{result_ok}
use Rattle.std.specs.Str.Parse.{AllDigits, digits_value, IsNumeral, without_leading_plus, ParsesUnsigned}
use Rattle.ct_lines.specs.Words.{is_numeral, numeral_of}

-- the test of each byte says that all are digits
pub AllDigits-from_test : (radix : ℕ) (word : List ℕ) → list_all (λ c. is_digit c radix) word ≡ true → AllDigits radix word
AllDigits-from_test radix [] h = tt
AllDigits-from_test radix (c ∷ cs) h = (grind arith, AllDigits-from_test radix cs (grind arith))

-- ten digits of a radix up to 16 write a number below 2^40
pub short_value : (radix : ℕ) (word : List ℕ) → list_all (λ c. is_digit c radix) word ≡ true → radix ≤ 16 → length word ≤ 10 → digits_value radix word < 2 ^ 40
short_value radix word digits small short =
    let below = digits_value-lt radix word (AllDigits-from_test radix word digits) in
    let wide = pow-le-pow_left small (length word) in
    let ten : 16 ^ length word ≤ 16 ^ 10 = pow-le-pow_right (omega arith) short in
    omega (arith, below, wide, ten)

-- what the test of a numeral says
pub record Tested (radix most : ℕ) (word : List ℕ) : Type 0 where
  pub some : 0 < length word
  pub short : length word ≤ most
  pub digits : list_all (λ c. is_digit c radix) word ≡ true

tested : (radix most : ℕ) (word : List ℕ) → is_numeral radix most word ≡ true → Tested radix most word
tested radix most word is = record { some = grind (arith, common_steps); short = grind (arith, common_steps); digits = grind (arith, common_steps) }

-- a numeral writes a number below that power of the radix
pub numeral_below : (radix most : ℕ) (word : List ℕ) → 0 < radix → IfSome (numeral_of radix most word) (λ value. value < radix ^ most)
numeral_below radix most word positive = by_test (is_numeral radix most word) refl where
  by_test : (is : Bool) → is_numeral radix most word ≡ is → IfSome (if is then Some (digits_value radix word) else None) (λ value. value < radix ^ most)
  by_test false is = tt
  by_test true is =
      let test = tested radix most word is in
      let below = digits_value-lt radix word (AllDigits-from_test radix word test.digits) in
      let wide = pow-le-pow_right positive test.short in
      omega (arith, below, wide)

-- a plus is no digit
plus_is_none : (radix c : ℕ) → radix ≤ 16 → is_digit c radix ≡ true → (c == 43) ≡ false
plus_is_none radix c small digit = by_test (c == 43) refl where
  by_test : (plus : Bool) → (c == 43) ≡ plus → (c == 43) ≡ false
  by_test false is = is
  by_test true is =
      let same : c ≡ 43 = grind (arith, common_steps) in
      let other : is_digit 43 radix ≡ true = subst (λ d. is_digit d radix ≡ true) same digit in
      absurd (grind (arith, common_steps))

-- so a word of digits has none in front
no_plus : (radix : ℕ) (word : List ℕ) → list_all (λ c. is_digit c radix) word ≡ true → radix ≤ 16 → without_leading_plus word ≡ word
no_plus radix [] digits small = refl
no_plus radix (c ∷ cs) digits small =
    let digit : is_digit c radix ≡ true = grind (arith, common_steps) in
    rw (plus_is_none radix c small digit) refl

-- what the parser reads of a numeral
pub numeral_parsed : {E : Type 0} (radix most : ℕ) (word : List ℕ) (result : Result ℕ E) → is_numeral radix most word ≡ true → radix ≤ 16 → most ≤ 10 → ParsesUnsigned 64 radix word result → result_ok result ≡ numeral_of radix most word
numeral_parsed radix most word (Ok value) is small narrow parses =
    let test = tested radix most word is in
    rw is (ap Some (parses.1 ∙ ap (λ w. digits_value radix w) (no_plus radix word test.digits small)))
numeral_parsed radix most word (Err error) is small narrow parses =
    let test = tested radix most word is in
    let below = short_value radix word test.digits small (omega (arith, test.short)) in
    let fits : digits_value radix word < 2 ^ 64 = omega (arith, below) in
    let all = AllDigits-from_test radix word test.digits in
    absurd (parses (subst (λ w. IsNumeral radix w × (digits_value radix w < 2 ^ 64)) (sym (no_plus radix word test.digits small)) ((test.some, all), fits)))
