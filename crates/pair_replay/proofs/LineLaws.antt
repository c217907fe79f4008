-- Lines of values, and where bytes begin with one.
use Rattle.std.proofs.Common.{◌≡◌, ℕ, zero, suc, ◌<◌, ◌≤◌, ◌+◌, ◌-◌, ◌*◌, inl, inr, List, [], ◌∷◌, ◌++◌, length, take, drop, Result, Ok, refl, sym, ◌∙◌, ap, subst, arith}
use Rattle.std.specs.Prelude.{codes, slice_get}
use Rattle.std.specs.Result.{result_unwrap_or}
use Rattle.std.proofs.lemmas.Bool.{cases_order, cases_lt}
use Rattle.std.proofs.lemmas.List.{append-nil, append_assoc, append_cancel_left, length-append}
use Rattle.hex.specs.Hex.{encode_lower, lower_digits, decode_sized}
use Rattle.hex.specs.declared.error.FromHexError.{FromHexError}
use Rattle.hex.proofs.HexLemmas.{length-encode_with}
use Rattle.ct_rows.specs.Lines.{line}
use Rattle.ct_pairs.specs.declared.job.Job.{Job}
use Rattle.ct_pairs.specs.declared.pair.Pair.{Pair}
use Rattle.ct_pairs.specs.Pair.{IsPair}
use Rattle.pair_replay.specs.PairText.{AreValues, values_line, pair_text, Wanted, wanted_lines, BeginsWith, HasLines, IsBad, IsBadLine}
use Rattle.pair_replay.specs.PairText.Wanted.{Heading, Values}
use Rattle.pair_replay.proofs.DigitLaws.{text-digits, digits-decode, middle}

-- a line of values is its name, a space, the digits and more
pub line-apart : (name found rest : List ℕ) (count : ℕ) → AreValues count found → (after : List ℕ) × (values_line name found ++ rest ≡ name ++ codes " " ++ encode_lower found ++ after)
unfolding values_line
line-apart name found rest count are =
    let digits = text-digits found are.bytes in
    (digits.0 ++ 10 ∷ [] ++ rest, rw digits.1 (simp append_assoc))

-- the digits of a line of values stand behind its name
pub digits-of : (name found rest : List ℕ) (count : ℕ) → AreValues count found → take (2 * count) (drop (length name + 1) (values_line name found ++ rest)) ≡ encode_lower found
digits-of name found rest count are =
    let apart = line-apart name found rest count are in
    let long : length (encode_lower found) ≡ 2 * count = omega (arith, length-encode_with lower_digits found, are.length_is) in
    ap (λ bytes. take (2 * count) (drop (length name + 1) bytes)) apart.1
    ∙ middle (name ++ codes " ") (encode_lower found) apart.0 (length name + 1) (2 * count) (length-append name (codes " ")) long

-- bytes begin with one line of so many values alone
pub values-same : (name found others rest more : List ℕ) (count : ℕ) → AreValues count found → AreValues count others → values_line name found ++ rest ≡ values_line name others ++ more → (found ≡ others) × (rest ≡ more)
values-same name found others rest more count are be same =
    let digits : encode_lower found ≡ encode_lower others =
    sym (digits-of name found rest count are) ∙ ap (λ bytes. take (2 * count) (drop (length name + 1) bytes)) same ∙ digits-of name others more count be in
    let decoded : Ok found ≡ Ok others =
    sym (digits-decode found count are) ∙ ap (λ text. decode_sized text count) digits ∙ digits-decode others count be in
    let one : found ≡ others = ap (λ (r : Result (List ℕ) FromHexError). result_unwrap_or r []) decoded in
    (one, append_cancel_left (values_line name found) rest more (same ∙ ap (λ xs. values_line name xs ++ more) (sym one)))

-- what follows the line with which bytes begin
begins-same : (wanted : Wanted) (bytes rest more : List ℕ) → BeginsWith wanted bytes rest → BeginsWith wanted bytes more → rest ≡ more
begins-same (Heading text) bytes rest more a b = append_cancel_left (line text) rest more (sym a ∙ b)
begins-same (Values name count) bytes rest more a b = (values-same name a.0 b.0 rest more count a.1 b.1 (sym a.2 ∙ b.2)).1

-- what follows lines with which bytes begin
pub lines-same : (wanted : List Wanted) (bytes rest more : List ℕ) → HasLines wanted bytes rest → HasLines wanted bytes more → rest ≡ more
lines-same [] bytes rest more a b = sym a ∙ b
lines-same (w ∷ wanted) bytes rest more a b =
    let next = begins-same w bytes a.0 b.0 a.1 b.1 in
    let P : List ℕ → Type 0 = λ xs. HasLines wanted xs rest in
    lines-same wanted b.0 rest more (subst P next a.2) b.2

-- behind a bad line no more lines are good
pub bad-last : (wanted : List Wanted) (bytes rest more : List ℕ) (k n : ℕ) → HasLines (take k wanted) bytes rest → IsBad (slice_get wanted k) rest → k < n → n ≤ length wanted → HasLines (take n wanted) bytes more → ⊥
bad-last [] bytes rest more k n a bad low high b = absurd (omega arith)
bad-last (w ∷ wanted) bytes rest more k zero a bad low high b = absurd (omega arith)
bad-last (w ∷ wanted) bytes rest more zero (suc n) a bad low high b =
    let P : List ℕ → Type 0 = λ xs. BeginsWith w xs b.0 in
    bad b.0 (subst P a b.1)
bad-last (w ∷ wanted) bytes rest more (suc k) (suc n) a bad low high b =
    let next = begins-same w bytes a.0 b.0 a.1 b.1 in
    let P : List ℕ → Type 0 = λ xs. HasLines (take k wanted) xs rest in
    bad-last wanted b.0 rest more k n (subst P next a.2) bad (omega arith) (omega arith) b.2

-- no two lines are the first bad one
pub bad-once : (wanted : List Wanted) (bytes : List ℕ) (i k : ℕ) → IsBadLine wanted bytes i → IsBadLine wanted bytes k → i ≡ k
bad-once wanted bytes i k a b = elim (cases_order i k) [
  | inl same ↦ same
  | inr (inl less) ↦
      absurd (bad-last wanted bytes a.rest b.rest (i - 1) (k - 1) a.before a.bad (omega (arith, a.from_one)) (omega (arith, b.at_most)) b.before)
  | inr (inr more) ↦
      absurd (bad-last wanted bytes b.rest a.rest (k - 1) (i - 1) b.before b.bad (omega (arith, b.from_one)) (omega (arith, a.at_most)) a.before)
]

-- the lines of a pair behind the first
abbrev pub lines_of : Pair → List ℕ
lines_of pair =
    values_line (codes "shared") pair.shared
    ++ (values_line (codes "left") pair.left ++ (values_line (codes "right") pair.right ++ []))

-- the text of a pair, line after line
pub text-lines : (pair : Pair) → pair_text pair ≡ line (codes "pair 1") ++ lines_of pair
unfolding pair_text
text-lines pair = simp (append_assoc, append-nil)

-- the text of a pair of the job has the lines that are wanted, and nothing follows
text-good : (job : Job) (pair : Pair) → IsPair job pair → HasLines (wanted_lines job) (pair_text pair) []
text-good job pair is = (
  _,
  text-lines pair,
  (
    _,
    (pair.shared, record { length_is = is.shared_count; bytes = is.shared_bytes }, refl),
    (
      _,
      (pair.left, record { length_is = is.left_count; bytes = is.left_bytes }, refl),
      (_, (pair.right, record { length_is = is.right_count; bytes = is.right_bytes }, refl), refl),
    ),
  ),
)

-- the text of a pair of the job has no bad line
pub text-not_bad : (job : Job) (pair : Pair) → IsPair job pair → (k : ℕ) → IsBadLine (wanted_lines job) (pair_text pair) k → ⊥
text-not_bad job pair is k bad = elim (cases_lt (k - 1) 4) [
  | inl less ↦
      bad-last (wanted_lines job) (pair_text pair) bad.rest [] (k - 1) 4 bad.before bad.bad less (omega arith) (text-good job pair is)
  | inr more ↦
      let at : k - 1 ≡ 4 = omega (arith, bad.at_most) in
      let P : ℕ → Type 0 = λ n. HasLines (take n (wanted_lines job)) (pair_text pair) bad.rest in
      let Q : ℕ → Type 0 = λ n. IsBad (slice_get (wanted_lines job) n) bad.rest in
      subst Q at bad.bad (lines-same (wanted_lines job) (pair_text pair) bad.rest [] (subst P at bad.before) (text-good job pair is))
]

fields-same : (a b c x y z : List ℕ) → a ≡ x → b ≡ y → c ≡ z → (let p : Pair = record { shared = a; left = b; right = c } in p) ≡ record { shared = x; left = y; right = z }
fields-same a b c x y z e f g = cc

-- two pairs of the job have two texts
pub text-one_pair : (job : Job) (p q : Pair) → IsPair job p → IsPair job q → pair_text p ≡ pair_text q → p ≡ q
text-one_pair job p q is be same =
    let lines = append_cancel_left (line (codes "pair 1")) _ _ (sym (text-lines p) ∙ same ∙ text-lines q) in
    let shared = values-same (codes "shared") p.shared q.shared _ _ _ (record { length_is = is.shared_count; bytes = is.shared_bytes }) (record { length_is = be.shared_count; bytes = be.shared_bytes }) lines in
    let left = values-same (codes "left") p.left q.left _ _ _ (record { length_is = is.left_count; bytes = is.left_bytes }) (record { length_is = be.left_count; bytes = be.left_bytes }) shared.1 in
    let right = values-same (codes "right") p.right q.right _ _ _ (record { length_is = is.right_count; bytes = is.right_bytes }) (record { length_is = be.right_count; bytes = be.right_bytes }) left.1 in
    fields-same p.shared p.left p.right q.shared q.left q.right shared.0 left.0 right.0

-- bytes that are these lines are the text of the pair
pub text-from : (pair : Pair) (bytes first second third last : List ℕ) → bytes ≡ line (codes "pair 1") ++ first → first ≡ values_line (codes "shared") pair.shared ++ second → second ≡ values_line (codes "left") pair.left ++ third → third ≡ values_line (codes "right") pair.right ++ last → last ≡ [] → bytes ≡ pair_text pair
text-from pair bytes first second third last a b c d e = rw (text-lines pair, a, b, c, d, e) refl

-- a list of length 0
pub none_left : (bytes : List ℕ) → length bytes ≡ 0 → bytes ≡ []
none_left [] e = refl
none_left (byte ∷ bytes) e = absurd (omega arith)
