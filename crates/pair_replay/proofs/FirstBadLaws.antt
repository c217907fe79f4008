-- The first bad line as it is computed is the first bad one.
use Rattle.std.proofs.Common.{◌≡◌, ◌∙◌, ◌↔◌, ℕ, suc, ◌≤◌, ◌+◌, ◌-◌, ◌*◌, ◌==◌, Bool, true, false, inl, inr, List, [], ◌∷◌, ◌++◌, length, take, drop, Option, Some, None, Result, Ok, Err, refl, sym, ap, subst, arith}
use Rattle.std.specs.Prelude.{slice_get}
use Rattle.std.proofs.lemmas.Bool.{cases_lt, eqb-true, eq-eqb}
use Rattle.std.proofs.Math.Seq.{take-length}
use Rattle.hex.specs.Hex.{decode_sized}
use Rattle.hex.specs.declared.error.FromHexError.{FromHexError}
use Rattle.ct_rows.specs.Lines.{line}
use Rattle.ct_pairs.specs.declared.job.Job.{Job}
use Rattle.ct_pairs.specs.declared.pair.Pair.{Pair}
use Rattle.ct_pairs.specs.Pair.{IsPair}
use Rattle.pair_replay.specs.PairText.{values_line, pair_text, Wanted, wanted_lines, BeginsWith, HasLines, IsBad, IsBadLine}
use Rattle.pair_replay.specs.PairText.Wanted.{Heading, Values}
use Rattle.pair_replay.specs.FirstBadLine.{after_text, after_values, after_line, bad_from, first_bad_line}
use Rattle.pair_replay.proofs.DigitLaws.{digits-decode, decoded-are}
use Rattle.pair_replay.proofs.LineLaws.{digits-of, lines-same, bad-last, bad-once, text-not_bad, text-from}

-- what follows a text
after-of : (text rest : List ℕ) → after_text text (text ++ rest) ≡ Some rest
unfolding after_text
after-of [] rest = refl
after-of (byte ∷ text) rest = rw (eq-eqb byte byte refl) (after-of text rest)

after-is : (text bytes rest : List ℕ) → after_text text bytes ≡ Some rest → bytes ≡ text ++ rest
unfolding after_text
after-is [] bytes rest e = let same : bytes ≡ rest = cc in same
after-is (byte ∷ text) [] rest e = cc e
after-is (byte ∷ text) (other ∷ bytes) rest e = by_first (byte == other) refl (after-is text bytes rest) where
  by_first : (same : Bool) → (byte == other) ≡ same → (after_text text bytes ≡ Some rest → bytes ≡ text ++ rest) → other ∷ bytes ≡ byte ∷ text ++ rest
  by_first true is later =
      let first : byte ≡ other = eqb-true byte other is in
      ap (λ b. b ∷ bytes) (sym first) ∙ ap (λ xs. byte ∷ xs) (later (rw is at e))
  by_first false is later = let none : None ≡ Some rest = rw is at e in cc

-- what follows a line of values
after-values_of : (name bytes rest : List ℕ) (digits : Result (List ℕ) FromHexError) → after_values name bytes digits ≡ Some rest → (values : List ℕ) × (digits ≡ Ok values) × (bytes ≡ values_line name values ++ rest)
after-values_of name bytes rest (Ok values) e = (values, refl, after-is (values_line name values) bytes rest e)
after-values_of name bytes rest (Err error) e = cc e

-- bytes that begin with a line that is wanted, and what follows it
begins-after : (wanted : Wanted) (bytes rest : List ℕ) → BeginsWith wanted bytes rest → after_line wanted bytes ≡ Some rest
unfolding after_line
begins-after (Heading text) bytes rest begins = rw begins (after-of (line text) rest)
begins-after (Values name count) bytes rest begins =
    let values = begins.0 in
    let digits : decode_sized (take (2 * count) (drop (length name + 1) bytes)) count ≡ Ok values =
    ap (λ b. decode_sized (take (2 * count) (drop (length name + 1) b)) count) begins.2
    ∙ ap (λ text. decode_sized text count) (digits-of name values rest count begins.1)
    ∙ digits-decode values count begins.1 in
    ap (after_values name bytes) digits ∙ ap (after_text (values_line name values)) begins.2 ∙ after-of (values_line name values) rest

after-begins : (wanted : Wanted) (bytes rest : List ℕ) → after_line wanted bytes ≡ Some rest → BeginsWith wanted bytes rest
unfolding after_line
after-begins (Heading text) bytes rest e = after-is (line text) bytes rest e
after-begins (Values name count) bytes rest e =
    let found = after-values_of name bytes rest (decode_sized (take (2 * count) (drop (length name + 1) bytes)) count) e in
    (found.0, decoded-are (take (2 * count) (drop (length name + 1) bytes)) found.0 count found.1, found.2)

-- a bad line so many lines on
record IsBadAfter (wanted : List Wanted) (bytes : List ℕ) (n : ℕ) : Type 0 where
  within : n ≤ length wanted
  rest : List ℕ
  before : HasLines (take n wanted) bytes rest
  bad : IsBad (slice_get wanted n) rest

-- the line that is found is bad
bad-found : (number : ℕ) (wanted : List Wanted) (bytes : List ℕ) (k : ℕ) → bad_from number wanted bytes ≡ Some k → (n : ℕ) × (k ≡ number + n) × IsBadAfter wanted bytes n
unfolding bad_from
bad-found number [] [] k e = cc e
bad-found number [] (byte ∷ bytes) k e =
    let same : number ≡ k = cc in
    (0, omega (arith, same), record { within = omega arith; rest = byte ∷ bytes; before = refl; bad = λ none. cc none })
bad-found number (w ∷ wanted) bytes k e = by_line (after_line w bytes) refl (λ rest. bad-found (suc number) wanted rest k) where
  by_line : (o : Option (List ℕ)) → after_line w bytes ≡ o → ((rest : List ℕ) → bad_from (suc number) wanted rest ≡ Some k → (n : ℕ) × (k ≡ suc number + n) × IsBadAfter wanted rest n)
      → (n : ℕ) × (k ≡ number + n) × IsBadAfter (w ∷ wanted) bytes n
  by_line None is later =
      let found : Some number ≡ Some k = rw is at e in
      let same : number ≡ k = cc in
      (0, omega (arith, same), record { within = omega arith; rest = bytes; before = refl; bad = λ rest begins. let after = begins-after w bytes rest begins in cc })
  by_line (Some rest) is later =
      let next = later rest (rw is at e) in (
        suc next.0,
        omega (arith, next.1),
        record {
          within = omega (arith, next.2.within);
          rest = next.2.rest;
          before = (rest, after-begins w bytes rest is, next.2.before);
          bad = next.2.bad;
        },
      )

-- where none is found, all lines are as wanted
bad-none : (number : ℕ) (wanted : List Wanted) (bytes : List ℕ) → bad_from number wanted bytes ≡ None → HasLines wanted bytes []
unfolding bad_from
bad-none number [] [] e = refl
bad-none number [] (byte ∷ bytes) e = cc e
bad-none number (w ∷ wanted) bytes e = by_line (after_line w bytes) refl (λ rest. bad-none (suc number) wanted rest) where
  by_line : (o : Option (List ℕ)) → after_line w bytes ≡ o → ((rest : List ℕ) → bad_from (suc number) wanted rest ≡ None → HasLines wanted rest []) → HasLines (w ∷ wanted) bytes []
  by_line None is later = let found : Some number ≡ None = rw is at e in cc
  by_line (Some rest) is later = (rest, after-begins w bytes rest is, later rest (rw is at e))

-- bytes all of whose lines are as wanted have no bad line
good-not_bad : (wanted : List Wanted) (bytes : List ℕ) (k : ℕ) → HasLines wanted bytes [] → IsBadLine wanted bytes k → ⊥
good-not_bad wanted bytes k good bad =
    let all : HasLines (take (length wanted) wanted) bytes [] = subst (λ w. HasLines w bytes []) (sym (take-length wanted)) good in
    elim (cases_lt (k - 1) (length wanted)) [
      | inl less ↦ bad-last wanted bytes bad.rest [] (k - 1) (length wanted) bad.before bad.bad less (omega arith) all
      | inr more ↦
          let at : k - 1 ≡ length wanted = omega (arith, bad.at_most, more) in
          let before = subst (λ n. HasLines (take n wanted) bytes bad.rest) at bad.before in
          let none = subst (λ n. IsBad (slice_get wanted n) bad.rest) at bad.bad in
          after_all wanted bad.rest none (lines-same (take (length wanted) wanted) bytes bad.rest [] before all)
    ] where
      after_all : (wanted : List Wanted) (rest : List ℕ) → IsBad (slice_get wanted (length wanted)) rest → rest ≡ [] → ⊥
      after_all [] rest bad none = bad none
      after_all (w ∷ wanted) rest bad none = after_all wanted rest bad none

-- the line that is found is the first bad one
first-is : (job : Job) (bytes : List ℕ) (k : ℕ) → first_bad_line job.inputs bytes ≡ Some k → IsBadLine (wanted_lines job) bytes k
unfolding first_bad_line
first-is job bytes k e =
    let found = bad-found 1 (wanted_lines job) bytes k e in
    let at : found.0 ≡ k - 1 = omega (arith, found.1) in
    let is : IsBadAfter (wanted_lines job) bytes (k - 1) = subst (IsBadAfter (wanted_lines job) bytes) at found.2 in
    record {
      from_one = omega (arith, found.1);
      at_most = omega (arith, found.1, found.2.within);
      rest = is.rest;
      before = is.before;
      bad = is.bad;
    }

-- where none is found, all lines are as wanted
none_bad : (job : Job) (bytes : List ℕ) → first_bad_line job.inputs bytes ≡ None → HasLines (wanted_lines job) bytes []
unfolding first_bad_line
none_bad job bytes e = bad-none 1 (wanted_lines job) bytes e

first-found : (job : Job) (bytes : List ℕ) (k : ℕ) → IsBadLine (wanted_lines job) bytes k → first_bad_line job.inputs bytes ≡ Some k
first-found job bytes k bad = by_first (first_bad_line job.inputs bytes) refl where
  by_first : (o : Option ℕ) → first_bad_line job.inputs bytes ≡ o → first_bad_line job.inputs bytes ≡ Some k
  by_first None is = absurd (good-not_bad (wanted_lines job) bytes k (none_bad job bytes is) bad)
  by_first (Some j) is = is ∙ ap Some (bad-once (wanted_lines job) bytes j k (first-is job bytes j is) bad)

pub first-line : (job : Job) (bytes : List ℕ) (k : ℕ) → (first_bad_line job.inputs bytes ≡ Some k) ↔ IsBadLine (wanted_lines job) bytes k
first-line job bytes k = (first-is job bytes k, first-found job bytes k)

-- lines that are as wanted are those of a pair
lines-pair : (job : Job) (bytes : List ℕ) → HasLines (wanted_lines job) bytes [] → (pair : Pair) × IsPair job pair × (bytes ≡ pair_text pair)
lines-pair job bytes lines =
    let first = lines.1 in
    let shared = lines.2.1 in
    let left = lines.2.2.1 in
    let right = lines.2.2.2.1 in
    let pair : Pair = record { shared = shared.0; left = left.0; right = right.0 } in (
      pair,
      record {
        shared_count = shared.1.length_is;
        left_count = left.1.length_is;
        right_count = right.1.length_is;
        shared_bytes = shared.1.bytes;
        left_bytes = left.1.bytes;
        right_bytes = right.1.bytes;
      },
      text-from pair bytes lines.0 lines.2.0 lines.2.2.0 lines.2.2.2.0 first shared.2 left.2 right.2 lines.2.2.2.2,
    )

pub first-none : (job : Job) (bytes : List ℕ) → (first_bad_line job.inputs bytes ≡ None) ↔ ((pair : Pair) × IsPair job pair × (bytes ≡ pair_text pair))
first-none job bytes = (λ e. lines-pair job bytes (none_bad job bytes e), λ is. by_first is (first_bad_line job.inputs bytes) refl) where
  by_first : (is : (pair : Pair) × IsPair job pair × (bytes ≡ pair_text pair)) (o : Option ℕ) → first_bad_line job.inputs bytes ≡ o → first_bad_line job.inputs bytes ≡ None
  by_first is None none = none
  by_first is (Some k) found =
      absurd (text-not_bad job is.0 is.1 k (subst (λ b. IsBadLine (wanted_lines job) b k) is.2 (first-is job bytes k found)))
