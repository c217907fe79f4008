-- Values as digits, and digits that are decoded.
use Rattle.std.proofs.Common.{◌≡◌, ℕ, zero, suc, ◌<◌, ◌/◌, ◌%◌, true, false, eqb, List, [], ◌∷◌, ◌++◌, length, take, drop, slice_index, Result, Ok, Err, refl, sym, ◌∙◌, ap, arith}
use Rattle.std.specs.Prelude.{All, MatchResult, codes}
use Rattle.std.specs.List.{flat_map}
use Rattle.std.specs.Result.{result_unwrap_or}
use Rattle.std.specs.Fmt.{digit_glyph}
use Rattle.std.proofs.lemmas.Bool.{agree_below_at, eqb-true}
use Rattle.std.proofs.lemmas.List.{append-nil, append_assoc, take_all, drop_all}
use Rattle.std.proofs.lemmas.List.Elements.{All-head, All-tail, All-from_get_or}
use Rattle.std.proofs.Math.Seq.{drop-append_seam, take-append_seam}
use Rattle.hex.specs.Hex.{encode_lower, encode_with, lower_digits, decode_sized, IsBytes}
use Rattle.hex.specs.declared.error.FromHexError.{FromHexError}
use Rattle.hex.proofs.HexLemmas.{decode_sized-encode_lower, decode_sized-ok, decode_sized-twice, decode_of-ok}
use Rattle.rv_decode.specs.Text.{hex_digits}
use Rattle.ct_texts.specs.Bytes.{bytes_text}
use Rattle.pair_replay.specs.PairText.{AreValues}

abbrev is_byte : ℕ → Type 0
is_byte value = value < 256

-- the two spellings of one digit
glyph-is : (d : ℕ) → d < 16 → digit_glyph false d ≡ slice_index lower_digits d
glyph-is d h =
    let same = agree_below_at (λ n. eqb (digit_glyph false n) (slice_index lower_digits n)) (λ n. true) 16 d refl h in
    eqb-true (digit_glyph false d) (slice_index lower_digits d) same

two-digits : (byte : ℕ) → byte < 256 → hex_digits 2 byte ≡ slice_index lower_digits (byte / 16) ∷ slice_index lower_digits (byte % 16) ∷ []
unfolding hex_digits
two-digits byte h =
    let high : byte / 16 % 16 ≡ byte / 16 = omega arith in
    ap (λ d. digit_glyph false d ∷ digit_glyph false (byte % 16) ∷ []) high
    ∙ ap (λ c. c ∷ digit_glyph false (byte % 16) ∷ []) (glyph-is (byte / 16) (omega arith))
    ∙ ap (λ c. slice_index lower_digits (byte / 16) ∷ c ∷ []) (glyph-is (byte % 16) (omega arith))

digits-are : (values : List ℕ) → All (λ value. value < 256) values → flat_map (hex_digits 2) values ≡ encode_lower values
unfolding encode_with
digits-are [] h = refl
digits-are (value ∷ values) h =
    let rest = digits-are values (All-tail is_byte value values h) in
    ap (λ xs. xs ++ flat_map (hex_digits 2) values) (two-digits value (All-head is_byte value values h))
    ∙ ap (λ xs. slice_index lower_digits (value / 16) ∷ slice_index lower_digits (value % 16) ∷ xs) rest

-- the text of values is their digits, or - where there is none
pub text-digits : (values : List ℕ) → All (λ value. value < 256) values → (tail : List ℕ) × (bytes_text values ≡ encode_lower values ++ tail)
unfolding encode_with
text-digits [] h = (codes "-", refl)
text-digits (value ∷ values) h =
    ([], digits-are (value ∷ values) h ∙ sym (append-nil (encode_lower (value ∷ values))))

-- bytes by their places
bytes-at : (values : List ℕ) → All (λ value. value < 256) values → IsBytes values
bytes-at [] h i = omega arith
bytes-at (value ∷ values) h zero = All-head is_byte value values h
bytes-at (value ∷ values) h (suc i) = bytes-at values (All-tail is_byte value values h) i

-- the digits of values decode to them
pub digits-decode : (values : List ℕ) (count : ℕ) → AreValues count values → decode_sized (encode_lower values) count ≡ Ok values
digits-decode values count are = decode_sized-encode_lower values count are.length_is (bytes-at values are.bytes)

-- what was decoded are values
pub decoded-are : (digits values : List ℕ) (count : ℕ) → decode_sized digits count ≡ Ok values → AreValues count values
decoded-are digits values count e =
    let twice = decode_sized-ok digits count values e in
    let all = decode_of-ok digits values (sym (decode_sized-twice digits count twice) ∙ e) in
    record {
      length_is = omega (arith, all.2);
      bytes = All-from_get_or is_byte values 0 (λ i h. all.3 i);
    }

abbrev Wrote : Result (List ℕ) FromHexError → Result (Unit {0}) FromHexError → List ℕ → Type 0
Wrote d r out = MatchResult d (λ bytes. (r ≡ Ok tt) × (out ≡ bytes)) (λ e. r ≡ Err e)

-- digits decode to one list of values
pub same_decoded : (digits found values : List ℕ) (count : ℕ) → decode_sized digits count ≡ Ok found → decode_sized digits count ≡ Ok values → found ≡ values
same_decoded digits found values count a b =
    ap (λ (r : Result (List ℕ) FromHexError). result_unwrap_or r []) (sym a ∙ b)

-- what a call says that decoded into a slice
pub decoded : (d : Result (List ℕ) FromHexError) (u : Unit {0}) (out : List ℕ) → Wrote d (Ok u) out → d ≡ Ok out
decoded (Ok bytes) u out h = ap Ok (sym h.1)
decoded (Err e) u out h = cc h

-- what a call says that refused digits
pub not_decoded : (d : Result (List ℕ) FromHexError) (e : FromHexError) (out values : List ℕ) → Wrote d (Err e) out → d ≡ Ok values → ⊥
not_decoded (Ok bytes) e out values h good = cc h.0
not_decoded (Err f) e out values h good = cc good

-- a list between two others
pub middle : (front mid rest : List ℕ) (start count : ℕ) → length front ≡ start → length mid ≡ count → take count (drop start (front ++ mid ++ rest)) ≡ mid
middle front mid rest start count e f =
    ap (λ xs. take count (drop start xs)) (append_assoc front mid rest)
    ∙ ap (λ n. take count (drop n (front ++ (mid ++ rest)))) (sym e)
    ∙ ap (take count) (drop-append_seam front (mid ++ rest))
    ∙ ap (λ n. take n (mid ++ rest)) (sym f)
    ∙ take-append_seam mid rest

-- a vector whose values were all written
pub rewritten : (out items : List ℕ) (count : ℕ) → length out ≡ count → length items ≡ count → take count (out ++ drop (length out) items) ≡ out
rewritten out items count e f =
    ap (λ xs. take count (out ++ xs)) (drop_all (length out) items (omega arith))
    ∙ ap (take count) (append-nil out)
    ∙ take_all count out (omega arith)
