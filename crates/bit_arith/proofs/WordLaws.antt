-- The numbers of words that are cut, joined, grown by a bit or negated.
use Rattle.std.proofs.Common.{◌≡◌, ℕ, zero, suc, ◌+◌, ◌*◌, ◌/◌, ◌%◌, ◌^◌, ◌<◌, ◌≤◌, Bool, true, false, List, [], ◌∷◌, ◌++◌, length, take, drop, get_or, cond, refl, sym, ap, ◌∙◌, subst, arith, add-one}
use Rattle.std.specs.Prelude.{map, not}
use Rattle.std.proofs.lemmas.List.{take_more, map-append, length-map, length-take-le, length-take, length-drop, get_or-take, get_or-drop, take-append-drop}
use Rattle.std.proofs.lemmas.List.Elements.{All-append}
use Rattle.std.proofs.lemmas.Nat.{mod-mul-add}
use Rattle.std.proofs.Math.Nat.{pow-suc}
use Rattle.ct_words.specs.Words.{flag}
use Rattle.gate_form.specs.declared.wire.Wire.{Wire}
use Rattle.gate_form.specs.declared.wire.Gate.{Gate}
use Rattle.gate_form.specs.Net.{bit, negated, AreIn}
use Rattle.bit_arith.specs.Number.{number, word}

pub pow-more : (i : ℕ) → 2 ^ (i + 1) ≡ 2 ^ i * 2
pow-more i = rw (add-one) (pow-suc 2 i)

number-append : (xs ys : List Bool) → number (xs ++ ys) ≡ number xs + 2 ^ length xs * number ys
number-append [] ys = omega arith
number-append (b ∷ xs) ys = omega (arith, number-append xs ys, ap (λ (p : ℕ). p * number ys) (pow-suc 2 (length xs)))

pub word-append : (v : ℕ → Bool) (xs ys : List Wire) → word v (xs ++ ys) ≡ word v xs + 2 ^ length xs * word v ys
word-append v xs ys = rw (map-append (bit v) xs ys) (rw (number-append (map (bit v) xs) (map (bit v) ys)) (rw (length-map xs (bit v)) refl))

pub word-push : (v : ℕ → Bool) (ws : List Wire) (w : Wire) (i : ℕ) → length ws ≡ i → word v (ws ++ w ∷ []) ≡ word v ws + flag (bit v w) * 2 ^ i
word-push v ws w i e = omega (arith, word-append v ws (w ∷ []), ap (λ n. 2 ^ n * word v (w ∷ [])) e)

pub word-more : (v : ℕ → Bool) (ws : List Wire) (i : ℕ) (d : Wire) → i < length ws → word v (take (i + 1) ws) ≡ word v (take i ws) + flag (bit v (get_or ws i d)) * 2 ^ i
word-more v ws i d h = ap (word v) (take_more ws i d h) ∙ word-push v (take i ws) (get_or ws i d) i (length-take-le i ws (omega arith))

pub word-split : (v : ℕ → Bool) (ws : List Wire) (i : ℕ) → i ≤ length ws → word v ws ≡ word v (take i ws) + 2 ^ i * word v (drop i ws)
word-split v ws i h = ap (word v) (sym (take-append-drop i ws)) ∙ word-append v (take i ws) (drop i ws) ∙ ap (λ (n : ℕ). word v (take i ws) + 2 ^ n * word v (drop i ws)) (length-take-le i ws h)

pub flag-le : (b : Bool) → flag b ≤ 1
flag-le true = omega arith
flag-le false = omega arith

number-lt : (bs : List Bool) → number bs < 2 ^ length bs
number-lt [] = omega arith
number-lt (b ∷ bs) = omega (arith, number-lt bs, pow-suc 2 (length bs), flag-le b)

pub word-lt : (v : ℕ → Bool) (ws : List Wire) → word v ws < 2 ^ length ws
word-lt v ws = rw (← length-map ws (bit v)) (number-lt (map (bit v) ws))

pub take-lt : (v : ℕ → Bool) (ws : List Wire) (i : ℕ) → i ≤ length ws → word v (take i ws) < 2 ^ i
take-lt v ws i h =
    let P : ℕ → Type 0 = λ n. word v (take i ws) < 2 ^ n in
    subst P (length-take-le i ws h) (word-lt v (take i ws))

quotient : (x low high p : ℕ) → x ≡ low + p * high → low < p → x / p ≡ high
quotient x low high p e small = grind arith

pub word-low : (v : ℕ → Bool) (ws : List Wire) (i : ℕ) → i ≤ length ws → word v (take i ws) ≡ word v ws % 2 ^ i
word-low v ws i h =
    let whole : word v ws ≡ word v (drop i ws) * 2 ^ i + word v (take i ws) = omega (arith, word-split v ws i h) in
    rw whole (sym (mod-mul-add (word v (drop i ws)) (2 ^ i) (word v (take i ws)) (take-lt v ws i h)))

pub word-high : (v : ℕ → Bool) (ws : List Wire) (i : ℕ) → i ≤ length ws → word v (drop i ws) ≡ word v ws / 2 ^ i
word-high v ws i h = sym (quotient (word v ws) (word v (take i ws)) (word v (drop i ws)) (2 ^ i) (word-split v ws i h) (take-lt v ws i h))

flag-not : (b : Bool) → flag (not b) + flag b ≡ 1
flag-not true = refl
flag-not false = refl

not-not : (b : Bool) → not (not b) ≡ b
not-not true = refl
not-not false = refl

pub bit-negated : (v : ℕ → Bool) (w : Wire) → bit v (negated w) ≡ not (bit v w)
bit-negated v w = elim w.negated as (λ (b : Bool). cond (not b) (not (v w.gate)) (v w.gate) ≡ not (cond b (not (v w.gate)) (v w.gate))) [ true ↦ sym (not-not (v w.gate)) | false ↦ refl ]

pub word-flipped : (v : ℕ → Bool) (ws : List Wire) → word v (map negated ws) + word v ws + 1 ≡ 2 ^ length ws
word-flipped v [] = refl
word-flipped v (w ∷ ws) = omega (arith, word-flipped v ws, pow-suc 2 (length ws), flag-not (bit v w), ap flag (bit-negated v w))

pub AreIn-later : (old new : List Gate) (ws : List Wire) → length old ≤ length new → AreIn old ws → AreIn new ws
AreIn-later old new ws h inside = λ k d lt. omega (arith, inside k d lt)

pub AreIn-cons : (gates : List Gate) (w : Wire) (ws : List Wire) → w.gate < length gates → AreIn gates ws → AreIn gates (w ∷ ws)
AreIn-cons gates w ws h inside zero d lt = h
AreIn-cons gates w ws h inside (suc k) d lt = inside k d (omega arith)

AreIn-nil : (gates : List Gate) → AreIn gates []
AreIn-nil gates k d lt = absurd (omega arith)

pub AreIn-append : (gates : List Gate) (xs ys : List Wire) → AreIn gates xs → AreIn gates ys → AreIn gates (xs ++ ys)
AreIn-append gates xs ys left right = All-append (λ (x : Wire). x.gate < length gates) xs ys left right

pub AreIn-push : (old new : List Gate) (ws : List Wire) (w : Wire) → length old ≤ length new → AreIn old ws → w.gate < length new → AreIn new (ws ++ w ∷ [])
AreIn-push old new ws w h inside last = AreIn-append new ws (w ∷ []) (AreIn-later old new ws h inside) (AreIn-cons new w [] last (AreIn-nil new))

pub AreIn-flipped : (gates : List Gate) (ws : List Wire) → AreIn gates ws → AreIn gates (map negated ws)
AreIn-flipped gates [] inside k d lt = absurd (omega arith)
AreIn-flipped gates (w ∷ ws) inside zero d lt = inside zero d (omega arith)
AreIn-flipped gates (w ∷ ws) inside (suc k) d lt = AreIn-flipped gates ws (λ j e h. inside (suc j) e (omega arith)) k d (omega arith)

pub AreIn-take : (gates : List Gate) (ws : List Wire) (i : ℕ) → AreIn gates ws → AreIn gates (take i ws)
AreIn-take gates ws i inside = λ k d lt. rw (get_or-take i ws k d (omega (arith, length-take i ws))) (inside k d (omega (arith, length-take i ws)))

pub AreIn-drop : (gates : List Gate) (ws : List Wire) (i : ℕ) → AreIn gates ws → AreIn gates (drop i ws)
AreIn-drop gates ws i inside = λ k d lt. rw (get_or-drop i ws k d) (inside (i + k) d (omega (arith, length-drop i ws)))
