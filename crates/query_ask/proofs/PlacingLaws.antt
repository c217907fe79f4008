-- Bytes at variables, and the bytes of numbers.
use Rattle.std.proofs.Common.{◌≡◌, ℕ, zero, suc, ◌+◌, ◌*◌, ◌/◌, ◌%◌, ◌^◌, ◌<◌, ◌≤◌, Bool, true, cond, List, [], ◌∷◌, length, drop, refl, sym, ap, ◌∙◌, inl, inr, arith}
use Rattle.std.specs.Prelude.{slice_index, nat_eq}
use Rattle.std.proofs.lemmas.Bool.{cases_Bool}
use Rattle.std.proofs.lemmas.Bool.Decides.{nat_tests}
use Rattle.std.proofs.lemmas.List.{drop_more}
use Rattle.std.proofs.lemmas.Nat.{pow-add}
use Rattle.std.proofs.Math.Nat.{div-div-eq-div-mul}
use Rattle.std.proofs.Math.ListN.{drop_of_length-le}
use Rattle.bv_expr.specs.Nodes.{AreBytes}
use Rattle.bit_blast.specs.Spelling.{first_byte, spelled}
use Rattle.query_ask.specs.Placing.{placed, byte_of_number}

same_test : (a b : ℕ) → a ≡ b → nat_eq a b ≡ true
same_test a b h = grind (arith, nat_tests)

tested : (a b : ℕ) → nat_eq a b ≡ true → a ≡ b
tested a b h = grind (arith, nat_tests, h)

placed_same : (f g : ℕ → ℕ) (vars : List ℕ) (k : ℕ) → ((i : ℕ) → i < length vars → f i ≡ g i) → placed f vars k ≡ placed g vars k
placed_same f g [] k h = refl
placed_same f g (x ∷ vars) k h =
    ap (λ (b : ℕ). cond (nat_eq k x) b (placed (λ n. f (1 + n)) vars k)) (h 0 (omega arith))
    ∙ ap (λ (b : ℕ). cond (nat_eq k x) (g 0) b) (placed_same (λ n. f (1 + n)) (λ n. g (1 + n)) vars k (λ i lt. h (1 + i) (omega (arith, lt))))

-- one variable before the rest
placed_more : (f : ℕ → ℕ) (vars : List ℕ) (at k : ℕ) → at < length vars
    → placed (λ n. f (at + n)) (drop at vars) k ≡ cond (nat_eq k (slice_index vars at)) (f at) (placed (λ n. f (at + 1 + n)) (drop (at + 1) vars) k)
placed_more f vars at k lt =
    let first : at + 0 ≡ at = omega arith in
    ap (λ (xs : List ℕ). placed (λ n. f (at + n)) xs k) (drop_more vars at 0 lt)
    ∙ ap (λ (m : ℕ). cond (nat_eq k (slice_index vars at)) (f m) (placed (λ n. f (at + (1 + n))) (drop (at + 1) vars) k)) first
    ∙ ap (λ (b : ℕ). cond (nat_eq k (slice_index vars at)) (f at) b)
    (placed_same (λ n. f (at + (1 + n))) (λ n. f (at + 1 + n)) (drop (at + 1) vars) k (λ i lt. let e : at + (1 + i) ≡ at + 1 + i = omega arith in ap f e))

-- values that have the bytes of the variables from a place on
pub record Placed (vars bytes values : List ℕ) (count at : ℕ) : Type 0 where
  pub within : at ≤ length vars
  pub long : length values ≡ count
  pub are : (k : ℕ) → k < count → slice_index values k ≡ placed (λ n. slice_index bytes (at + n)) (drop at vars) k

pub placed_one : (vars bytes values new : List ℕ) (count at : ℕ) → Placed vars bytes values count (at + 1) → length new ≡ length values
    → ((k : ℕ) → k < length values → slice_index new k ≡ cond (nat_eq k (slice_index vars at)) (slice_index bytes at) (slice_index values k)) → Placed vars bytes new count at
placed_one vars bytes values new count at was long is = record {
  within = omega (arith, was.within);
  long = long ∙ was.long;
  are = λ k lt. is k (omega (arith, lt, was.long))
      ∙ ap (λ (b : ℕ). cond (nat_eq k (slice_index vars at)) (slice_index bytes at) b) (was.are k lt)
      ∙ sym (placed_more (slice_index bytes) vars at k (omega (arith, was.within)));
}

pub placed_all : (vars bytes values : List ℕ) (count at : ℕ) → at ≡ 0 → Placed vars bytes values count at → (k : ℕ) → k < count → slice_index values k ≡ placed (slice_index bytes) vars k
placed_all vars bytes values count zero e was k lt = was.are k lt ∙ placed_same (λ n. slice_index bytes (0 + n)) (slice_index bytes) vars k (λ i l. let same : 0 + i ≡ i = omega arith in ap (slice_index bytes) same)
placed_all vars bytes values count (suc at) e was k lt = absurd (omega (arith, e))

first_byte-same : (x y : ℕ → Bool) → ((n : ℕ) → x n ≡ y n) → first_byte x ≡ first_byte y
first_byte-same x y h = rw (h 0) (rw (h 1) (rw (h 2) (rw (h 3) (rw (h 4) (rw (h 5) (rw (h 6) (rw (h 7) refl)))))))

spelled_placed : (x : ℕ → Bool) (vars : List ℕ) (k : ℕ) → spelled x vars k ≡ placed (λ i. first_byte (λ n. x (8 * i + n))) vars k
spelled_placed x [] k = refl
spelled_placed x (v ∷ vars) k =
    ap (λ (b : ℕ). cond (nat_eq k v) b (spelled (λ n. x (8 + n)) vars k)) (first_byte-same x (λ n. x (8 * 0 + n)) (λ n. let e : n ≡ 8 * 0 + n = omega arith in ap x e))
    ∙ ap (λ (b : ℕ). cond (nat_eq k v) (first_byte (λ n. x (8 * 0 + n))) b)
    (spelled_placed (λ n. x (8 + n)) vars k ∙ placed_same (λ i. first_byte (λ n. x (8 + (8 * i + n)))) (λ i. first_byte (λ n. x (8 * (1 + i) + n))) vars k
    (λ i lt. first_byte-same (λ n. x (8 + (8 * i + n))) (λ n. x (8 * (1 + i) + n)) (λ n. let e : 8 + (8 * i + n) ≡ 8 * (1 + i) + n = omega arith in ap x e)))

-- the bytes that an assignment spells
pub spelled_by : (x : ℕ → Bool) (vars : List ℕ) (f : ℕ → ℕ) (k : ℕ) → ((i : ℕ) → i < length vars → f i ≡ first_byte (λ n. x (8 * i + n))) → placed f vars k ≡ spelled x vars k
spelled_by x vars f k h = placed_same f (λ i. first_byte (λ n. x (8 * i + n))) vars k h ∙ sym (spelled_placed x vars k)

-- the bytes that a number spells
pub numbered_by : (number : ℕ) (vars : List ℕ) (f : ℕ → ℕ) (k : ℕ) → ((i : ℕ) → i < length vars → f i ≡ byte_of_number number i) → placed f vars k ≡ placed (byte_of_number number) vars k
numbered_by number vars f k h = placed_same f (byte_of_number number) vars k h

-- the number whose bytes are those of the variables
abbrev pub number_of : (ℕ → ℕ) → List ℕ → ℕ
number_of env [] = 0
number_of env (x ∷ vars) = env x + 2 ^ 8 * number_of env vars

one_byte_more : (n : ℕ) → 2 ^ (8 * (1 + n)) ≡ 2 ^ 8 * 2 ^ (8 * n)
one_byte_more n = let e : 8 * (1 + n) ≡ 8 + 8 * n = omega arith in ap (λ (m : ℕ). 2 ^ m) e ∙ pow-add 2 8 (8 * n)

pub number_of-lt : (env : ℕ → ℕ) (vars : List ℕ) → AreBytes env → number_of env vars < 2 ^ (8 * length vars)
number_of-lt env [] bytes = omega arith
number_of-lt env (x ∷ vars) bytes =
    let e : 8 * length (x ∷ vars) ≡ 8 * (1 + length vars) = omega arith in
    let p : 2 ^ (8 * length (x ∷ vars)) ≡ 2 ^ 8 * 2 ^ (8 * length vars) = ap (λ (m : ℕ). 2 ^ m) e ∙ one_byte_more (length vars) in
    rw p (omega (arith, number_of-lt env vars bytes, bytes x))

byte_first : (b m : ℕ) → b < 2 ^ 8 → byte_of_number (b + 2 ^ 8 * m) 0 ≡ b
byte_first b m lt = omega (arith, lt)

byte_next : (b m i : ℕ) → b < 2 ^ 8 → byte_of_number (b + 2 ^ 8 * m) (1 + i) ≡ byte_of_number m i
byte_next b m i lt =
    let low : (b + 2 ^ 8 * m) / 2 ^ 8 ≡ m = omega (arith, lt) in
    ap (λ (p : ℕ). (b + 2 ^ 8 * m) / p % 2 ^ 8) (one_byte_more i)
    ∙ ap (λ (q : ℕ). q % 2 ^ 8) (sym (div-div-eq-div-mul (b + 2 ^ 8 * m) (2 ^ 8) (2 ^ (8 * i))))
    ∙ ap (λ (q : ℕ). q / 2 ^ (8 * i) % 2 ^ 8) low

-- spells them
pub number_placed : (env : ℕ → ℕ) (vars : List ℕ) (i k : ℕ) → AreBytes env → i < length vars → slice_index vars i ≡ k → placed (byte_of_number (number_of env vars)) vars k ≡ env k
number_placed env [] i k bytes lt is = absurd (omega (arith, lt))
number_placed env (x ∷ vars) zero k bytes lt is =
    ap (λ (t : Bool). cond t (byte_of_number (number_of env (x ∷ vars)) 0) (placed (λ n. byte_of_number (number_of env (x ∷ vars)) (1 + n)) vars k)) (same_test k x (sym is))
    ∙ byte_first (env x) (number_of env vars) (bytes x) ∙ ap env is
number_placed env (x ∷ vars) (suc i) k bytes lt is = elim (cases_Bool (nat_eq k x)) [
  | inl on ↦ (ap (λ (t : Bool). cond t (byte_of_number (number_of env (x ∷ vars)) 0) (placed (λ n. byte_of_number (number_of env (x ∷ vars)) (1 + n)) vars k)) on
      ∙ byte_first (env x) (number_of env vars) (bytes x) ∙ ap env (sym (tested k x on)))
  | inr off ↦ (ap (λ (t : Bool). cond t (byte_of_number (number_of env (x ∷ vars)) 0) (placed (λ n. byte_of_number (number_of env (x ∷ vars)) (1 + n)) vars k)) off
      ∙ placed_same (λ n. byte_of_number (number_of env (x ∷ vars)) (1 + n)) (byte_of_number (number_of env vars)) vars k (λ j l. byte_next (env x) (number_of env vars) j (bytes x))
      ∙ number_placed env vars i k bytes (omega (arith, lt)) is)
]

-- before the first variable
pub placed_start : (vars bytes values : List ℕ) (count at : ℕ) → at ≡ length vars → length values ≡ count → ((k : ℕ) → k < count → slice_index values k ≡ 0) → Placed vars bytes values count at
placed_start vars bytes values count at e long zeros = record {
  within = omega (arith, e);
  long = long;
  are = λ k lt. zeros k lt ∙ sym (ap (λ (xs : List ℕ). placed (λ n. slice_index bytes (at + n)) xs k) (drop_of_length-le vars (omega (arith, e))));
}
