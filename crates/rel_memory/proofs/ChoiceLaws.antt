-- Choices by the bits of a word.
use Rattle.std.proofs.Common.{◌≡◌, ℕ, zero, suc, ◌+◌, ◌*◌, ◌/◌, ◌%◌, ◌^◌, ◌<◌, ◌≢◌, Bool, not, eqb, List, [], length, Option, Some, None, refl, sym, ap, ◌∙◌, subst, inl, inr, arith}
use Rattle.std.specs.Prelude.{slice_get, nat_eq}
use Rattle.std.specs.Option.{IsSomeAnd}
use Rattle.std.specs.Int.{bit_at}
use Rattle.std.proofs.lemmas.Bool.{cases_eq, eqb-true, ne_eqb}
use Rattle.std.proofs.Math.Nat.{div-div-eq-div-mul, pow-suc}
use Rattle.std.proofs.lemmas.Option.{slice_get_within, some_pair_parts, none-some}
use Rattle.std.proofs.lemmas.Map.Entries.{place_from_lookup}
use Rattle.std.proofs.lemmas.Nat.Bits.{and_pow, bit_at-lt}
use Rattle.ct_words.specs.Words.{flag, test_value, alu_value}
use Rattle.ct_words.specs.declared.cond.Cond.TheVariants.{Ne}
use Rattle.ct_words.specs.declared.alu_op.AluOp.TheVariants.{And}
use Rattle.bv_expr.specs.declared.q_node.QNode.{QNode}
use Rattle.bv_expr.specs.Nodes.{IsValuation}
use Rattle.bv_range.proofs.BitLaws.{bit_at_mod}
use Rattle.bv_range.proofs.SumLaws.{shorter}
use Rattle.rel_store.specs.Sides.{side_id}
use Rattle.rel_store.specs.declared.rel_value.RelValue.{RelValue}
use Rattle.rel_memory.specs.Selecting.{value_at, AreHeld, IsAtBit, AreJoined, AreJoinedFirst}

flag_of_bit : (b p : ℕ) → b < 2 → 0 < p → flag (not (eqb (b * p) 0)) ≡ b
flag_of_bit zero p lt some = let none : zero * p ≡ 0 = omega arith in rw none refl
flag_of_bit (suc zero) p lt some = rw (ne_eqb (suc zero * p) 0 (omega arith)) refl
flag_of_bit (suc (suc b)) p lt some = absurd (omega arith)

-- a word and a power of 2 are 0 where the bit is
pub bit_value : (n k mask zero_word result : ℕ) → mask ≡ 2 ^ k → 0 < 2 ^ k → zero_word ≡ 0 → result ≡ flag (test_value Ne (alu_value And n mask) zero_word) → result ≡ bit_at n k
unfolding test_value alu_value
bit_value n k mask zero_word result is some none value = value ∙ (rw (is, none, and_pow n k) (flag_of_bit (bit_at n k) (2 ^ k) (bit_at-lt n k) some))

-- a value that is there
pub some_case : {A : Type 0} (o : Option A) (P : A → Type 0) → IsSomeAnd o P → (x : A) × (o ≡ Some x) × P x
some_case None P h = absurd h
some_case (Some x) P h = (x, refl, h)

pub IsSomeAnd-then : {A : Type 0} (o : Option A) (P Q : A → Type 0) → ((x : A) → P x → Q x) → IsSomeAnd o P → IsSomeAnd o Q
IsSomeAnd-then None P Q then h = h
IsSomeAnd-then (Some x) P Q then h = then x h

pub IsSomeAnd-at : {A : Type 0} (o : Option A) (P : A → Type 0) (x : A) → o ≡ Some x → P x → IsSomeAnd o P
IsSomeAnd-at None P x e h = absurd cc
IsSomeAnd-at (Some y) P x e h = let same : x ≡ y = cc in subst P same h

-- two numbers with one half differ in their lowest bit
halves : (at number : ℕ) → at ≢ number → at / 2 ≡ number / 2 → at % 2 ≢ number % 2
halves at number differ half low = differ (omega arith)

module _ (old new : List QNode) (x place number : ℕ) (held : RelValue) (before after values : List (ℕ × RelValue))
    (grown : (env v : ℕ → ℕ) → IsValuation env v new → IsValuation env v old)
    (is : value_at values number ≡ Some held)
    (this : IsSomeAnd (value_at after (number / 2)) (IsAtBit new x place (number % 2) held))
    (others : (at : ℕ) (other : RelValue) → value_at before at ≡ Some other → IsSomeAnd (value_at after at) (λ r. (env v : ℕ → ℕ) → IsValuation env v new → (at ≡ number / 2 → bit_at (v x) place ≢ number % 2) → (right : Bool) → v (side_id right r) ≡ v (side_id right other))) where
  -- what was joined stays
  pub joined_stays : (at : ℕ) (one : RelValue) → value_at values at ≡ Some one → IsSomeAnd (value_at before (at / 2)) (IsAtBit old x place (at % 2) one) → IsSomeAnd (value_at after (at / 2)) (IsAtBit new x place (at % 2) one)
  joined_stays at one here was = elim (cases_eq at number) [
    | inl e ↦ (let both : Some one ≡ Some held = sym here ∙ ap (value_at values) e ∙ is in
        let same : one ≡ held = cc in
        let P : ℕ → RelValue → Type 0 = λ n r. IsSomeAnd (value_at after (n / 2)) (IsAtBit new x place (n % 2) r) in
        let Q : ℕ → Type 0 = λ n. P n one in
        let R : RelValue → Type 0 = λ r. P number r in
        subst Q (sym e) (subst R (sym same) this))
    | inr d ↦ (let found = some_case (value_at before (at / 2)) (IsAtBit old x place (at % 2) one) was in
        IsSomeAnd-then (value_at after (at / 2)) _ (IsAtBit new x place (at % 2) one)
        (λ r kept env v run bit right. kept env v run (λ half low. halves at number d half (sym bit ∙ low)) right ∙ found.2 env v (grown env v run) bit right)
        (others (at / 2) found.0 found.1))
  ]

pub joined_all : (nodes : List QNode) (x place count : ℕ) (values joined : List (ℕ × RelValue)) → count ≡ length values → AreJoinedFirst nodes x place values count joined → AreJoined nodes x place values joined
joined_all nodes x place count values joined all first at held is =
    let found = place_from_lookup (nat_eq at) values held is in
    let same : at ≡ found.1 = eqb-true at found.1 found.3 in
    let entry : slice_get values found.0 ≡ Some (at, held) = found.2 ∙ ap (λ (k : ℕ). Some (k, held)) (sym same) in
    first found.0 at held (rw all (slice_get_within values found.0 (at, held) entry)) entry is

pub joined_more : (old new : List QNode) (x place i number : ℕ) (held : RelValue) (before after values : List (ℕ × RelValue))
    → ((env v : ℕ → ℕ) → IsValuation env v new → IsValuation env v old) → slice_get values i ≡ Some (number, held) → value_at values number ≡ Some held
    → IsSomeAnd (value_at after (number / 2)) (IsAtBit new x place (number % 2) held)
    → ((at : ℕ) (other : RelValue) → value_at before at ≡ Some other → IsSomeAnd (value_at after at) (λ r. (env v : ℕ → ℕ) → IsValuation env v new → (at ≡ number / 2 → bit_at (v x) place ≢ number % 2) → (right : Bool) → v (side_id right r) ≡ v (side_id right other)))
    → AreJoinedFirst old x place values i before → AreJoinedFirst new x place values (i + 1) after
joined_more old new x place i number held before after values grown entry is this others first j at one less place_is here =
    elim (cases_eq j i) [
      | inl e ↦ (let both : Some (number, held) ≡ Some (at, one) = sym entry ∙ ap (slice_get values) (sym e) ∙ place_is in
          let parts = some_pair_parts number at held one both in
          let P : ℕ → Type 0 = λ n. IsSomeAnd (value_at after (n / 2)) (IsAtBit new x place (n % 2) one) in
          let R : RelValue → Type 0 = λ r. IsSomeAnd (value_at after (number / 2)) (IsAtBit new x place (number % 2) r) in
          subst P parts.0 (subst R parts.1 this))
      | inr d ↦ joined_stays old new x place number held before after values grown is this others at one here (first j at one (omega arith) place_is here)
    ]

-- each value, by the low bits of x, is there for the high part of its number
abbrev pub AreNarrowed : List QNode → ℕ → ℕ → List (ℕ × RelValue) → List (ℕ × RelValue) → Type 0
AreNarrowed nodes x place values joined = (at : ℕ) (held : RelValue) → value_at values at ≡ Some held
    → IsSomeAnd (value_at joined (at / 2 ^ place)) (λ r. (env v : ℕ → ℕ) → IsValuation env v nodes → v x % 2 ^ place ≡ at % 2 ^ place → (right : Bool) → v (side_id right r) ≡ v (side_id right held))

pub narrowed_none : (nodes : List QNode) (x : ℕ) (values : List (ℕ × RelValue)) → AreNarrowed nodes x 0 values values
narrowed_none nodes x values at held is =
    let whole : at / 2 ^ 0 ≡ at = omega arith in
    IsSomeAnd-at (value_at values (at / 2 ^ 0)) _ held (ap (value_at values) whole ∙ is) (λ env v run low right. refl)

half_of : (at place : ℕ) → at / 2 ^ place / 2 ≡ at / 2 ^ (place + 1)
half_of at place = let next : place + 1 ≡ suc place = omega arith in rw next (div-div-eq-div-mul at (2 ^ place) 2 ∙ ap (λ n. at / n) (sym (pow-suc 2 place)))

pub narrowed_more : (old new : List QNode) (x place : ℕ) (values joined next : List (ℕ × RelValue))
    → ((env v : ℕ → ℕ) → IsValuation env v new → IsValuation env v old) → AreNarrowed old x place values joined → AreJoined new x place joined next → AreNarrowed new x (place + 1) values next
narrowed_more old new x place values joined next grown narrowed are at held is =
    let found = some_case (value_at joined (at / 2 ^ place)) _ (narrowed at held is) in
    let P : ℕ → Type 0 = λ n. IsSomeAnd (value_at next n) (IsAtBit new x place (at / 2 ^ place % 2) found.0) in
    let here = subst P (half_of at place) (are (at / 2 ^ place) found.0 found.1) in
    IsSomeAnd-then (value_at next (at / 2 ^ (place + 1))) (IsAtBit new x place (at / 2 ^ place % 2) found.0) _
    (λ r same env v run low right.
    let bit : bit_at (v x) place ≡ bit_at at place =
    sym (bit_at_mod (v x) (place + 1) place (omega arith)) ∙ ap (λ n. bit_at n place) low ∙ bit_at_mod at (place + 1) place (omega arith) in
    same env v run bit right ∙ found.2 env v (grown env v run) (shorter (v x) at place (place + 1) (omega arith) low) right)
    here

-- the value of x is the number whose high part is 0
pub narrowed_all : (nodes : List QNode) (x : ℕ) (values joined : List (ℕ × RelValue)) (byte : RelValue) → AreNarrowed nodes x 32 values joined → value_at joined 0 ≡ Some byte
    → (env v : ℕ → ℕ) → IsValuation env v nodes → v x < 2 ^ 32 → (held : RelValue) → value_at values (v x) ≡ Some held → (right : Bool) → v (side_id right byte) ≡ v (side_id right held)
narrowed_all nodes x values joined byte narrowed is env v run fits held here right =
    let high : v x / 2 ^ 32 ≡ 0 = omega arith in
    let found = some_case (value_at joined (v x / 2 ^ 32)) _ (narrowed (v x) held here) in
    let both : Some found.0 ≡ Some byte = sym found.1 ∙ ap (value_at joined) high ∙ is in
    let same : found.0 ≡ byte = cc in
    let P : RelValue → Type 0 = λ r. v (side_id right r) ≡ v (side_id right held) in
    subst P same (found.2 env v run refl right)

pub narrowed_absent : (nodes : List QNode) (x : ℕ) (values joined : List (ℕ × RelValue)) → AreNarrowed nodes x 32 values joined → value_at joined 0 ≡ None
    → (n : ℕ) → n < 2 ^ 32 → (held : RelValue) → value_at values n ≡ Some held → ⊥
narrowed_absent nodes x values joined narrowed none n fits held here =
    let high : n / 2 ^ 32 ≡ 0 = omega arith in
    let found = some_case (value_at joined (n / 2 ^ 32)) _ (narrowed n held here) in
    let both : None ≡ Some found.0 = sym none ∙ ap (value_at joined) (sym high) ∙ found.1 in
    none-some found.0 both

-- no value yet
pub AreHeld-none : (nodes : List QNode) (values : List (ℕ × RelValue)) → values ≡ [] → AreHeld nodes values
AreHeld-none nodes values none = rw none (λ at held is. absurd cc)
