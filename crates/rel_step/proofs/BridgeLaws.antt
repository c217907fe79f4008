-- A pair and its bytes for the variables have the same starts.
use Rattle.std.proofs.Common.{◌≡◌, ℕ, suc, ◌+◌, ◌<◌, Bool, true, false, not, cond, ◌&&◌, inl, inr, List, [], ◌∷◌, length, drop, refl, sym, ◌∙◌, ap, arith, slice_index}
use Rattle.std.specs.List.{All}
use Rattle.std.proofs.lemmas.List.Elements.{All-nil, All-cons, All-drop}
use Rattle.std.proofs.lemmas.List.Sums.{sum_by-cons}
use Rattle.std.proofs.lemmas.List.{get_or_past}
use Rattle.std.proofs.lemmas.Bool.{cases_lt}
use Rattle.bv_expr.specs.Nodes.{AreBytes}
use Rattle.ct_pairs.specs.declared.input_byte.InputByte.{InputByte}
use Rattle.ct_pairs.specs.declared.job.Job.{Job}
use Rattle.ct_pairs.specs.declared.pair.Pair.{Pair}
use Rattle.ct_pairs.specs.Inputs.{public_count, secret_count}
use Rattle.ct_pairs.specs.Start.{start, input_values, all_placed, unplaced}
use Rattle.ct_pairs.specs.Pair.{IsPair, left_start, right_start}
use Rattle.rel_step.specs.Bridge.{side_inputs, side_start, bytes_of_pair, env_of, public_values, secret_values, pair_of}

-- the secret list of one of the runs
abbrev pick : Bool → List ℕ → List ℕ → List ℕ
pick true left right = right
pick false left right = left

both_same : (x y : ℕ) (xs ys : List ℕ) → x ≡ y → xs ≡ ys → x ∷ xs ≡ y ∷ ys
both_same x y xs ys p q = ap (λ a. a ∷ xs) p ∙ ap (λ zs. y ∷ zs) q

after_two : (a b : ℕ) (xs : List ℕ) (k : ℕ) → slice_index (a ∷ b ∷ xs) (2 + k) ≡ slice_index xs k
after_two a b xs k = let e : 2 + k ≡ suc (suc k) = omega arith in ap (slice_index (a ∷ b ∷ xs)) e

-- one input byte of a pair
module _ (env : ℕ → ℕ) (n : ℕ) (inputs : List InputByte) (shared l r : List ℕ) where
  abbrev secret_rest : List ℕ
  secret_rest = bytes_of_pair inputs shared (drop 1 l) (drop 1 r)

  abbrev public_rest : List ℕ
  public_rest = bytes_of_pair inputs (drop 1 shared) l r

  abbrev HasBytes : List ℕ → ℕ → Type 0
  HasBytes values first = (k : ℕ) → env (first + k) ≡ slice_index values k

  later : (a b : ℕ) (xs : List ℕ) → HasBytes (a ∷ b ∷ xs) n → HasBytes xs (n + 2)
  later a b xs h k = let e : n + 2 + k ≡ n + (2 + k) = omega arith in ap env e ∙ h (2 + k) ∙ after_two a b xs k

  first_of : (a b : ℕ) (xs : List ℕ) → HasBytes (a ∷ b ∷ xs) n → env (n + 0) ≡ a
  first_of a b xs h = h 0

  pair_step : (right secret : Bool) → HasBytes (cond secret (slice_index l 0 ∷ slice_index r 0 ∷ secret_rest) (slice_index shared 0 ∷ slice_index shared 0 ∷ public_rest)) n
      → (HasBytes secret_rest (n + 2) → side_inputs right env (n + 2) inputs ≡ input_values inputs shared (pick right (drop 1 l) (drop 1 r)))
      → (HasBytes public_rest (n + 2) → side_inputs right env (n + 2) inputs ≡ input_values inputs (drop 1 shared) (pick right l r))
      → env (n + cond (right && secret) 1 0) ∷ side_inputs right env (n + 2) inputs ≡ cond secret (slice_index (pick right l r) 0 ∷ input_values inputs shared (drop 1 (pick right l r))) (slice_index shared 0 ∷ input_values inputs (drop 1 shared) (pick right l r))
  pair_step true true h s p = both_same _ _ _ _ (h 1) (s (later _ _ secret_rest h))
  pair_step false true h s p = both_same _ _ _ _ (h 0) (s (later _ _ secret_rest h))
  pair_step true false h s p = both_same _ _ _ _ (h 0) (p (later _ _ public_rest h))
  pair_step false false h s p = both_same _ _ _ _ (h 0) (p (later _ _ public_rest h))

inputs_of_pair : (right : Bool) (env : ℕ → ℕ) (n : ℕ) (inputs : List InputByte) (shared l r : List ℕ) → ((k : ℕ) → env (n + k) ≡ slice_index (bytes_of_pair inputs shared l r) k) → side_inputs right env n inputs ≡ input_values inputs shared (pick right l r)
unfolding side_inputs bytes_of_pair input_values
inputs_of_pair right env n [] shared l r h = refl
inputs_of_pair right env n (input ∷ inputs) shared l r h =
    pair_step env n inputs shared l r right input.secret h (inputs_of_pair right env (n + 2) inputs shared (drop 1 l) (drop 1 r)) (inputs_of_pair right env (n + 2) inputs (drop 1 shared) l r)

-- one input byte of bytes for the variables
env_step : (right secret : Bool) (env : ℕ → ℕ) (n : ℕ) (inputs : List InputByte) →
    side_inputs right env (n + 2) inputs ≡ input_values inputs (public_values env (n + 2) inputs) (secret_values right env (n + 2) inputs) →
    env (n + cond (right && secret) 1 0) ∷ side_inputs right env (n + 2) inputs
    ≡ cond secret
    (slice_index (cond secret (env (n + cond (right && true) 1 0) ∷ secret_values right env (n + 2) inputs) (secret_values right env (n + 2) inputs)) 0
    ∷ input_values inputs (cond secret (public_values env (n + 2) inputs) (env n ∷ public_values env (n + 2) inputs)) (drop 1 (cond secret (env (n + cond (right && true) 1 0) ∷ secret_values right env (n + 2) inputs) (secret_values right env (n + 2) inputs))))
    (slice_index (cond secret (public_values env (n + 2) inputs) (env n ∷ public_values env (n + 2) inputs)) 0
    ∷ input_values inputs (drop 1 (cond secret (public_values env (n + 2) inputs) (env n ∷ public_values env (n + 2) inputs))) (cond secret (env (n + cond (right && true) 1 0) ∷ secret_values right env (n + 2) inputs) (secret_values right env (n + 2) inputs)))
env_step true true env n inputs h = ap (λ xs. env (n + 1) ∷ xs) h
env_step false true env n inputs h = ap (λ xs. env (n + 0) ∷ xs) h
env_step true false env n inputs h = let e : n + 0 ≡ n = omega arith in both_same _ _ _ _ (ap env e) h
env_step false false env n inputs h = let e : n + 0 ≡ n = omega arith in both_same _ _ _ _ (ap env e) h

inputs_of_env : (right : Bool) (env : ℕ → ℕ) (n : ℕ) (inputs : List InputByte) → side_inputs right env n inputs ≡ input_values inputs (public_values env n inputs) (secret_values right env n inputs)
unfolding side_inputs public_values secret_values input_values
inputs_of_env right env n [] = refl
inputs_of_env right env n (input ∷ inputs) = env_step right input.secret env n inputs (inputs_of_env right env (n + 2) inputs)

from_zero : (xs : List ℕ) (k : ℕ) → slice_index xs (0 + k) ≡ slice_index xs k
from_zero xs k = let e : 0 + k ≡ k = omega arith in ap (slice_index xs) e

-- the starts of a pair are those of its bytes
pub pair-left : (job : Job) (pair : Pair) → side_start false job (env_of job pair) ≡ left_start job pair
unfolding side_start start
pair-left job pair = ap (λ vs. all_placed job.image job.inputs vs (unplaced job)) (inputs_of_pair false (env_of job pair) 0 job.inputs pair.shared pair.left pair.right (from_zero _))

pub pair-right : (job : Job) (pair : Pair) → side_start true job (env_of job pair) ≡ right_start job pair
unfolding side_start start
pair-right job pair = ap (λ vs. all_placed job.image job.inputs vs (unplaced job)) (inputs_of_pair true (env_of job pair) 0 job.inputs pair.shared pair.left pair.right (from_zero _))

-- and the other way round
pub env-left : (job : Job) (env : ℕ → ℕ) → side_start false job env ≡ left_start job (pair_of job env)
unfolding side_start start
env-left job env = ap (λ vs. all_placed job.image job.inputs vs (unplaced job)) (inputs_of_env false env 0 job.inputs)

pub env-right : (job : Job) (env : ℕ → ℕ) → side_start true job env ≡ right_start job (pair_of job env)
unfolding side_start start
env-right job env = ap (λ vs. all_placed job.image job.inputs vs (unplaced job)) (inputs_of_env true env 0 job.inputs)

-- the bytes of a pair are bytes
abbrev Small : List ℕ → Type 0
Small xs = All (λ v. v < 256) xs

small_at : (xs : List ℕ) (k : ℕ) → Small xs → slice_index xs k < 256
small_at xs k h =
    elim (cases_lt k (length xs)) [ inl inside ↦ h k 0 inside | inr over ↦ omega (arith, get_or_past xs k 0 over) ]

small_step : (secret : Bool) (s l r : ℕ) (vs ws : List ℕ) → s < 256 → l < 256 → r < 256 → Small vs → Small ws → Small (cond secret (l ∷ r ∷ vs) (s ∷ s ∷ ws))
small_step true s l r vs ws hs hl hr h k = All-cons (λ v. v < 256) l (r ∷ vs) hl (All-cons (λ v. v < 256) r vs hr h)
small_step false s l r vs ws hs hl hr h k = All-cons (λ v. v < 256) s (s ∷ ws) hs (All-cons (λ v. v < 256) s ws hs k)

pair_bytes : (inputs : List InputByte) (shared l r : List ℕ) → Small shared → Small l → Small r → Small (bytes_of_pair inputs shared l r)
unfolding bytes_of_pair
pair_bytes [] shared l r hs hl hr = All-nil (λ v. v < 256)
pair_bytes (input ∷ inputs) shared l r hs hl hr =
    small_step input.secret (slice_index shared 0) (slice_index l 0) (slice_index r 0) _ _ (small_at shared 0 hs) (small_at l 0 hl) (small_at r 0 hr) (pair_bytes inputs shared (drop 1 l) (drop 1 r) hs (All-drop (λ v. v < 256) 1 l hl) (All-drop (λ v. v < 256) 1 r hr)) (pair_bytes inputs (drop 1 shared) l r (All-drop (λ v. v < 256) 1 shared hs) hl hr)

pub pair_env : (job : Job) (pair : Pair) → IsPair job pair → AreBytes (env_of job pair)
pair_env job pair h k = small_at _ k (pair_bytes job.inputs pair.shared pair.left pair.right h.shared_bytes h.left_bytes h.right_bytes)

-- bytes for the variables give a pair
public_step : (secret : Bool) (v : ℕ) (xs : List ℕ) (n : ℕ) → length xs ≡ n → length (cond secret xs (v ∷ xs)) ≡ cond (not secret) 1 0 + n
public_step true v xs n h = omega (arith, h)
public_step false v xs n h = omega (arith, h)

public_length : (env : ℕ → ℕ) (n : ℕ) (inputs : List InputByte) → length (public_values env n inputs) ≡ public_count inputs
unfolding public_values
public_length env n [] = refl
public_length env n (input ∷ inputs) =
    public_step input.secret (env n) (public_values env (n + 2) inputs) (public_count inputs) (public_length env (n + 2) inputs) ∙ sym (sum_by-cons (λ (i : InputByte). cond (not i.secret) 1 0) input inputs)

secret_step : (secret : Bool) (v : ℕ) (xs : List ℕ) (n : ℕ) → length xs ≡ n → length (cond secret (v ∷ xs) xs) ≡ cond secret 1 0 + n
secret_step true v xs n h = omega (arith, h)
secret_step false v xs n h = omega (arith, h)

secret_length : (right : Bool) (env : ℕ → ℕ) (n : ℕ) (inputs : List InputByte) → length (secret_values right env n inputs) ≡ secret_count inputs
unfolding secret_values
secret_length right env n [] = refl
secret_length right env n (input ∷ inputs) =
    secret_step input.secret (env (n + cond (right && true) 1 0)) (secret_values right env (n + 2) inputs) (secret_count inputs) (secret_length right env (n + 2) inputs) ∙ sym (sum_by-cons (λ (i : InputByte). cond i.secret 1 0) input inputs)

kept_small : (b : Bool) (v : ℕ) (xs : List ℕ) → v < 256 → Small xs → Small (cond b (v ∷ xs) xs)
kept_small true v xs h k = All-cons (λ v. v < 256) v xs h k
kept_small false v xs h k = k

left_small : (b : Bool) (v : ℕ) (xs : List ℕ) → v < 256 → Small xs → Small (cond b xs (v ∷ xs))
left_small true v xs h k = k
left_small false v xs h k = All-cons (λ v. v < 256) v xs h k

public_small : (env : ℕ → ℕ) (n : ℕ) (inputs : List InputByte) → AreBytes env → Small (public_values env n inputs)
unfolding public_values
public_small env n [] h = All-nil (λ v. v < 256)
public_small env n (input ∷ inputs) h = left_small input.secret (env n) (public_values env (n + 2) inputs) (h n) (public_small env (n + 2) inputs h)

secret_small : (right : Bool) (env : ℕ → ℕ) (n : ℕ) (inputs : List InputByte) → AreBytes env → Small (secret_values right env n inputs)
unfolding secret_values
secret_small right env n [] h = All-nil (λ v. v < 256)
secret_small right env n (input ∷ inputs) h = kept_small input.secret (env (n + cond (right && true) 1 0)) (secret_values right env (n + 2) inputs) (h (n + cond (right && true) 1 0)) (secret_small right env (n + 2) inputs h)

pub env_pair : (job : Job) (env : ℕ → ℕ) → AreBytes env → IsPair job (pair_of job env)
env_pair job env h = record {
  shared_count = public_length env 0 job.inputs;
  left_count = secret_length false env 0 job.inputs;
  right_count = secret_length true env 0 job.inputs;
  shared_bytes = public_small env 0 job.inputs h;
  left_bytes = secret_small false env 0 job.inputs h;
  right_bytes = secret_small true env 0 job.inputs h;
}
