-- What every start of a job has in common.
use Rattle.std.proofs.Common.{◌≡◌, ℕ, List, [], ◌∷◌, ◌+◌, ◌<◌, ◌≤◌, Bool, true, false, cond, length, get_or, drop, replicate, Option, Some, None, refl, sym, ◌∙◌, ap, slice_index, slice_set, length-set, arith, count_by, not}
use Rattle.std.proofs.lemmas.List.Sums.{sum_by-cons}
use Rattle.std.proofs.lemmas.List.{at_drop_more, at_drop_all, get_or-set_same, length-map}
use Rattle.rv_image.specs.Cell.{Cell}
use Rattle.rv_image.specs.Image.{index_at, bytes_of, size_of}
use Rattle.rv_machine.specs.State.{State}
use Rattle.ct_pairs.specs.declared.place.Place.{Place}
use Rattle.ct_pairs.specs.declared.place.Place.TheVariants.{Register, Memory}
use Rattle.ct_pairs.specs.declared.input_byte.InputByte.{InputByte}
use Rattle.ct_pairs.specs.declared.job.Job.{Job}
use Rattle.ct_pairs.specs.Inputs.{public_count, secret_count}
use Rattle.ct_pairs.specs.Start.{fresh, byte_put, placed, all_placed, unplaced, start, input_values}
use Rattle.ct_pairs.proofs.MachineLemmas.{IsAligned}

-- what putting input values keeps of a state
pub record Keeps (s t : State) : Type 0 where
  pub pc : t.pc ≡ s.pc
  pub ending : t.ending ≡ s.ending
  pub registers : length t.registers ≡ length s.registers
  pub bytes : length t.bytes ≡ length s.bytes

length-byte_put : (bytes : List ℕ) (at : Option ℕ) (value : ℕ) → length (byte_put bytes at value) ≡ length bytes
unfolding byte_put
length-byte_put bytes None value = refl
length-byte_put bytes (Some index) value = length-set bytes index value

pub placed_keeps : (image : List Cell) (place : Place) (value : ℕ) (s : State) → Keeps s (placed image place value s)
unfolding placed
placed_keeps image (Register reg byte) value s = record { pc = refl; ending = refl; registers = length-set s.registers reg _; bytes = refl }
placed_keeps image (Memory address) value s = record { pc = refl; ending = refl; registers = refl; bytes = length-byte_put s.bytes (index_at image address) value }

pub all_placed_keeps : (image : List Cell) (inputs : List InputByte) (values : List ℕ) (s : State) → Keeps s (all_placed image inputs values s)
unfolding all_placed
all_placed_keeps image [] values s = record { pc = refl; ending = refl; registers = refl; bytes = refl }
all_placed_keeps image (input ∷ inputs) values s =
    let first = placed_keeps image input.place (slice_index values 0) s in
    let rest = all_placed_keeps image inputs (drop 1 values) (placed image input.place (slice_index values 0) s) in
    record { pc = rest.pc ∙ first.pc; ending = rest.ending ∙ first.ending; registers = rest.registers ∙ first.registers; bytes = rest.bytes ∙ first.bytes }

pub start-pc : (job : Job) (shared secret : List ℕ) → (start job shared secret).pc ≡ job.entry
unfolding start unplaced
start-pc job shared secret = (all_placed_keeps job.image job.inputs (input_values job.inputs shared secret) (unplaced job)).pc

pub start-ending : (job : Job) (shared secret : List ℕ) → (start job shared secret).ending ≡ None
unfolding start unplaced
start-ending job shared secret = (all_placed_keeps job.image job.inputs (input_values job.inputs shared secret) (unplaced job)).ending

pub length-start_bytes : (job : Job) (shared secret : List ℕ) → length (start job shared secret).bytes ≡ length (bytes_of job.image)
unfolding start unplaced
length-start_bytes job shared secret = (all_placed_keeps job.image job.inputs (input_values job.inputs shared secret) (unplaced job)).bytes

-- any two starts are at one pc, and run
pub starts_aligned : (job : Job) (a b c d : List ℕ) → IsAligned (start job a b) (start job c d)
starts_aligned job a b c d = record {
  pc = start-pc job a b ∙ sym (start-pc job c d);
  ending = rw (start-ending job a b, start-ending job c d) refl;
}

pub length-bytes : (job : Job) → length (bytes_of job.image) ≡ size_of job.image
unfolding bytes_of size_of
length-bytes job = length-map job.image (λ cell. cell.byte)

-- what a machine of the job is as it is made
pub record IsFresh (job : Job) (m : State) : Type 0 where
  pub registers : m.registers ≡ replicate 32 0
  pub bytes : length m.bytes ≡ size_of job.image

pub fresh_is : (job : Job) (m : State) → m ≡ fresh job → IsFresh job m
unfolding fresh
fresh_is job m e = record { registers = ap (λ (s : State). s.registers) e; bytes = ap (λ (s : State). length s.bytes) e ∙ length-bytes job }

pub start-begins : (job : Job) (m : State) (registers shared secret : List ℕ) → m ≡ fresh job → registers ≡ slice_set job.registers 0 0 → all_placed job.image job.inputs (input_values job.inputs shared secret) (record m { registers = registers }) ≡ start job shared secret
unfolding start unplaced fresh
start-begins job m registers shared secret e f =
    ap (λ (s : State). all_placed job.image job.inputs (input_values job.inputs shared secret) (record s { registers = registers })) e
    ∙ ap (λ rs. all_placed job.image job.inputs (input_values job.inputs shared secret) (let s : State = record { pc = job.entry; registers = rs; bytes = bytes_of job.image; ending = None } in s)) f

pub zero_register : (job : Job) (registers : List ℕ) → registers ≡ slice_set job.registers 0 0 → slice_index registers 0 ≡ 0
zero_register job registers e = ap (λ rs. slice_index rs 0) e ∙ get_or-set_same job.registers 0 0 0 (omega (arith, job.limits.register_count))

-- one input byte more
secret_first : (image : List Cell) (input : InputByte) (inputs : List InputByte) (shared secret : List ℕ) (s : State) (b : Bool) → input.secret ≡ b → all_placed image (input ∷ inputs) (input_values (input ∷ inputs) shared secret) s ≡ cond b (all_placed image inputs (input_values inputs shared (drop 1 secret)) (placed image input.place (slice_index secret 0) s)) (all_placed image inputs (input_values inputs (drop 1 shared) secret) (placed image input.place (slice_index shared 0) s))
unfolding all_placed input_values
secret_first image input inputs shared secret s true e = rw e refl
secret_first image input inputs shared secret s false e = rw e refl

pub next_secret : (image : List Cell) (inputs : List InputByte) (i : ℕ) (d : InputByte) (shared secret : List ℕ) (s : State) → i < length inputs → (get_or inputs i d).secret ≡ true → all_placed image (drop i inputs) (input_values (drop i inputs) shared secret) s ≡ all_placed image (drop (i + 1) inputs) (input_values (drop (i + 1) inputs) shared (drop 1 secret)) (placed image (get_or inputs i d).place (slice_index secret 0) s)
next_secret image inputs i d shared secret s within e =
    at_drop_more (λ xs. all_placed image xs (input_values xs shared secret) s) inputs i d within ∙ secret_first image (get_or inputs i d) (drop (i + 1) inputs) shared secret s true e

pub next_public : (image : List Cell) (inputs : List InputByte) (i : ℕ) (d : InputByte) (shared secret : List ℕ) (s : State) → i < length inputs → (get_or inputs i d).secret ≡ false → all_placed image (drop i inputs) (input_values (drop i inputs) shared secret) s ≡ all_placed image (drop (i + 1) inputs) (input_values (drop (i + 1) inputs) (drop 1 shared) secret) (placed image (get_or inputs i d).place (slice_index shared 0) s)
next_public image inputs i d shared secret s within e =
    at_drop_more (λ xs. all_placed image xs (input_values xs shared secret) s) inputs i d within ∙ secret_first image (get_or inputs i d) (drop (i + 1) inputs) shared secret s false e

count-first : (p : InputByte → Bool) (input : InputByte) (inputs : List InputByte) → count_by p (input ∷ inputs) ≡ (cond (p input) 1 0) + count_by p inputs
count-first p input inputs = sum_by-cons (λ x. cond (p x) 1 0) input inputs

pub counts_secret : (inputs : List InputByte) (i : ℕ) (d : InputByte) → i < length inputs → (get_or inputs i d).secret ≡ true → (public_count (drop i inputs) ≡ public_count (drop (i + 1) inputs)) × (secret_count (drop i inputs) ≡ secret_count (drop (i + 1) inputs) + 1)
counts_secret inputs i d within e = (
  at_drop_more public_count inputs i d within ∙ count-first (λ x. not x.secret) (get_or inputs i d) (drop (i + 1) inputs) ∙ ap (λ b. (cond (not b) 1 0) + public_count (drop (i + 1) inputs)) e ∙ omega arith,
  at_drop_more secret_count inputs i d within ∙ count-first (λ x. x.secret) (get_or inputs i d) (drop (i + 1) inputs) ∙ ap (λ b. (cond b 1 0) + secret_count (drop (i + 1) inputs)) e ∙ omega arith,
)

pub counts_public : (inputs : List InputByte) (i : ℕ) (d : InputByte) → i < length inputs → (get_or inputs i d).secret ≡ false → (public_count (drop i inputs) ≡ public_count (drop (i + 1) inputs) + 1) × (secret_count (drop i inputs) ≡ secret_count (drop (i + 1) inputs))
counts_public inputs i d within e = (
  at_drop_more public_count inputs i d within ∙ count-first (λ x. not x.secret) (get_or inputs i d) (drop (i + 1) inputs) ∙ ap (λ b. (cond (not b) 1 0) + public_count (drop (i + 1) inputs)) e ∙ omega arith,
  at_drop_more secret_count inputs i d within ∙ count-first (λ x. x.secret) (get_or inputs i d) (drop (i + 1) inputs) ∙ ap (λ b. (cond b 1 0) + secret_count (drop (i + 1) inputs)) e ∙ omega arith,
)

-- no input byte is left
no_more : (image : List Cell) (shared secret : List ℕ) (s : State) → all_placed image [] (input_values [] shared secret) s ≡ s
unfolding all_placed
no_more image shared secret s = refl

pub over_all : (image : List Cell) (inputs : List InputByte) (i : ℕ) (shared secret : List ℕ) (s : State) → length inputs ≤ i → all_placed image (drop i inputs) (input_values (drop i inputs) shared secret) s ≡ s
over_all image inputs i shared secret s past = at_drop_all (λ xs. all_placed image xs (input_values xs shared secret) s) inputs i past ∙ no_more image shared secret s

-- a machine at a start has the bytes of the image
pub start_bytes : (job : Job) (shared secret : List ℕ) (m : State) → m ≡ start job shared secret → length m.bytes ≡ size_of job.image
start_bytes job shared secret m e = ap (λ (s : State). length s.bytes) e ∙ length-start_bytes job shared secret ∙ length-bytes job

pub start_pc : (job : Job) (shared secret : List ℕ) (m : State) → m ≡ start job shared secret → m.pc ≡ job.entry
start_pc job shared secret m e = ap (λ (s : State). s.pc) e ∙ start-pc job shared secret

pub start_runs : (job : Job) (shared secret : List ℕ) (m : State) → m ≡ start job shared secret → m.ending ≡ None
start_runs job shared secret m e = ap (λ (s : State). s.ending) e ∙ start-ending job shared secret
