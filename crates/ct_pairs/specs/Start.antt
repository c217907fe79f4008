-- The start of a run.
use Rattle.std.specs.Prelude.{ℕ, List, [], ◌∷◌, Option, None, Some, drop, slice_index, slice_set, replicate, if◌then◌else◌}
use Rattle.std.specs.Int.{w32, to_le_bytes, from_le_bytes}
use Rattle.rv_image.specs.Cell.{Cell}
use Rattle.rv_image.specs.Image.{index_at, bytes_of}
use Rattle.rv_machine.specs.declared.«record».Record.{Record}
use Rattle.rv_machine.specs.State.{State}
use Rattle.rv_machine.specs.Trail.{trail}
use Rattle.ct_pairs.specs.declared.place.Place.{Place}
use Rattle.ct_pairs.specs.declared.place.Place.TheVariants.{Register, Memory}
use Rattle.ct_pairs.specs.declared.input_byte.InputByte.{InputByte}
use Rattle.ct_pairs.specs.declared.job.Job.{Job}

-- the value of each input byte, in input order: a public one takes the next shared value, a secret one the next secret value
unfoldable pub input_values : List InputByte → List ℕ → List ℕ → List ℕ
input_values [] shared secret = []
input_values (input ∷ inputs) shared secret =
    if input.secret
    then slice_index secret 0 ∷ input_values inputs shared (drop 1 secret)
    else slice_index shared 0 ∷ input_values inputs (drop 1 shared) secret

-- a word with one of its four bytes replaced; byte 0 is the least
unfoldable pub byte_replaced : ℕ → ℕ → ℕ → ℕ
byte_replaced word byte value = from_le_bytes w32 (slice_set (to_le_bytes w32 word) byte value)

-- the bytes with the one at an accessible address replaced, by its index among the accessible addresses
unfoldable pub byte_put : List ℕ → Option ℕ → ℕ → List ℕ
byte_put bytes None value = bytes
byte_put bytes (Some index) value = slice_set bytes index value

-- a value put in its place: it replaces that byte of the register, or the byte at that address
unfoldable pub placed : List Cell → Place → ℕ → State → State
placed image (Register reg byte) value s =
    record s { registers = slice_set s.registers reg (byte_replaced (slice_index s.registers reg) byte value) }
placed image (Memory address) value s = record s { bytes = byte_put s.bytes (index_at image address) value }

-- each value put in the place of its input byte
unfoldable pub all_placed : List Cell → List InputByte → List ℕ → State → State
all_placed image [] values s = s
all_placed image (input ∷ inputs) values s =
    all_placed image inputs (drop 1 values) (placed image input.place (slice_index values 0) s)

-- a machine of the job as it is made: at the entry, with all registers 0
unfoldable pub fresh : Job → State
fresh job = record { pc = job.entry; registers = replicate 32 0; bytes = bytes_of job.image; ending = None }

-- the job's entry, its registers with x0 as 0, its loaded bytes, and no ending
unfoldable pub unplaced : Job → State
unplaced job = record {
  pc = job.entry;
  registers = slice_set job.registers 0 0;
  bytes = bytes_of job.image;
  ending = None;
}

-- the start with these values for the public and for the secret bytes
unfoldable pub start : Job → List ℕ → List ℕ → State
start job shared secret = all_placed job.image job.inputs (input_values job.inputs shared secret) (unplaced job)

-- the records of the first n steps from that start
abbrev pub run_trail : Job → List ℕ → List ℕ → ℕ → List Record
run_trail job shared secret n = trail job.image job.stops (start job shared secret) n

-- the records of a run from a state, up to the bound of the job
abbrev pub bounded_trail : Job → State → List Record
bounded_trail job s = trail job.image job.stops s job.bound
