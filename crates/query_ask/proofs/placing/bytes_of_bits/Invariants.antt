use Rattle.std.proofs.Common.{◌≡◌, ◌+◌, ◌*◌, ◌<◌, ℕ, length, false}
use Rattle.std.specs.Prelude.{slice_index, slice_index_or}
use Rattle.bit_blast.specs.Spelling.{first_byte}
use Rattle.query_ask.proofs.placing.bytes_of_bits.Given as goal

abbrev pub invariant-loop-at : goal.invariant-loop-at
invariant-loop-at l = record {
  long : length l.bytes.items ≡ l.at;
  are : (i : ℕ) → i < l.at → slice_index l.bytes.items i ≡ first_byte (λ n. slice_index_or l.bits (8 * i + n) false);
}
