use Rattle.std.proofs.Common.{◌≡◌, ◌<◌, ℕ, length}
use Rattle.std.specs.Prelude.{slice_index}
use Rattle.query_ask.specs.Placing.{byte_of_number}
use Rattle.query_ask.proofs.placing.bytes_of_number.Given as goal

abbrev pub invariant-loop-at : goal.invariant-loop-at
invariant-loop-at l = record {
  long : length l.bytes.items ≡ l.at;
  are : (i : ℕ) → i < l.at → slice_index l.bytes.items i ≡ byte_of_number l.number i;
}
