use Rattle.std.proofs.Common.{ℕ, ◌+◌, ◌-◌, ◌^◌, ◌<◌, ◌≤◌, length}
use Rattle.std.specs.Prelude.{IsSome}
use Rattle.bv_expr.specs.Growth.{Extends, AddsNoInput}
use Rattle.bv_range.specs.Known.{IsWithin}
use Rattle.rel_memory.specs.Contents.{IsMemory}
use Rattle.rel_memory.specs.Selecting.{AreFirst, value_at}
use Rattle.rel_memory.proofs.rel_memory.RelMemory.note_span.Given as goal

abbrev pub invariant-loop-offset : goal.invariant-loop-offset
invariant-loop-offset l = record {
  memory : IsMemory l.arena l.self;
  first : AreFirst l.arena l.self l.found.entries;
  each : (at : ℕ) → at < 2 ^ 32 → l.span.address + l.first ≤ at → at < l.span.address + l.offset → IsWithin l.range at → IsSome (value_at l.found.entries at);
  stays : (at : ℕ) → IsSome (value_at l.fn.found.entries at) → IsSome (value_at l.found.entries at);
  short : l.offset - l.first ≤ l.span.length;
  few : length l.found.entries ≤ length l.fn.found.entries + (l.offset - l.first);
  extends : Extends l.fn.arena l.arena (l.offset - l.first);
  no_input : AddsNoInput l.fn.arena l.arena;
}
