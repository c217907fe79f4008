use Rattle.std.proofs.Common.{◌≡◌, ℕ, true, ◌^◌, ◌<◌, ◌≤◌, length, take}
use Rattle.std.specs.Prelude.{IsSome}
use Rattle.std.specs.List.{list_any}
use Rattle.bv_expr.specs.Growth.{Extends, AddsNoInput}
use Rattle.bv_range.specs.Known.{IsWithin}
use Rattle.rv_image.specs.View.{total}
use Rattle.rel_memory.specs.Contents.{IsMemory}
use Rattle.rel_memory.specs.Selecting.{AreFirst, value_at}
use Rattle.rel_memory.specs.Spanning.{in_span}
use Rattle.rel_memory.proofs.rel_memory.RelMemory.candidates.Given as goal

abbrev pub invariant-loop-i : goal.invariant-loop-i
invariant-loop-i l = record {
  memory : IsMemory l.arena l.self;
  first : AreFirst l.arena l.self l.found.entries;
  each : (at : ℕ) → at < 2 ^ 32 → list_any (in_span at) (take l.i l.spans) ≡ true → IsWithin l.range at → IsSome (value_at l.found.entries at);
  few : length l.found.entries ≤ total (take l.i l.spans);
  extends : Extends l.fn.arena l.arena (total (take l.i l.spans));
  no_input : AddsNoInput l.fn.arena l.arena;
}
