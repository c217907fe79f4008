use Rattle.std.proofs.Common.{◌+◌, ◌*◌, ◌≤◌, length}
use Rattle.bv_expr.specs.Growth.{AddsNoInput}
use Rattle.rel_memory.specs.Selecting.{Grows, AreHeld}
use Rattle.rel_memory.proofs.ChoiceLaws.{AreNarrowed}
use Rattle.rel_memory.proofs.selecting.selected.Given as goal

abbrev pub invariant-loop-place : goal.invariant-loop-place
invariant-loop-place l = record {
  held : AreHeld l.arena l.joined.entries;
  narrowed : AreNarrowed l.arena l.x.0 l.place l.fn.values.entries l.joined.entries;
  grows : Grows l.fn.arena l.arena;
  count : length l.arena + 2 * length l.joined.entries ≤ length l.fn.arena + 2 * length l.fn.values.entries + 4 * l.place;
  no_input : AddsNoInput l.fn.arena l.arena;
}
