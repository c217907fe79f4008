use Rattle.std.proofs.Common.{◌+◌, ◌*◌, ◌≤◌, length}
use Rattle.bv_expr.specs.Growth.{AddsNoInput}
use Rattle.rel_memory.specs.Selecting.{Grows, AreHeld, AreJoinedFirst, IsBit, bit_nodes}
use Rattle.rel_memory.proofs.selecting.joined_at.Given as goal

abbrev pub invariant-loop-i : goal.invariant-loop-i
invariant-loop-i l = record {
  bit : IsBit l.arena l.x.0 l.place l.bit;
  held : AreHeld l.arena l.joined.entries;
  first : AreJoinedFirst l.arena l.x.0 l.place l.values.entries l.i l.joined.entries;
  grows : Grows l.fn.arena l.arena;
  count : length l.arena + 2 * length l.joined.entries + bit_nodes l.bit ≤ length l.fn.arena + 2 * l.i + 4;
  no_input : AddsNoInput l.fn.arena l.arena;
}
