use Rattle.std.proofs.Common.{◌≡◌, ℕ, Bool, ◌+◌, ◌*◌, ◌≤◌, length, drop}
use Rattle.std.specs.Prelude.{fold}
use Rattle.bv_expr.specs.Nodes.{IsValuation, AreBytes}
use Rattle.bv_expr.specs.Growth.{AddsNoInput}
use Rattle.bv_range.specs.Remembered.{AreRight}
use Rattle.rel_store.specs.Sides.{side_id, HasSides}
use Rattle.rel_memory.specs.Contents.{IsAccessible, byte_in, kept_at}
use Rattle.rel_memory.specs.Log.{after_entry}
use Rattle.rel_memory.specs.Selecting.{Grows}
use Rattle.rel_memory.proofs.rel_memory.RelMemory.read_among.Given as goal

abbrev pub invariant-loop-i : goal.invariant-loop-i
invariant-loop-i l = record {
  width : HasSides l.arena 8 l.byte;
  value : (env v : ℕ → ℕ) → AreBytes env → IsValuation env v l.arena → IsAccessible l.self (v l.address.0) → (right : Bool)
      → fold (after_entry right v (kept_at l.self (v l.address.0)) (v l.address.0)) (v (side_id right l.byte)) (drop l.i l.self-inside.log.items) ≡ byte_in right v l.self (v l.address.0);
  grows : Grows l.fn.arena l.arena;
  count : length l.arena ≤ length l.fn.arena + 129 + 3 * length l.self.image + 4 * l.i;
  no_input : AddsNoInput l.fn.arena l.arena;
  ranges : AreRight l.arena l.ranges;
}
