use Rattle.std.proofs.Common.{◌≡◌, ℕ, Bool, ◌+◌, ◌-◌, ◌*◌, ◌≤◌, length, drop}
use Rattle.std.specs.Prelude.{fold}
use Rattle.bv_expr.specs.Nodes.{HasWidth, IsValuation, AreBytes}
use Rattle.bv_expr.specs.Growth.{AddsNoInput}
use Rattle.bv_range.specs.Remembered.{AreRight}
use Rattle.rel_store.specs.Sides.{side_id, HasSides}
use Rattle.rel_memory.specs.Contents.{IsMemory, after_write}
use Rattle.rel_memory.specs.Selecting.{Grows}
use Rattle.rel_memory.proofs.rel_memory.RelMemory.written_at.Given as goal

abbrev pub invariant-loop-i : goal.invariant-loop-i
invariant-loop-i l = record {
  memory : IsMemory l.arena l.self;
  number : HasWidth l.arena l.number.0 32;
  number_value : (env v : ℕ → ℕ) → IsValuation env v l.arena → v l.number.0 ≡ l.at;
  width : HasSides l.arena 8 l.byte;
  value : (env v : ℕ → ℕ) → AreBytes env → IsValuation env v l.arena → (right : Bool) → fold (after_write right v l.at) (v (side_id right l.byte)) (drop l.i l.self.computed) ≡ fold (after_write right v l.at) (v (side_id right l.fn.first)) (drop l.passed l.self.computed);
  grows : Grows l.fn.arena l.arena;
  count : length l.arena ≤ length l.fn.arena + 1 + 3 * (l.i - l.passed);
  no_input : AddsNoInput l.fn.arena l.arena;
  ranges : AreRight l.arena l.ranges;
}
