use Rattle.std.proofs.Common.{◌≡◌, ℕ, ◌+◌, ◌*◌, ◌≤◌, length}
use Rattle.ct_words.specs.Words.{flag}
use Rattle.bv_expr.specs.Nodes.{HasWidth, IsValuation, AreBytes}
use Rattle.bv_expr.specs.Growth.{AddsNoInput}
use Rattle.bv_range.specs.Remembered.{AreRight}
use Rattle.rv_image.specs.Image.{allowed_at}
use Rattle.rv_machine.specs.Step.{all_allowed}
use Rattle.rel_memory.specs.Selecting.{Grows}
use Rattle.rel_memory.proofs.rel_memory.RelMemory.each_allowed.Given as goal

abbrev pub invariant-loop-i : goal.invariant-loop-i
invariant-loop-i l = record {
  width : HasWidth l.arena l.all.0 1;
  value : (env v : ℕ → ℕ) → AreBytes env → IsValuation env v l.arena → v l.all.0 ≡ flag (all_allowed (allowed_at l.right l.self.image) (v l.address.0) l.i);
  grows : Grows l.fn.arena l.arena;
  count : length l.arena ≤ length l.fn.arena + l.i * (5 + 4 * length l.self.image);
  no_input : AddsNoInput l.fn.arena l.arena;
  ranges : AreRight l.arena l.ranges;
}
