use Rattle.std.proofs.Common.{◌≡◌, ℕ, ◌+◌, ◌*◌, ◌≤◌, length, take}
use Rattle.std.specs.List.{list_any}
use Rattle.ct_words.specs.Words.{flag}
use Rattle.bv_expr.specs.Nodes.{HasWidth, IsValuation, AreBytes}
use Rattle.bv_expr.specs.Growth.{AddsNoInput}
use Rattle.rv_image.specs.View.{total}
use Rattle.rel_memory.specs.Selecting.{Grows}
use Rattle.rel_memory.specs.Spanning.{span_allows}
use Rattle.rel_memory.proofs.spanning.allowed_in.Given as goal

abbrev pub invariant-loop-i : goal.invariant-loop-i
invariant-loop-i l = record {
  one : HasWidth l.arena l.one.0 1;
  one_value : (env v : ℕ → ℕ) → IsValuation env v l.arena → v l.one.0 ≡ 1;
  width : HasWidth l.arena l.allowed.0 1;
  value : (env v : ℕ → ℕ) → AreBytes env → IsValuation env v l.arena → v l.allowed.0 ≡ flag (list_any (span_allows l.right (v l.x.0)) (take l.i l.spans));
  grows : Grows l.fn.arena l.arena;
  count : length l.arena ≤ length l.fn.arena + 2 + 4 * total (take l.i l.spans);
  no_input : AddsNoInput l.fn.arena l.arena;
}
