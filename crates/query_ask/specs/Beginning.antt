-- A question in the making.
use Rattle.std.specs.Prelude.{◌≡◌, ℕ, ◌<◌, Bool, List, length, slice_index, All}
use Rattle.std.specs.List.{list_all}
use Rattle.bv_expr.specs.declared.q_node.QNode.{QNode}
use Rattle.bv_expr.specs.Nodes.{HasWidth}
use Rattle.query_ask.specs.Copies.{IsCopying}

-- the kept conjuncts are copies of one bit, and say together what the ones that are done say
pub record IsBegun (nodes : List QNode) (vars : ℕ) (done origins : List ℕ) (copies : List QNode) (kept : List ℕ) : Type 0 where
  pub copying : IsCopying nodes vars origins copies
  pub inside : All (λ k. k < length origins) kept
  pub bits : All (λ k. HasWidth nodes (slice_index origins k) 1) kept
  pub same : (test : ℕ → Bool) → list_all (λ k. test (slice_index origins k)) kept ≡ list_all test done
