-- The table of the pass `MergeBytes`: bytes that are taken of a word and joined again.
use Rattle.std.specs.Prelude.{ℕ, ◌==◌, ◌&&◌, Bool, false, List, Option, Some, None, slice_get, if◌then◌else◌}
use Rattle.std.specs.Option.{option_and_then, option_map_or}
use Rattle.bv_expr.specs.declared.q_node.QNode.{QNode}
use Rattle.bv_expr.specs.declared.q_node.QNode.TheVariants.{Join, Byte}
use Rattle.bv_passes.specs.declared.rewrite.Rewrite.{Rewrite}
use Rattle.bv_passes.specs.declared.rewrite.Rewrite.TheVariants.{Keep, Old}

-- the word of which a node is byte k
abbrev pub word_of : ℕ → QNode → Option ℕ
word_of k (Byte word j) = if j == k then Some word else None
word_of k _ = None

-- the word of which node i is byte k
abbrev pub word_at : List QNode → ℕ → ℕ → Option ℕ
word_at nodes i k = option_and_then (word_of k) (slice_get nodes i)

-- the word is there, and is this one
abbrev pub is_word : ℕ → Option ℕ → Bool
is_word word other = option_map_or (λ x. x == word) other false

-- bytes 0 to 3 of one word, joined, are the word
abbrev pub joined_again : List QNode → ℕ → ℕ → ℕ → ℕ → Rewrite
joined_again nodes b0 b1 b2 b3 = option_map_or
    (λ word. if is_word word (word_at nodes b1 1) && is_word word (word_at nodes b2 2) && is_word word (word_at nodes b3 3) then Old word else Keep)
    (word_at nodes b0 0) Keep

-- byte k of joined bytes is member k
abbrev pub member_of : ℕ → QNode → Rewrite
member_of k (Join b0 b1 b2 b3) = Old (if k == 0 then b0 else (if k == 1 then b1 else (if k == 2 then b2 else b3)))
member_of k _ = Keep

-- the first rule that matches at a node
abbrev pub merged_node : List QNode → QNode → Rewrite
merged_node nodes (Join b0 b1 b2 b3) = joined_again nodes b0 b1 b2 b3
merged_node nodes (Byte word k) = option_map_or (member_of k) (slice_get nodes word) Keep
merged_node nodes _ = Keep

-- the table of `MergeBytes`
abbrev pub bytes_table : List QNode → ℕ → Rewrite
bytes_table nodes i = option_map_or (merged_node nodes) (slice_get nodes i) Keep
