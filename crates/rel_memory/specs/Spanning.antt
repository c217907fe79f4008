-- Which addresses lie in spans.
use Rattle.std.specs.Prelude.{ℕ, ◌+◌, nat_le, nat_lt, Bool, ◌&&◌}
use Rattle.rv_image.specs.declared.right.Right.{Right}
use Rattle.rv_image.specs.declared.span.Span.{Span}
use Rattle.rv_image.specs.Image.{span_right}

-- the address is one of the span
abbrev pub in_span : ℕ → Span → Bool
in_span at span = nat_le span.address at && nat_lt at (span.address + span.length)

-- the address is one of the span, which has the right
abbrev pub span_allows : Right → ℕ → Span → Bool
span_allows right at span = span_right right span && in_span at span
