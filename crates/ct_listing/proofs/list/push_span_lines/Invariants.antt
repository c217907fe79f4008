use Rattle.std.proofs.Common.{◌≡◌, ◌++◌, flat_map, string_bytes}
use Rattle.std.specs.List.{range_with_len}
use Rattle.ct_listing.specs.List.{fetched_line}
use Rattle.ct_listing.proofs.list.push_span_lines.Given as goal

-- the words at the addresses so far
abbrev pub invariant-loop-offset : goal.invariant-loop-offset
invariant-loop-offset l =
    string_bytes l.text ≡ string_bytes l.initial.text ++ flat_map (fetched_line l.image) (range_with_len l.span.address l.offset)
