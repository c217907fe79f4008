use Rattle.std.proofs.Common.{◌≡◌, take, flat_map, string_bytes}
use Rattle.ct_listing.specs.List.{span_lines}
use Rattle.ct_listing.proofs.list.list_text.Given as goal

-- the words in the spans so far
abbrev pub invariant-loop-span : goal.invariant-loop-span
invariant-loop-span l = string_bytes l.text ≡ flat_map (span_lines l.image) (take l.span-index l.span-items)
