use Rattle.std.proofs.Common.{◌≡◌, ◌++◌, take, flat_map, string_bytes}
use Rattle.rv_decode.specs.Text.{hex_digits}
use Rattle.ct_texts.proofs.bytes.push_bytes.Given as goal

abbrev pub invariant-loop-byte : goal.invariant-loop-byte
invariant-loop-byte l = string_bytes l.text ≡ string_bytes l.initial.text ++ flat_map (hex_digits 2) (take l.byte-index l.bytes)
