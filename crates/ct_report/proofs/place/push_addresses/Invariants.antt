use Rattle.std.proofs.Common.{◌≡◌, ◌++◌, take, flat_map, codes, string_bytes}
use Rattle.rv_decode.specs.Text.{address_text}
use Rattle.ct_report.proofs.place.push_addresses.Given as goal

abbrev pub invariant-loop-address : goal.invariant-loop-address
invariant-loop-address l = string_bytes l.text ≡ string_bytes l.initial.text ++ flat_map (λ address. codes " " ++ address_text address) (take l.address-index l.more)
