use Rattle.std.proofs.Common.{rules}
use Rattle.rv_decode.proofs.Hex.{hex_five}
use Rattle.rv_decode.proofs.text.upper.Goals as goal

pub returns : goal.returns
returns c = search (rules, hex_five)
