use Rattle.std.proofs.Common.{rules}
use Rattle.rv_decode.proofs.Hex.{hex_eight}
use Rattle.ct_texts.proofs.words.push_address.Goals as goal

pub returns : goal.returns
returns c = search (rules, hex_eight)
