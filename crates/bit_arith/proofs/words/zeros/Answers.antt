use Rattle.std.proofs.Common.{refl}
use Rattle.bit_arith.proofs.Growing.{IsWord-zeros}
use Rattle.bit_arith.proofs.words.zeros.Goals as goal

pub returns : goal.returns
returns c = λ gates some. IsWord-zeros gates _ _ _ refl refl (c.in_ok-out.ensures gates some)
