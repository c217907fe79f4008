use Rattle.std.proofs.Common.{length, ap, arith}
use Rattle.cnf_form.proofs.PieceLaws.{length-pieces}
use Rattle.cnf_form.proofs.lists.Lists.get.Goals as goal

pub piece-requires-clause-within : goal.piece-requires-clause-within
piece-requires-clause-within g c =
    let view = ap length c.self.view_is in
    let long = length-pieces c.self.inside.items.items 0 c.self.inside.ends.items in
    let same = ap length c.as_slice-2.ensures.value in
    omega arith
