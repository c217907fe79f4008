use Rattle.std.proofs.Common.{length, ap, arith}
use Rattle.cnf_form.proofs.PieceLaws.{length-pieces}
use Rattle.cnf_form.proofs.lists.Lists.len.Goals as goal

pub returns : goal.returns
returns g c =
    let view = ap length c.self.view_is in
    let long = length-pieces c.self.inside.items.items 0 c.self.inside.ends.items in
    omega (arith, c.len.ensures)
