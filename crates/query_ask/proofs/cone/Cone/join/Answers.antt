use Rattle.std.proofs.Common.{rules}
use Rattle.query_ask.specs.Copies.{is_copied}
use Rattle.query_ask.proofs.Steps.{err_then, third_of_four}
use Rattle.query_ask.proofs.cone.Cone.join.Goals as goal

pub returns-in_err-number-3 : goal.returns-in_err-number-3
returns-in_err-number-3 c =
    let given = c.from_residual-in_err-number-3.ensures in
    err_then c.from_residual-in_err-number-3.result _ _ _ given.0 given.1
    (λ e same. third_of_four c.args.b0 c.args.b1 c.args.b2 c.args.b3 e (is_copied c.args.self.now.origins.keys) (search rules))
