use Rattle.std.proofs.Common.{◌≡◌, ◌∙◌, sym, Some}
use Rattle.std.specs.Option.{option_zip}
use Rattle.bv_expr.specs.Folding.{constant_in}
use Rattle.bv_expr.proofs.Folds.{ok_then, join_value}
use Rattle.bv_expr.proofs.arena.Arena.join.Goals as goal

pub returns-in-Some-clause-value : goal.returns-in-Some-clause-value
returns-in-Some-clause-value c =
    let all : option_zip (option_zip (constant_in c.args.self.now c.args.b0.0) (constant_in c.args.self.now c.args.b1.0)) (option_zip (constant_in c.args.self.now c.args.b2.0) (constant_in c.args.self.now c.args.b3.0)) ≡ Some ((c.in-Some.x0, c.in-Some.x1), (c.in-Some.x2, c.in-Some.x3))
    = (rw (← c.bytes_at.ensures.constants) (rw (← c.bytes_at-2.ensures.constants) (sym c.zip.ensures))) ∙ c.in-Some.is in
    ok_then c.add.result _ _ c.add.ensures.stored (λ id stored env v run.
    join_value env v c.args.self.now c.add.new.self c.args.b0.0 c.args.b1.0 c.args.b2.0 c.args.b3.0 id.0 c.add.ensures.extends (rw all (rw (← c.joined.ensures) stored)) run)
