use Rattle.std.proofs.Common.{◌≡◌, ◌∙◌, sym, Some}
use Rattle.std.specs.Option.{option_zip}
use Rattle.bv_expr.specs.Folding.{constant_in}
use Rattle.bv_expr.proofs.Folds.{ok_then}
use Rattle.bv_expr.proofs.arena.Arena.pick.Goals as goal

pub returns-in-Some-clause-node : goal.returns-in-Some-clause-node
returns-in-Some-clause-node c =
    let all : option_zip (constant_in c.args.self.now c.args.when.0) (option_zip (constant_in c.args.self.now c.args.yes.0) (constant_in c.args.self.now c.args.no.0)) ≡ Some (c.in-Some.bit, (c.in-Some.x, c.in-Some.y))
    = (rw (← c.constant_at.ensures.constant) (rw (← c.constants_at.ensures.constants) (sym c.zip.ensures))) ∙ c.in-Some.is in
    ok_then c.add.result _ _ c.add.ensures.stored (λ id stored w has. rw all (rw (← c.chosen.ensures) (rw (c.width-width.ensures.only w has) stored)))
