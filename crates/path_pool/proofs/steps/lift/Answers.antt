use Rattle.std.proofs.Common.{◌∷◌, Some, ap, sym, ◌∙◌}
use Rattle.atomic_table.specs.Table.{rest}
use Rattle.path_pool.proofs.steps.lift.Goals as goal

pub exchange-requires : goal.exchange-requires
exchange-requires c =
    let t = c.requires.there in
    (c.requires.table, (Some t.0, t.1 ∙ ap (λ l. (0, Some t.0) ∷ rest l) (sym t.1)))
