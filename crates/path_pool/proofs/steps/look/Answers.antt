use Rattle.std.proofs.Common.{rules, sym, subst}
use mathlib.Core.Option.{none}
use Rattle.atomic_table.specs.Table.{Allows, step}
use Rattle.path_pool.specs.Rule.{IsKept}
use Rattle.path_pool.specs.Plays.{Sat, looked}
use Rattle.path_pool.proofs.Stepping.{looks}
use Rattle.path_pool.proofs.steps.look.Goals as goal

pub load-requires : goal.load-requires
load-requires c =
    let top = c.args.top.now in
    let place = c.args.place.now in
    let w = c.requires.waits in (
      search rules,
      search rules,
      subst (λ (m : Sat). Allows (IsKept top.key) top.table_id.slots place.id m 2 (λ n. n) (looked (step top.table_id.slots 2 0 0 none) m)) (sym w.is) (looks top.key top.table_id.slots place.id w.number w.calls w.seen w.older w.ticket),
    )
