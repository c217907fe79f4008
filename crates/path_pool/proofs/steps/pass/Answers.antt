use Rattle.std.proofs.Common.{◌+◌, ◌%◌, ◌^◌, rules, sym, subst}
use mathlib.Core.Option.{none}
use Rattle.atomic_table.specs.Table.{Allows, step}
use Rattle.path_pool.specs.Rule.{IsKept}
use Rattle.path_pool.specs.Plays.{Sat, passed}
use Rattle.path_pool.proofs.Stepping.{passes}
use Rattle.path_pool.proofs.steps.pass.Goals as goal

pub fetch_add-requires : goal.fetch_add-requires
fetch_add-requires c =
    let top = c.args.top.now in
    let place = c.args.place.now in
    let r = c.requires.turn in
    let t = r.2 in (
      search rules,
      search rules,
      subst (λ (m : Sat). Allows (IsKept top.key) top.table_id.slots place.id m 2 (λ n. (n + 1) % 2 ^ 64) (passed (step top.table_id.slots 2 1 0 none) m)) (sym t.is) (passes top.key top.table_id.slots place.id r.0 t.calls t.seen t.older t.ticket r.1),
    )
