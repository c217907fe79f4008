use Rattle.std.proofs.Common.{◌+◌, ◌%◌, ◌^◌, rules, sym, subst}
use mathlib.Core.Option.{none}
use Rattle.atomic_table.specs.Table.{Allows, step}
use Rattle.path_pool.specs.Rule.{IsKept}
use Rattle.path_pool.specs.Plays.{Sat, raised}
use Rattle.path_pool.proofs.Stepping.{raises}
use Rattle.path_pool.proofs.steps.raise.Goals as goal

pub fetch_add-requires : goal.fetch_add-requires
fetch_add-requires c =
    let top = c.args.top.now in
    let place = c.args.place.now in
    let n = c.requires.next in
    let t = n.3 in (
      search rules,
      search rules,
      subst (λ (m : Sat). Allows (IsKept top.key) top.table_id.slots place.id m 0 (λ n. (n + 1) % 2 ^ 64) (raised (step top.table_id.slots 0 1 0 none) m)) (sym t.is) (raises top.key top.table_id.slots place.id c.args.number t.calls t.seen t.older t.ticket n.0 n.1 n.2 n.4 n.5),
    )
