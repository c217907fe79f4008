use Rattle.std.proofs.Common.{◌+◌, ◌%◌, ◌^◌, [], ◌∷◌, rules, sym, subst, arith}
use mathlib.Core.Option.{none}
use Rattle.atomic_table.specs.Table.{Allows, step}
use Rattle.path_pool.specs.Rule.{told, IsKept}
use Rattle.path_pool.specs.Plays.{Sat, drawn}
use Rattle.path_pool.proofs.Stepping.{draws}
use Rattle.path_pool.proofs.steps.draw.Goals as goal

pub fetch_add-requires : goal.fetch_add-requires
fetch_add-requires c =
    let top = c.args.top.now in
    let place = c.args.place.now in
    let r = c.requires.rests.1 in (
      search rules,
      search rules,
      subst (λ (m : Sat). Allows (IsKept top.key) top.table_id.slots place.id m 1 (λ n. (n + 1) % 2 ^ 64) (drawn (step top.table_id.slots 1 1 0 none) m)) (sym r.is) (draws top.key top.table_id.slots place.id (told c.requires.rests.0 r.calls ∷ []) r.seen r.older (omega arith)),
    )
