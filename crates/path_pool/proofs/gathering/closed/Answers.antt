use Rattle.std.proofs.Common.{◌≡◌, Some, sym, subst, ◌∙◌}
use Rattle.std.proofs.lemmas.Option.{none-some, same_Some}
use mathlib.Core.Option.{some-injective}
use Rattle.path_pool.specs.Plays.{IsLast}
use Rattle.path_pool.proofs.Joining.{last}
use Rattle.path_pool.proofs.gathering.closed.Goals as goal

pub unreachable-requires : goal.unreachable-requires
unreachable-requires c =
    let t = last c.args.table.shared.key c.args.place.id c.args.place.me.0 _ _ c.close_with-closed.ensures.values.2 c.requires.some c.requires.all c.requires.turn in
    none-some t.0 (sym c.in-None.is ∙ some-injective c.take-bag.result (Some t.0) (sym c.take-bag.ensures.value ∙ t.1))

pub returns : goal.returns
returns c =
    let key = c.args.table.shared.key in
    let t = last key c.args.place.id c.args.place.me.0 _ _ c.close_with-closed.ensures.values.2 c.requires.some c.requires.all c.requires.turn in
    let same : t.0 ≡ c.in-Some.bag = same_Some t.0 c.in-Some.bag (sym (some-injective c.take-bag.result (Some t.0) (sym c.take-bag.ensures.value ∙ t.1)) ∙ c.in-Some.is) in
    subst (IsLast key c.args.place.me.0) same t.2
