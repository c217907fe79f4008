use Rattle.std.proofs.Common.{◌≡◌, List, map, ap, subst, ◌∙◌, sym}
use Rattle.path_pool.specs.Seats.{PoolView}
use Rattle.path_pool.specs.Rule.{total, is_number, AreCalls}
use Rattle.path_pool.specs.Plays.{Sat}
use Rattle.path_pool.specs.declared.view.Told.{Told}
use Rattle.path_pool.proofs.Together.{own_calls, once_each}
use Rattle.path_pool.proofs.shared_pool.SharedPool.end.Goals as goal

pub returns : goal.returns
returns c =
    let seats = c.args.seats.items in
    let g = c.gathered-place.ensures.gathered in
    let bag = c.closed-bag.result in
    let last = c.closed-bag.ensures in
    let held = ap (λ (m : Sat). m.0.held) g.is in
    let key = ap (λ (p : PoolView). p.seats) c.self.view_is in
    record {
      legal = c.law.ensures.legal;
      counted = last.counted ∙ key;
      seen = g.pasts bag last.pasts;
      own = own_calls seats bag.history (subst (λ (xs : List Told). AreCalls xs bag.history) held last.calls);
      numbers = λ n below. once_each n c.self.inside.table.shared.key seats (subst (λ m. Rattle.std.proofs.Common.◌<◌ n m) (sym key) below) (ap (total (is_number n)) (sym held) ∙ last.numbers n);
    }
