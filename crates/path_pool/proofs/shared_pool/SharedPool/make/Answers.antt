use Rattle.std.proofs.Common.{◌≡◌, List, [], ◌∷◌, ◌++◌, Option, Some, sym, ap, ◌∙◌, subst, arith}
use Rattle.atomic_table.specs.Table.{opening}
use Rattle.path_tree.specs.PoolMachine.{Contents}
use Rattle.path_tree.specs.Bag.{begun}
use Rattle.path_pool.specs.Rule.{IsKept, first_of_all}
use Rattle.path_pool.proofs.Opening.{opens}
use Rattle.path_pool.proofs.shared_pool.SharedPool.make.Goals as goal

pub new-requires-2 : goal.new-requires-2
new-requires-2 c =
    let is : c.push_reserved.new.self.items ≡ Some (begun c.args.seats) ∷ [] = c.push_reserved.ensures.items ∙ ap (λ (xs : List (Option Contents)). xs ++ Some c.in_ok-bag.bag ∷ []) c.in_ok-slots.ensures.items ∙ ap (λ (b : Contents). Some b ∷ []) c.in_ok-bag.ensures in
    subst (λ (xs : List (Option Contents)). IsKept c.args.seats (opening (0 ∷ 0 ∷ 0 ∷ []) xs (first_of_all c.args.seats))) (sym is) (opens c.args.seats (omega arith))
