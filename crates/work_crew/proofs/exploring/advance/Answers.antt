use Rattle.std.proofs.Common.{[], ◌∷◌, ◌++◌, sym, ap, subst, arith}
use Rattle.path_tree.specs.declared.path.Path.{Path}
use Rattle.work_crew.specs.Exploring.{IsExploring, work}
use Rattle.work_crew.proofs.Advancing.{exploring_more, exploring_less}
use Rattle.work_crew.proofs.TopLaws.{top_of, top_after}
use Rattle.work_crew.proofs.exploring.advance.Goals as goal

pub run_path-requires-clause-node : goal.run_path-requires-clause-node
run_path-requires-clause-node g c = top_of c.args.job.now c.args.waiting.now.items c.args.path c.args.node c.requires.node

pub returns-clause-exploring : goal.returns-clause-exploring
returns-clause-exploring g c =
    let r = c.in_ok-run.ensures in
    let rest = c.args.waiting.now.items in
    let before = subst (λ (path : Path). IsExploring c.args.job.now c.args.explored.now (rest ++ path ∷ [])) (sym r.path) c.requires.exploring in
    rw (c.in_ok-open.ensures, c.in_ok-kids.ensures.kids)
    (exploring_more c.args.job.now c.args.explored.now _ rest c.in_ok-run.run'.0 before r.true_record r.spent r.counted c.in_ok-kids.ensures.found c.in_ok-kids.ensures.listed c.in_ok-kids.ensures.doubts c.in_ok-kids.ensures.ends)

pub returns-clause-less : goal.returns-clause-less
returns-clause-less g c =
    let r = c.in_ok-run.ensures in
    let rest = c.args.waiting.now.items in
    let before = subst (λ (path : Path). IsExploring c.args.job.now c.args.explored.now (rest ++ path ∷ [])) (sym r.path) c.requires.exploring in
    rw (c.in_ok-open.ensures, c.in_ok-kids.ensures.kids)
    (omega (arith, ap (λ (path : Path). work c.args.job.now.bound (rest ++ path ∷ [])) r.path, exploring_less c.args.job.now c.args.explored.now rest c.in_ok-run.run'.0 before r.true_record))

pub returns-clause-node : goal.returns-clause-node
returns-clause-node g c =
    rw (c.in_ok-open.ensures, c.in_ok-kids.ensures.kids) (top_after c.args.job.now c.args.waiting.now.items c.in_ok-run.run'.0.kids c.in_ok-run.run'.1 c.in_ok-run.ensures.handed)
