use Rattle.std.proofs.Common.{sym, subst}
use Rattle.work_crew.specs.Crew.{IsMember}
use Rattle.work_crew.proofs.crew.joined.Goals as goal

pub map_vec-requires-after_bounds : goal.map_vec-requires-after_bounds
map_vec-requires-after_bounds g c = λ _ _ i x below at.
    (subst (λ member. IsMember c.args.job.now c.args.pool.now member) (sym at) (c.requires i x below), (record { shared = c.type_bounds.sync-R.shared }, record { shared = c.type_bounds.sync-G.shared }))
