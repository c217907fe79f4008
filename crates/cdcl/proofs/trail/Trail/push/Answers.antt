use Rattle.std.proofs.Common.{arith, length}
use Rattle.cdcl.proofs.TrailLaws.{level_of-small}
use Rattle.cdcl.proofs.trail.Trail.push.Goals as goal

pub overflow_add-self : goal.overflow_add-self
overflow_add-self c = omega (arith, level_of-small c.self.inside.entries.items (length c.self.inside.entries.items) (omega arith))
