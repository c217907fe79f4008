use Rattle.std.proofs.lemmas.Option.{IfSome_then}
use Rattle.bv_expr.proofs.arena.Arena.bytes_at.Goals as goal

pub returns-clause-fits : goal.returns-clause-fits
returns-clause-fits c = IfSome_then c.constants_at.result c.constants_at.ensures.fits (λ p fits. fits 8 c.requires.left c.requires.right)
