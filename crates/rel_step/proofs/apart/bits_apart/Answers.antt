use Rattle.std.proofs.Common.{◌≡◌, rules, arith}
use Rattle.std.proofs.lemmas.Grind.{common_steps}
use Rattle.rel_step.proofs.Growing.{HasWidth-grows}
use Rattle.rel_step.proofs.Telling.{bits_tell}
use Rattle.bv_expr.proofs.Growing.{Extends-then}
use Rattle.rel_step.proofs.apart.bits_apart.Goals as goal

pub returns-clause-apart : goal.returns-clause-apart
returns-clause-apart c =
    let different : c.args.left.0 ≡ c.args.right.0 → ⊥ = first_of (search rules, grind (arith, common_steps)) in
    let more = Extends-then c.args.arena.now c.not.new.self c.pick.new.self 1 1 2 c.in_ok-other.ensures.extends c.in_ok-apart.ensures.extends (omega arith) in
    bits_tell c.not.new.self c.pick.new.self 1 c.args.left c.args.right c.in_ok-other.other c.in_ok-apart.apart different
    (c.in_ok-apart.ensures.width 1 c.in_ok-other.ensures.width)
    (HasWidth-grows c.args.arena.now c.pick.new.self 2 c.args.left.0 1 more c.requires.left) (HasWidth-grows c.args.arena.now c.pick.new.self 2 c.args.right.0 1 more c.requires.right)
    c.in_ok-apart.ensures.extends c.in_ok-other.ensures.value c.in_ok-apart.ensures.value c.law.ensures.fits
