use Rattle.std.proofs.Common.{◌≡◌, rules, arith}
use Rattle.std.proofs.lemmas.Grind.{common_steps}
use Rattle.rel_step.proofs.Telling.{words_tell}
use Rattle.rel_step.proofs.apart.words_apart.Goals as goal

pub returns-clause-apart : goal.returns-clause-apart
returns-clause-apart c =
    let different : c.args.left.0 ≡ c.args.right.0 → ⊥ = first_of (search rules, grind (arith, common_steps)) in
    words_tell c.test.new.self c.args.left c.args.right c.in_ok-apart.apart different c.in_ok-apart.ensures.width c.in_ok-apart.ensures.value
