use Rattle.std.proofs.Common.{sym, arith}
use Rattle.cnf_form.proofs.PieceLaws.{start_is, start_at_first}
use Rattle.cnf_form.proofs.lists.start.Goals as goal

pub returns-then-at-eq0 : goal.returns-then-at-eq0
returns-then-at-eq0 c = sym (start_at_first 0 c.args.ends.now c.args.at c.if-at-eq0.true)

pub returns-else-at-eq0 : goal.returns-else-at-eq0
returns-else-at-eq0 c = start_is 0 c.args.ends.now c.args.at 0 c.requires (omega (arith, c.if-at-eq0.false))
