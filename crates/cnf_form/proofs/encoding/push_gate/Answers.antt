use Rattle.std.proofs.Common.{◌∙◌, sym}
use Rattle.cnf_form.proofs.EncodingLaws.{IsWritten-and, operands_found}
use Rattle.cnf_form.proofs.encoding.push_gate.Goals as goal

pub push_conjunction-requires-clause-operands : goal.push_conjunction-requires-clause-operands
push_conjunction-requires-clause-operands c = c.net_law.ensures.net.standing _ _ (operands_found _ _ _ _ c.requires.gate c.in-Some.ensures)

pub returns-in_ok-push-2-clause-written : goal.returns-in_ok-push-2-clause-written
returns-in_ok-push-2-clause-written c = IsWritten-and _ _ _ _ _ _ (operands_found _ _ _ _ c.requires.gate c.in-Some.ensures) (λ values count. c.in_ok-push_conjunction.ensures.value values (count ∙ sym c.requires.vars))
