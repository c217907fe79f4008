use Rattle.std.proofs.Common.{length, sym, ◌∙◌, ap}
use Rattle.cnf_form.proofs.LineLaws.{length-lines_of}
use Rattle.cnf_form.proofs.log.Log.len.Goals as goal

pub returns : goal.returns
returns c = c.len.ensures ∙ sym (length-lines_of c.self.inside.clauses c.self.inside.chains c.self.invariant) ∙ ap length c.self.view_is
