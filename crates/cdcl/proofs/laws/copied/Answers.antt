use Rattle.std.proofs.Common.{List, [], ◌∷◌, ◌++◌, sym, ◌∙◌, ap}
use Rattle.cnf_form.specs.declared.lit.Lit.{Lit}
use Rattle.cnf_form.proofs.ClauseLaws.{take_next}
use Rattle.cdcl.proofs.laws.copied.Goals as goal

pub loop-number-preserved : goal.loop-number-preserved
loop-number-preserved c =
    c.in_ok-push.ensures.pushed ∙ ap (λ (cs : List (List Lit)). cs ++ c.get.result.now ∷ []) c.loop-number.invariant
    ∙ sym (take_next c.args.clauses.now c.loop-number.number c.get.result.now c.get.ensures.clause)
