use Rattle.std.proofs.Common.{◌≡◌, ℕ, List, [], ◌∷◌, ◌++◌, length, ◌∙◌, ap}
use Rattle.cnf_form.specs.declared.lit.Lit.{Lit}
use Rattle.cnf_form.specs.declared.line.Line.{Line}
use Rattle.cnf_form.specs.Lines.{lines_of}
use Rattle.cnf_form.proofs.LineLaws.{lines_of-push}
use Rattle.cnf_form.proofs.log.Log.push.Goals as goal

pushed : (cs more : List (List Lit)) (ns longer : List (List ℕ)) (c : List Lit) (n : List ℕ) (line : Line) → length cs ≡ length ns → more ≡ cs ++ c ∷ [] → longer ≡ ns ++ n ∷ [] → c ≡ line.clause → n ≡ line.chain → lines_of more longer ≡ lines_of cs ns ++ line ∷ []
pushed cs more ns longer c n line e f g h i = rw (f, g, h, i) (lines_of-push cs ns line e)

pub returns-in-Ok-clause-pushed : goal.returns-in-Ok-clause-pushed
returns-in-Ok-clause-pushed c =
    pushed c.self.inside.clauses c.push.new.self c.self.inside.chains c.push-2.new.self c.lits.result.now c.as_slice.result.now c.args.line.now c.self.invariant c.in_ok-push.ensures.pushed c.in-Ok.ensures.pushed c.lits.ensures.lits c.as_slice.ensures
    ∙ ap (λ (lines : List Line). lines ++ c.args.line.now ∷ []) c.self.view_is
