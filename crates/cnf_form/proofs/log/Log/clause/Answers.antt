use Rattle.std.proofs.Common.{length, map, List, sym, ◌∙◌, ap, arith}
use Rattle.std.specs.Prelude.{slice_get}
use Rattle.cnf_form.specs.declared.lit.Lit.{Lit}
use Rattle.cnf_form.specs.declared.line.Line.{Line}
use Rattle.cnf_form.specs.Lines.{clause_of}
use Rattle.cnf_form.proofs.LineLaws.{length-lines_of, clauses_of-lines}
use Rattle.cnf_form.proofs.log.Log.clause.Goals as goal

pub get-requires : goal.get-requires
get-requires c =
    let view = ap length c.self.view_is in
    let long = length-lines_of c.self.inside.clauses c.self.inside.chains c.self.invariant in omega arith

pub returns : goal.returns
returns c =
    ap (λ (lines : List Line). slice_get (map clause_of lines) c.args.at) (sym c.self.view_is)
    ∙ ap (λ (cs : List (List Lit)). slice_get cs c.args.at) (clauses_of-lines c.self.inside.clauses c.self.inside.chains c.self.invariant)
    ∙ c.get.ensures
