use Rattle.std.proofs.Common.{◌≡◌, ℕ, length, map, List, sym, ◌∙◌, ap, arith}
use Rattle.std.specs.Prelude.{slice_get}
use Rattle.cnf_form.specs.declared.line.Line.{Line}
use Rattle.cnf_form.specs.Lines.{chain_of}
use Rattle.cnf_form.proofs.LineLaws.{length-lines_of, chains_of-lines}
use Rattle.cnf_form.proofs.log.Log.chain.Goals as goal

pub get-requires : goal.get-requires
get-requires c =
    let view = ap length c.self.view_is in
    let same : length c.self.inside.clauses ≡ length c.self.inside.chains = c.self.invariant in
    let long = length-lines_of c.self.inside.clauses c.self.inside.chains c.self.invariant in omega arith

pub returns : goal.returns
returns c =
    ap (λ (lines : List Line). slice_get (map chain_of lines) c.args.at) (sym c.self.view_is)
    ∙ ap (λ (ns : List (List ℕ)). slice_get ns c.args.at) (chains_of-lines c.self.inside.clauses c.self.inside.chains c.self.invariant)
    ∙ c.get.ensures
