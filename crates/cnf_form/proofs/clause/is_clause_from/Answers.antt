use Rattle.std.proofs.Common.{◌≡◌, ℕ, ◌<◌, ◌+◌, true, ◌&&◌, ltb, List, ◌∷◌, length, drop, get_or, refl, sym, ◌∙◌, ap, drop-cons, add-one}
use Rattle.std.proofs.lemmas.Bool.{lt-ltb}
use Rattle.cnf_form.specs.declared.lit.Lit.{Lit}
use Rattle.cnf_form.specs.Clauses.{is_before, is_clause}
use Rattle.cnf_form.proofs.ClauseLaws.{is_clause-cons}
use Rattle.cnf_form.proofs.clause.is_clause_from.Goals as goal

from_here : (vars : ℕ) (lits : List Lit) (at : ℕ) (d : Lit) → at < length lits → is_clause vars (drop (at + 1) lits) ≡ true → (get_or lits at d).var < vars → is_before (get_or lits at d).var (drop (at + 1) lits) ≡ is_clause vars (drop at lits)
from_here vars lits at d low rest small =
    let x = get_or lits at d in
    let here : drop at lits ≡ x ∷ drop (at + 1) lits = rw (add-one, drop-cons lits at d) refl in
    sym (ap (is_clause vars) here ∙ is_clause-cons vars x (drop (at + 1) lits)
    ∙ ap (λ b. (b && ltb x.var vars) && is_before x.var (drop (at + 1) lits)) rest
    ∙ ap (λ b. b && is_before x.var (drop (at + 1) lits)) (lt-ltb _ _ small))

pub returns : goal.returns
returns c = c.is_before_rest.ensures ∙ from_here c.args.vars c.args.lits.now c.args.at _ c.requires.within (sym c.requires.rest ∙ c.if-not-rest.false) c.if-var-vars.false
