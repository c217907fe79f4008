use Rattle.std.proofs.Common.{◌≡◌, ◌<◌, false, length, get_or, sym, ◌∙◌, rules, arith}
use Rattle.cnf_form.specs.declared.lit.Lit.{Lit}
use Rattle.cdcl.proofs.AscentLaws.{has-end, has-place, is_same-test}
use Rattle.cdcl.proofs.analysis.contains.Goals as goal

abbrev blank : Lit
blank = record { var = 0; negated = false }

pub returns-then-at-lits : goal.returns-then-at-lits
returns-then-at-lits c =
    let end = c.if-at-lits.true in
    sym (has-end c.args.lits.now c.args.lit blank (λ k low. c.smaller-at.ensures.smaller k blank (omega arith) (omega (arith, end, low))))

pub returns : goal.returns
returns c =
    let lits = c.args.lits.now in
    let at = c.smaller-at.result in
    let low : at < length lits = search rules in
    c.eq.ensures
    ∙ is_same-test (get_or lits at blank) c.args.lit
    ∙ sym (has-place lits at c.args.lit blank c.requires.ascending (λ k less. c.smaller-at.ensures.smaller k blank (omega arith) less) low (c.smaller-at.ensures.others at blank (omega arith) low))
