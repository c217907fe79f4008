use Rattle.std.proofs.Common.{◌≡◌, ℕ, ◌-◌, map, Some, subst, arith}
use Rattle.std.specs.Prelude.{slice_get}
use Rattle.cnf_form.specs.Lines.{clause_of}
use Rattle.proof_check.proofs.OlderLaws.{older-line, older-none}
use Rattle.proof_check.proofs.chain.older_clause.Goals as goal

pub returns-then-number-len-2 : goal.returns-then-number-len-2
returns-then-number-len-2 c =
    let n = c.len.ensures.length in
    let m = c.len-else-number-len.ensures.length in
    let k = c.len-then-number-len-2.ensures.length in
    older-line c.args.clauses.now c.args.log.now c.args.count c.args.number c.clause.result.now
    (omega (arith, c.if-number-len.false)) (omega (arith, c.if-number-len-2.true))
    (subst (λ (n : ℕ). slice_get (map clause_of c.args.log.now) (c.args.number - n) ≡ Some c.clause.result.now) k c.clause.ensures)

pub returns-else-number-len-2 : goal.returns-else-number-len-2
returns-else-number-len-2 c =
    let n = c.len.ensures.length in
    let m = c.len-else-number-len.ensures.length in
    older-none c.args.clauses.now c.args.log.now c.args.count c.args.number
    (omega (arith, c.if-number-len.false)) (omega (arith, c.requires)) (omega (arith, c.if-number-len-2.false))
