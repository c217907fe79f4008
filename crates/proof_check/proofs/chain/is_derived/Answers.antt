use Rattle.std.proofs.Common.{◌≡◌, Bool, List, take, sym, subst, ◌↔◌}
use Rattle.std.specs.Bool.{MatchBool}
use Rattle.std.specs.Prelude.{IsTrue}
use Rattle.cnf_form.specs.declared.lit.Lit.{Lit}
use Rattle.cnf_form.specs.Derivation.{older_clauses}
use Rattle.proof_check.specs.Lines.{IsDerivedAt, IsUnderivedAt}
use Rattle.proof_check.proofs.OlderLaws.{is_given, not_given, same_derived, none_underived}
use Rattle.proof_check.proofs.chain.is_derived.Goals as goal

pub returns-then-given : goal.returns-then-given
returns-then-given c =
    same_derived c.args.clauses.now c.args.log.now c.args.at c.chain.result.now c.follow.new.buffers.so_far.items c.clause-clause.result.now c.are_same.result c.clause-clause.ensures c.chain.ensures
    (is_given (older_clauses c.args.clauses.now (take c.args.at c.args.log.now)) c.chain.result.now c.in_ok-given.given c.follow.new.buffers.so_far.items c.if-given.true c.in_ok-given.ensures)
    (subst (λ (ls : List Lit). IsTrue c.are_same.result ↔ (ls ≡ c.clause-clause.result.now)) c.as_slice.ensures.value c.are_same.ensures)

pub returns-else-given : goal.returns-else-given
returns-else-given c =
    let none = none_underived c.args.clauses.now c.args.log.now c.args.at c.clause-clause.result.now c.chain.result.now c.clause-clause.ensures c.chain.ensures
    (not_given (older_clauses c.args.clauses.now (take c.args.at c.args.log.now)) c.chain.result.now c.in_ok-given.given c.follow.new.buffers.so_far.items c.if-given.false c.in_ok-given.ensures) in
    subst (λ (b : Bool). MatchBool b (IsDerivedAt c.args.clauses.now c.args.log.now c.args.at) (IsUnderivedAt c.args.clauses.now c.args.log.now c.args.at)) (sym c.if-given.false) none
