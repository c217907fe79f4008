use Rattle.std.proofs.Common.{◌≡◌, Bool, true, false, List, length, take, Some, None, sym, ◌∙◌, ap, arith}
use Rattle.std.proofs.lemmas.Bool.{eqb-false}
use Rattle.cnf_form.specs.declared.lit.Lit.{Lit}
use Rattle.std.specs.Bool.{MatchBool}
use Rattle.cnf_form.specs.Resolvent.{resolvent}
use Rattle.cnf_form.specs.Derivation.{older_clauses, both_resolved}
use Rattle.proof_check.proofs.OlderLaws.{first_none, next_none}
use Rattle.proof_check.proofs.chain.follow.Goals as goal

not_resolved : (left so_far right out : List Lit) (found : Bool) → found ≡ false → left ≡ so_far → MatchBool found (resolvent left right ≡ Some out) (resolvent left right ≡ None) → resolvent so_far right ≡ None
not_resolved left so_far right out true e f h = cc
not_resolved left so_far right out false e f h = ap (λ (ls : List Lit). resolvent ls right) (sym f) ∙ h

pub returns-in_default : goal.returns-in_default
returns-in_default c =
    let some = eqb-false (length c.args.chain.now) 0 (sym c.if-is_empty.ensures) in
    first_none (older_clauses c.args.clauses.now (take c.args.count c.args.log.now)) c.args.chain.now 0 (omega arith) c.in_default.ensures

pub returns-in_default-older_clause : goal.returns-in_default-older_clause
returns-in_default-older_clause c =
    let older = older_clauses c.args.clauses.now (take c.args.count c.args.log.now) in
    sym c.loop-place.invariant ∙ next_none older c.args.chain.now c.loop-place.buffers.so_far.items c.loop-place.place 0 c.loop-place-test.true (ap (both_resolved (Some c.loop-place.buffers.so_far.items)) c.in_default-older_clause.ensures)

pub returns-then-not-branch : goal.returns-then-not-branch
returns-then-not-branch c =
    let older = older_clauses c.args.clauses.now (take c.args.count c.args.log.now) in
    let so_far = c.loop-place.buffers.so_far.items in
    let clash = not_resolved c.as_slice.result.now so_far c.in-Some-older_clause.clause.now c.resolve.new.out.items c.in_ok-resolve.field-0 c.if-not-branch.true c.as_slice.ensures.value c.in_ok-resolve.ensures in
    sym c.loop-place.invariant ∙ next_none older c.args.chain.now so_far c.loop-place.place 0 c.loop-place-test.true (ap (both_resolved (Some so_far)) c.in-Some-older_clause.ensures ∙ clash)
