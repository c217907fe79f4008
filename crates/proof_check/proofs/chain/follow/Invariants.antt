use Rattle.std.proofs.Common.{◌≡◌, drop, take, Some}
use Rattle.std.specs.Prelude.{fold}
use Rattle.cnf_form.specs.Derivation.{chain_clause, resolved_with, older_clauses}
use Rattle.proof_check.proofs.chain.follow.Given as goal

-- what is left of the chain gives the clause of the whole
abbrev pub invariant-loop-place : goal.invariant-loop-place
invariant-loop-place l =
    let older = older_clauses l.clauses (take l.count l.log) in
    fold (resolved_with older) (Some l.buffers.so_far.items) (drop l.place l.chain) ≡ chain_clause older l.chain
