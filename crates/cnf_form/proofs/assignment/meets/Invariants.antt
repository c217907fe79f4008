use Rattle.std.proofs.Common.{◌≡◌, true, take}
use Rattle.cnf_form.specs.Solutions.{are_met}
use Rattle.cnf_form.proofs.assignment.meets.Given as goal

-- the clauses so far are met
abbrev pub invariant-loop-number : goal.invariant-loop-number
invariant-loop-number l = are_met l.found.values (take l.number l.cnf.clauses) ≡ true
