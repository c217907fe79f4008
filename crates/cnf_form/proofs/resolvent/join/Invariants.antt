use Rattle.std.proofs.Common.{◌≡◌, ◌+◌, ◌-◌, ◌≤◌, ◌++◌, length, drop}
use Rattle.cnf_form.specs.Resolvent.{joined}
use Rattle.cnf_form.proofs.resolvent.join.Given as goal

-- what stands, and what is left to join, is the whole
abbrev pub invariant-merge : goal.invariant-merge
invariant-merge l = record {
  left_in : l.i ≤ length l.left;
  right_in : l.j ≤ length l.right;
  few : l.clashes ≤ l.i;
  lits : l.out.items ++ (joined (drop l.i l.left) (drop l.j l.right)).lits ≡ (joined l.left l.right).lits;
  clashes : l.clashes + length (joined (drop l.i l.left) (drop l.j l.right)).clashes ≡ length (joined l.left l.right).clashes;
}

abbrev pub decreases-merge : goal.decreases-merge
decreases-merge l = (length l.left - l.i) + (length l.right - l.j)
