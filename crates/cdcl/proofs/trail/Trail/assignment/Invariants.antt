use Rattle.std.proofs.Common.{◌≡◌, length}
use Rattle.cdcl.specs.Marks.{AreValues}
use Rattle.cdcl.specs.Trail.{lits_of}
use Rattle.cdcl.proofs.trail.Trail.assignment.Given as goal

abbrev pub invariant-loop-var : goal.invariant-loop-var
invariant-loop-var l = record {
  count : length l.values.items ≡ l.var;
  values : AreValues l.var (lits_of l.self.entries) l.values.items;
}
