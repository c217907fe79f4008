use Rattle.std.specs.Ordering.{nat_cmp}
use Rattle.std.specs.BTreeMap.{get}
use Rattle.ct_pairs.specs.Runs.{AreRuns}
use Rattle.ct_pairs.specs.Survey.{SplitAt, value_trail, IsMet}
use Rattle.ct_pairs.proofs.survey.meet.Given as goal

-- the representatives so far are met
abbrev pub invariant-loop-left : goal.invariant-loop-left
invariant-loop-left l = record {
  runs : AreRuns l.job l.runs;
  met : IsMet SplitAt (value_trail l.job) l.representatives l.left-index l.value (get nat_cmp l.leaks);
}
