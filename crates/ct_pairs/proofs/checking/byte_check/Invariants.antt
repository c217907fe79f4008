use Rattle.ct_pairs.specs.Runs.{AreRuns}
use Rattle.ct_pairs.specs.Survey.{IsSurveyed}
use Rattle.ct_pairs.proofs.checking.byte_check.Given as goal

-- the values so far are taken up
abbrev pub invariant-loop-value : goal.invariant-loop-value
invariant-loop-value l = record {
  runs : AreRuns l.job l.runs;
  surveyed : IsSurveyed l.job l.value l.survey.representatives.items l.survey.leaks l.survey.paths.keys;
}
