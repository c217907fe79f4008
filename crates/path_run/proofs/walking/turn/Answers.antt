use Rattle.std.proofs.Common.{◌∙◌, sym, ap, subst}
use Rattle.path_run.specs.declared.record_of.RecordOf.{RecordOf}
use Rattle.path_run.specs.Telling.{HaveSpentLogs}
use Rattle.path_run.proofs.LeakLaws.{at_none}
use Rattle.path_run.proofs.StandLaws.{doubts_nowhere}
use Rattle.path_run.proofs.ReplayLaws.{nowhere_done}
use Rattle.path_run.proofs.walking.turn.Goals as goal

pub returns-in_ok-record-in-None-clause-turn : goal.returns-in_ok-record-in-None-clause-turn
returns-in_ok-record-in-None-clause-turn g c = (
  nowhere_done c.args.job.now c.args.walk.course c.in_ok-record-in-None.record c.in_ok-record-in-None.ensures (at_none c.args.walk.stand _ _ c.in-None.is c.requires.walk),
  λ budget spent. subst (HaveSpentLogs budget) (sym (ap (λ (r : RecordOf). r.listed) c.in_ok-record-in-None.ensures)) spent,
  ap (λ (r : RecordOf). r.doubts) c.in_ok-record-in-None.ensures ∙ sym (doubts_nowhere c.args.walk c.in-None.is),
)
