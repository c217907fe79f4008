use Rattle.std.proofs.Common.{List, ℕ, ap, ◌∙◌}
use Rattle.ct_pairs.specs.Different.{with_new}
use Rattle.ct_pairs.proofs.SurveyLemmas.{surveyed-same, surveyed-more}
use Rattle.ct_pairs.proofs.survey.survey_value.Goals as goal

pub returns-then-branch-clause-surveyed : goal.returns-then-branch-clause-surveyed
returns-then-branch-clause-surveyed c =
    let (v, below, same) = c.in_ok-meet.ensures.known c.if-branch.true in
    surveyed-same c.args.job.now c.args.value v c.args.survey.now.representatives.items c.args.survey.now.leaks c.meet.new.leaks c.args.survey.now.paths.keys c.requires.surveyed below same c.in_ok-meet.ensures.splits c.in_ok-meet.ensures.covers

pub returns-clause-surveyed : goal.returns-clause-surveyed
returns-clause-surveyed c =
    let old = c.args.survey.now in
    rw c.in_ok-push.ensures.items (surveyed-more c.args.job.now c.args.value old.representatives.items old.leaks c.meet.new.leaks old.paths.keys c.note_path.new.paths.keys c.requires.surveyed (c.in_ok-note_path.ensures ∙ ap (λ (path : List ℕ). with_new old.paths.keys path) (c.from_vec.ensures ∙ c.in_ok-path.ensures.nexts)) c.in_ok-meet.ensures.splits c.in_ok-meet.ensures.covers)
