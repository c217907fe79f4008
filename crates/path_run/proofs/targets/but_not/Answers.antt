use Rattle.std.proofs.Common.{◌≡◌, ◌==◌, if◌then◌else◌, ℕ, ◌∙◌, ap}
use Rattle.ct_words.specs.Words.{flag, test_value}
use Rattle.rel_step.specs.PathNodes.{IsNode}
use Rattle.path_run.proofs.targets.but_not.Goals as goal

pub returns-in_err-both-clause-node : goal.returns-in_err-both-clause-node
returns-in_err-both-clause-node c =
    c.build-4.ensures.node c.args.job.now (c.build-3.ensures.node c.args.job.now (c.build-2.ensures.node c.args.job.now (c.build.ensures.node c.args.job.now c.requires.node (λ variable e. cc)) (λ variable e. cc)) (λ variable e. cc)) (λ variable e. cc)

pub returns-clause-node : goal.returns-clause-node
returns-clause-node c =
    c.build-4.ensures.node c.args.job.now (c.build-3.ensures.node c.args.job.now (c.build-2.ensures.node c.args.job.now (c.build.ensures.node c.args.job.now c.requires.node (λ variable e. cc)) (λ variable e. cc)) (λ variable e. cc)) (λ variable e. cc)

pub returns-clause-value : goal.returns-clause-value
unfolding test_value
returns-clause-value c = λ env v at.
    let at3 = c.build-4.ensures.extends.values env v at in
    let at2 = c.build-3.ensures.extends.values env v at3 in
    let at1 = c.build-2.ensures.extends.values env v at2 in
    c.in_ok-both.ensures.built.value env v at
    ∙ ap (λ (y : ℕ). if v c.args.others.0 == 0 then 0 else y) (c.in_ok-other.ensures.built.value env v at3
    ∙ ap (λ (y : ℕ). flag (y == 0)) (c.in_ok-same.ensures.built.value env v at2 ∙ ap (λ (n : ℕ). flag (v c.args.target.0 == n)) (c.in_ok-number.ensures.built.value env v at1)))
