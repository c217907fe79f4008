use Rattle.std.proofs.Common.{ℕ, ◌++◌, ◌∷◌, [], ◌∙◌, refl, ap, slice_index}
use Rattle.path_run.proofs.DealtLaws.{dealt_secret_at, dealt_public_at}
use Rattle.path_run.proofs.pairs.deal.Goals as goal

pub returns-in_ok-push-2 : goal.returns-in_ok-push-2
returns-in_ok-push-2 c =
    dealt_secret_at (slice_index c.args.values.now.0) c.args.count c.args.job.now.inputs c.as_slice.result.now _ c.args.dealt.now _ c.as_slice.ensures c.requires.inside c.if-input.true c.requires.dealt refl
    (c.in_ok-push.ensures.items ∙ ap (λ (x : ℕ). c.args.dealt.now.left.items ++ x ∷ []) c.byte.ensures) (c.in_ok-push-2.ensures.items ∙ ap (λ (x : ℕ). c.args.dealt.now.right.items ++ x ∷ []) c.byte-then-input.ensures)

pub returns-in_ok-push-3 : goal.returns-in_ok-push-3
returns-in_ok-push-3 c =
    dealt_public_at (slice_index c.args.values.now.0) c.args.count c.args.job.now.inputs c.as_slice.result.now _ c.args.dealt.now _ c.as_slice.ensures c.requires.inside c.if-input.false c.requires.dealt
    (c.in_ok-push-3.ensures.items ∙ ap (λ (x : ℕ). c.args.dealt.now.shared.items ++ x ∷ []) c.byte-else-input.ensures) refl refl
