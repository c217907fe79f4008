use Rattle.std.proofs.Common.{◌≡◌, sym, ap, ◌∙◌, ◌+◌}
use Rattle.rv_image.specs.Image.{allowed_at}
use Rattle.rv_machine.specs.Step.{wrapped}
use Rattle.rel_memory.specs.Contents.{Contents}
use Rattle.rel_memory.proofs.SpanLaws.{one_refused, one_allowed, none_left}
use Rattle.rel_memory.proofs.rel_memory.RelMemory.all_allowed.Goals as goal

pub returns-then-not-allows : goal.returns-then-not-allows
returns-then-not-allows c =
    let here : c.allows.result ≡ allowed_at c.args.right c.args.self.now.image (wrapped (c.args.address + c.loop-i.i)) =
    c.allows.ensures ∙ ap (λ (m : Contents). allowed_at c.args.right m.image (wrapped (c.args.address + c.loop-i.i))) c.self.view_is in
    sym (one_refused (allowed_at c.args.right c.args.self.now.image) c.args.address c.args.bytes c.loop-i.i c.loop-i.invariant c.loop-i-test.true (sym here ∙ c.if-not-allows.true))

pub loop-i-preserved : goal.loop-i-preserved
loop-i-preserved c =
    let here : c.allows.result ≡ allowed_at c.args.right c.args.self.now.image (wrapped (c.args.address + c.loop-i.i)) =
    c.allows.ensures ∙ ap (λ (m : Contents). allowed_at c.args.right m.image (wrapped (c.args.address + c.loop-i.i))) c.self.view_is in
    one_allowed (allowed_at c.args.right c.args.self.now.image) c.args.address c.args.bytes c.loop-i.i c.loop-i.invariant c.loop-i-test.true (sym here ∙ c.if-not-allows.false)

pub returns : goal.returns
returns c = sym (none_left (allowed_at c.args.right c.args.self.now.image) c.args.address c.args.bytes c.loop-i.i c.loop-i.invariant c.loop-i-test.false)
