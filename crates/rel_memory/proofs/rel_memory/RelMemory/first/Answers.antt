use Rattle.std.proofs.Common.{◌≡◌, Some, sym, ap, ◌∙◌}
use Rattle.rel_memory.specs.Contents.{Contents, kept_at}
use Rattle.rel_memory.proofs.Writing.{IsFirst-kept}
use Rattle.rel_memory.proofs.rel_memory.RelMemory.first.Goals as goal

pub returns-in-Some-clause-first : goal.returns-in-Some-clause-first
returns-in-Some-clause-first c =
    let is : kept_at c.args.self.now c.args.at ≡ Some c.in-Some.kept.now = ap (λ (m : Contents). kept_at m c.args.at) (sym c.self.view_is) ∙ sym c.in-Some.ensures.value in
    IsFirst-kept c.args.arena.now c.args.self.now c.args.at c.in-Some.kept.now c.requires is
