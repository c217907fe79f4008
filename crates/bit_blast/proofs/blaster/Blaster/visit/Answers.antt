use Rattle.bit_blast.proofs.Visits.{Visiting-start, Visiting-at, Visiting-next, Visiting-end}
use Rattle.bit_blast.proofs.blaster.Blaster.visit.Goals as goal

pub loop-next-init : goal.loop-next-init
loop-next-init g c =
    let (typed, (inside, (needed, blasting))) = c.requires in
    Visiting-start c.args.nodes.now g.roots c.args.self.now c.new-below.result.items c.args.root c.start-next.result blasting inside needed c.new-below.ensures.items c.start-next.ensures

pub step-requires : goal.step-requires
step-requires g c = (c.requires.0, Visiting-at c.args.nodes.now g.roots c.args.self.now c.loop-next.self c.loop-next.below.items c.args.root c.in-Some.top c.loop-next.next c.loop-next.invariant c.in-Some.is)

pub loop-next-preserved : goal.loop-next-preserved
loop-next-preserved g c =
    let step = c.in_ok-next.ensures in
    Visiting-next c.args.nodes.now g.roots c.args.self.now c.loop-next.self c.step.new.self c.loop-next.below.items c.step.new.below.items c.args.root c.in-Some.top c.loop-next.next c.in_ok-next.next c.loop-next.invariant c.in-Some.is
    step.blasting step.kept step.moves step.needed

pub returns-clause-blasting : goal.returns-clause-blasting
returns-clause-blasting g c = c.loop-next.invariant.blasting

pub returns-clause-kept : goal.returns-clause-kept
returns-clause-kept g c = c.loop-next.invariant.kept

pub returns-clause-word : goal.returns-clause-word
returns-clause-word g c = Visiting-end c.args.nodes.now g.roots c.args.self.now c.loop-next.self c.loop-next.below.items c.args.root c.loop-next.next c.loop-next.invariant c.in_default.not-Some
