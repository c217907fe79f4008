use Rattle.std.proofs.Common.{◌≡◌, sym, ◌∙◌, arith}
use Rattle.ct_policy.specs.Regions.{is_accessible}
use Rattle.ct_policy.proofs.Covering.{are_held, are_held-end, are_held-not, not_held, above_held, are_held-region, held_after, is_accessible-held}
use Rattle.ct_policy.proofs.region.Region.is_accessible.Goals as goal

pub returns-then-next-ge-MEMORY_END : goal.returns-then-next-ge-MEMORY_END
returns-then-next-ge-MEMORY_END c =
    let accessible = c.args.accessible.now in
    let all : is_accessible accessible c.args.self ≡ are_held accessible c.start-next.result c.end-end.result =
    rw (c.start-next.ensures, c.end-end.ensures) (is_accessible-held accessible c.args.self) in
    sym (all ∙ sym c.loop-next.invariant ∙ are_held-not accessible c.loop-next.next c.end-end.result c.loop-next-test.true (above_held accessible c.loop-next.next c.if-next-ge-MEMORY_END.true))

pub returns-in_default : goal.returns-in_default
returns-in_default c =
    let accessible = c.args.accessible.now in
    let all : is_accessible accessible c.args.self ≡ are_held accessible c.start-next.result c.end-end.result =
    rw (c.start-next.ensures, c.end-end.ensures) (is_accessible-held accessible c.args.self) in
    sym (all ∙ sym c.loop-next.invariant ∙ are_held-not accessible c.loop-next.next c.end-end.result c.loop-next-test.true (not_held accessible c.loop-next.next (sym c.in_default.ensures)))

pub loop-next-smaller : goal.loop-next-smaller
loop-next-smaller c =
    let above = held_after c.args.accessible.now c.loop-next.next c.in-Some.region.now (sym c.in-Some.ensures) in
    omega (arith, above, c.end.ensures, c.min-next.ensures, c.if-next-ge-MEMORY_END.false, c.loop-next-test.true)

pub loop-next-preserved : goal.loop-next-preserved
loop-next-preserved c =
    let step = are_held-region c.args.accessible.now c.loop-next.next c.end-end.result c.in-Some.region.now (sym c.in-Some.ensures) c.if-next-ge-MEMORY_END.false in
    rw (c.min-next.ensures, c.end.ensures) (sym step ∙ c.loop-next.invariant)

pub returns : goal.returns
returns c =
    let accessible = c.args.accessible.now in
    let all : is_accessible accessible c.args.self ≡ are_held accessible c.start-next.result c.end-end.result =
    rw (c.start-next.ensures, c.end-end.ensures) (is_accessible-held accessible c.args.self) in
    sym (all ∙ sym c.loop-next.invariant ∙ are_held-end accessible c.loop-next.next c.end-end.result c.loop-next-test.false)
