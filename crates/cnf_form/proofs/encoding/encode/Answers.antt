use Rattle.std.proofs.Common.{◌∙◌, arith, refl, true, false}
use Rattle.cnf_form.proofs.EncodingLaws.{Walking-skip, Walking-more, popped-inside, seen_as, smaller, empty_of, finished}
use Rattle.cnf_form.proofs.encoding.encode.Goals as goal

pub loop-gate-preserved-then-index : goal.loop-gate-preserved-then-index
loop-gate-preserved-then-index c =
    let was = c.loop-gate.invariant.walking in
    let lt = popped-inside _ _ _ _ _ _ _ was c.in-Some.ensures.items in
    record {
      vars = c.loop-gate.invariant.vars;
      walking = Walking-skip _ _ _ _ _ _ _ was c.in-Some.ensures.items (seen_as c.loop-gate.seen.items c.in-Some.gate c.index.result.now true (omega (arith, lt, was.wide)) c.index.ensures c.if-index.true);
    }

pub index_mut-requires : goal.index_mut-requires
index_mut-requires c = omega (arith, popped-inside _ _ _ _ _ _ _ c.loop-gate.invariant.walking c.in-Some.ensures.items, c.loop-gate.invariant.walking.wide)

pub push_gate-requires-clause-gate : goal.push_gate-requires-clause-gate
push_gate-requires-clause-gate c = popped-inside _ _ _ _ _ _ _ c.loop-gate.invariant.walking c.in-Some.ensures.items

pub loop-gate-smaller : goal.loop-gate-smaller
loop-gate-smaller c =
    let was = c.loop-gate.invariant.walking in
    let lt = popped-inside _ _ _ _ _ _ _ was c.in-Some.ensures.items in
    smaller _ _ _ _ _ _ lt was.wide (seen_as c.loop-gate.seen.items c.in-Some.gate c.index.result.now false (omega (arith, lt, was.wide)) c.index.ensures c.if-index.false) c.in-Some.ensures.items c.in_ok-push_gate.ensures.below

pub loop-gate-preserved : goal.loop-gate-preserved
loop-gate-preserved c =
    let was = c.loop-gate.invariant.walking in
    record {
      vars = c.in_ok-push_gate.ensures.vars ∙ c.loop-gate.invariant.vars;
      walking = Walking-more _ _ _ _ _ _ _ _ _ _ c.net_law.ensures.net was c.in-Some.ensures.items (popped-inside _ _ _ _ _ _ _ was c.in-Some.ensures.items) refl c.in_ok-push_gate.ensures.written c.in_ok-push_gate.ensures.below;
    }

pub returns-clause-solutions : goal.returns-clause-solutions
returns-clause-solutions c = finished _ _ _ _ _ c.net_law.ensures.net c.requires c.loop-gate.invariant.walking (empty_of _ (omega (arith, c.in_default.ensures.cases.0)))
