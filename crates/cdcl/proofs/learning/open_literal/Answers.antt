use Rattle.std.proofs.Common.{◌≡◌, true, false, List, sym, subst}
use Rattle.std.proofs.lemmas.List.{take_all}
use Rattle.cnf_form.specs.declared.lit.Lit.{Lit}
use Rattle.cnf_form.specs.Literals.{has}
use Rattle.cdcl.specs.Jump.{IsLower}
use Rattle.cdcl.proofs.GivenLaws.{has-at, below-at, has-next}
use Rattle.cdcl.proofs.LearnLaws.{some_open}
use Rattle.cdcl.proofs.learning.open_literal.Goals as goal

abbrev blank : Lit
blank = record { var = 0; negated = false }

pub is_below-requires : goal.is_below-requires
is_below-requires c = below-at c.args.trail.now.vars c.args.lits.now c.loop-lit.lit-index blank c.requires.in_range c.loop-lit-test.true

pub returns-then-not-is_below : goal.returns-then-not-is_below
returns-then-not-is_below c = record {
  of_clause = has-at c.args.lits.now c.loop-lit.lit-index blank c.loop-lit-test.true;
  open_below = c.if-not-is_below.ensures;
}

pub loop-lit-preserved : goal.loop-lit-preserved
loop-lit-preserved c = has-next (IsLower c.args.trail.now.entries) c.args.lits.now c.loop-lit.lit-index blank c.loop-lit-test.true c.loop-lit.invariant c.if-not-is_below.ensures

pub unreachable-requires : goal.unreachable-requires
unreachable-requires c =
    let all = take_all c.loop-lit.lit-index c.args.lits.now c.loop-lit-test.false in
    some_open c.args.trail.now.entries c.args.lits.now c.requires.learnt (λ k h. c.loop-lit.invariant k (subst (λ (ls : List Lit). has ls k ≡ true) (sym all) h))
