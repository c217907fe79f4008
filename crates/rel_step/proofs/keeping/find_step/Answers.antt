use Rattle.std.proofs.Common.{arith}
use Rattle.bv_expr.proofs.Growing.{Extends-then, AddsNoInput-then}
use Rattle.bv_range.proofs.Walks.{AreRight-later}
use Rattle.rel_step.proofs.AheadLaws.{planned_bit, found_for}
use Rattle.rel_step.proofs.keeping.find_step.Goals as goal

pub keep-requires : goal.keep-requires
keep-requires g c = record { bit = planned_bit _ c.args.here.now c.args.instr c.in_ok-planned.planned c.in_ok-planned.ensures.planned }

pub returns-clause-found : goal.returns-clause-found
returns-clause-found g c = found_for _ _ 1 c.args.here.now c.args.instr c.in_ok-planned.planned _ _ c.in_ok-planned.ensures.planned c.in_ok-both.ensures.extends c.in_ok-both.ensures.kept c.in_ok-both.ensures.tells

pub returns-clause-extends : goal.returns-clause-extends
returns-clause-extends g c = Extends-then _ _ _ _ 1 _ c.in_ok-planned.ensures.extends c.in_ok-both.ensures.extends (omega arith)

pub returns-clause-no_input : goal.returns-clause-no_input
returns-clause-no_input g c = AddsNoInput-then _ _ _ c.in_ok-planned.ensures.no_input c.in_ok-both.ensures.no_input

pub returns-clause-ranges : goal.returns-clause-ranges
returns-clause-ranges g c = AreRight-later _ _ _ 1 c.in_ok-both.ensures.extends c.in_ok-planned.ensures.ranges

pub returns-in_err-both-clause-extends : goal.returns-in_err-both-clause-extends
returns-in_err-both-clause-extends g c = Extends-then _ _ _ _ 1 _ c.in_ok-planned.ensures.extends c.in_err-both.ensures.extends (omega arith)

pub returns-in_err-both-clause-no_input : goal.returns-in_err-both-clause-no_input
returns-in_err-both-clause-no_input g c = AddsNoInput-then _ _ _ c.in_ok-planned.ensures.no_input c.in_err-both.ensures.no_input

pub returns-in_err-both-clause-ranges : goal.returns-in_err-both-clause-ranges
returns-in_err-both-clause-ranges g c = AreRight-later _ _ _ 1 c.in_err-both.ensures.extends c.in_ok-planned.ensures.ranges
