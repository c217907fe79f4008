use Rattle.std.proofs.Common.{subst, arith}
use Rattle.rv_decode.specs.declared.instr.Instr.{Instr}
use Rattle.rv_decode.specs.Instructions.{InRange}
use Rattle.bv_range.proofs.Walks.{AreRight-later}
use Rattle.rel_step.proofs.Plain.{plain_of, within_step}
use Rattle.rel_step.proofs.plan.plan.Goals as goal

pub plan_plain-requires-clause-plain : goal.plan_plain-requires-clause-plain
plan_plain-requires-clause-plain g c = plain_of c.args.instr c.in_default.not-Load c.in_default.not-Store c.requires.no_call c.requires.no_break

pub plan_load-requires-clause-rd : goal.plan_load-requires-clause-rd
plan_load-requires-clause-rd g c = let P : Instr → Type 0 = InRange in (subst P c.in-Load.is c.requires.range).0

pub plan_load-requires-clause-rs1 : goal.plan_load-requires-clause-rs1
plan_load-requires-clause-rs1 g c = let P : Instr → Type 0 = InRange in (subst P c.in-Load.is c.requires.range).1

pub plan_load-requires-clause-size : goal.plan_load-requires-clause-size
plan_load-requires-clause-size g c = let P : Instr → Type 0 = InRange in (subst P c.in-Load.is c.requires.range).3

pub plan_store-requires-clause-rs1 : goal.plan_store-requires-clause-rs1
plan_store-requires-clause-rs1 g c = let P : Instr → Type 0 = InRange in (subst P c.in-Store.is c.requires.range).0

pub plan_store-requires-clause-rs2 : goal.plan_store-requires-clause-rs2
plan_store-requires-clause-rs2 g c = let P : Instr → Type 0 = InRange in (subst P c.in-Store.is c.requires.range).1

pub plan_store-requires-clause-size : goal.plan_store-requires-clause-size
plan_store-requires-clause-size g c = let P : Instr → Type 0 = InRange in (subst P c.in-Store.is c.requires.range).3

pub returns-in_err-planned-in_default-clause-extends : goal.returns-in_err-planned-in_default-clause-extends
returns-in_err-planned-in_default-clause-extends g c = within_step c.args.arena.now c.plan_plain.new.arena 128 c.args.here.now c.in_err-planned-in_default.ensures.extends (omega arith)

pub returns-in_err-planned-in_default-clause-ranges : goal.returns-in_err-planned-in_default-clause-ranges
returns-in_err-planned-in_default-clause-ranges g c = AreRight-later c.args.arena.now c.plan_plain.new.arena c.args.ranges.now 128 c.in_err-planned-in_default.ensures.extends c.requires.ranges

pub returns-in_ok-planned-in_default-clause-extends : goal.returns-in_ok-planned-in_default-clause-extends
returns-in_ok-planned-in_default-clause-extends g c = within_step c.args.arena.now c.plan_plain.new.arena 128 c.args.here.now c.in_ok-planned-in_default.ensures.extends (omega arith)

pub returns-in_ok-planned-in_default-clause-ranges : goal.returns-in_ok-planned-in_default-clause-ranges
returns-in_ok-planned-in_default-clause-ranges g c = AreRight-later c.args.arena.now c.plan_plain.new.arena c.args.ranges.now 128 c.in_ok-planned-in_default.ensures.extends c.requires.ranges
