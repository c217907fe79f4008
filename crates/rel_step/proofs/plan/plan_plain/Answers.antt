use Rattle.std.proofs.Common.{subst}
use Rattle.rv_decode.specs.declared.instr.Instr.{Instr}
use Rattle.rv_decode.specs.Instructions.{InRange}
use Rattle.rel_step.proofs.plan.plan_plain.Goals as goal

pub plan_lui-requires : goal.plan_lui-requires
plan_lui-requires g c = let P : Instr → Type 0 = InRange in (subst P c.in-Lui.is c.requires.range).0

pub plan_auipc-requires : goal.plan_auipc-requires
plan_auipc-requires g c = let P : Instr → Type 0 = InRange in (subst P c.in-Auipc.is c.requires.range).0

pub plan_jal-requires : goal.plan_jal-requires
plan_jal-requires g c = let P : Instr → Type 0 = InRange in (subst P c.in-Jal.is c.requires.range).0

pub plan_jalr-requires-clause-rd : goal.plan_jalr-requires-clause-rd
plan_jalr-requires-clause-rd g c = let P : Instr → Type 0 = InRange in (subst P c.in-Jalr.is c.requires.range).0

pub plan_jalr-requires-clause-rs1 : goal.plan_jalr-requires-clause-rs1
plan_jalr-requires-clause-rs1 g c = let P : Instr → Type 0 = InRange in (subst P c.in-Jalr.is c.requires.range).1

pub plan_branch-requires-clause-rs1 : goal.plan_branch-requires-clause-rs1
plan_branch-requires-clause-rs1 g c = let P : Instr → Type 0 = InRange in (subst P c.in-Branch.is c.requires.range).0

pub plan_branch-requires-clause-rs2 : goal.plan_branch-requires-clause-rs2
plan_branch-requires-clause-rs2 g c = let P : Instr → Type 0 = InRange in (subst P c.in-Branch.is c.requires.range).1

pub plan_immediate-requires-clause-rd : goal.plan_immediate-requires-clause-rd
plan_immediate-requires-clause-rd g c = let P : Instr → Type 0 = InRange in (subst P c.in-OpImm.is c.requires.range).0

pub plan_immediate-requires-clause-rs1 : goal.plan_immediate-requires-clause-rs1
plan_immediate-requires-clause-rs1 g c = let P : Instr → Type 0 = InRange in (subst P c.in-OpImm.is c.requires.range).1

pub plan_operation-requires-clause-rd : goal.plan_operation-requires-clause-rd
plan_operation-requires-clause-rd g c = let P : Instr → Type 0 = InRange in (subst P c.in-Op.is c.requires.range).0

pub plan_operation-requires-clause-rs1 : goal.plan_operation-requires-clause-rs1
plan_operation-requires-clause-rs1 g c = let P : Instr → Type 0 = InRange in (subst P c.in-Op.is c.requires.range).1

pub plan_operation-requires-clause-rs2 : goal.plan_operation-requires-clause-rs2
plan_operation-requires-clause-rs2 g c = let P : Instr → Type 0 = InRange in (subst P c.in-Op.is c.requires.range).2
