use Rattle.std.proofs.Common.{ap, sym, ◌∙◌, arith}
use Rattle.std.proofs.lemmas.Grind.{same_number_lists}
use Rattle.rv_machine.specs.State.{State}
use Rattle.ct_pairs.proofs.placing.write_registers.Goals as goal

pub returns : goal.returns
returns c =
    let all = same_number_lists c.loop-reg.machine.registers c.args.registers.now (c.loop-reg.invariant.count ∙ sym c.requires.count) (λ k within. c.loop-reg.invariant.written k (omega (arith, within))) in
    c.loop-reg.invariant.rest ∙ ap (λ registers. let s : State = record c.args.machine.now { registers = registers } in s) all
