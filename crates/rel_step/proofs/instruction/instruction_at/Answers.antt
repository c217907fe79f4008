use Rattle.std.proofs.Common.{◌∙◌, ◌==◌, ap, sym, Some}
use Rattle.std.specs.List.{list_any}
use Rattle.rel_step.proofs.InstructionLaws.{ends_stop, ends_bad_fetch, ends_illegal, ends_call, ends_break, is_instruction}
use Rattle.rel_step.proofs.instruction.instruction_at.Goals as goal

pub returns-then-contains : goal.returns-then-contains
returns-then-contains c =
    let pc = c.args.pc in
    ends_stop c.args.job.now pc (ap (λ xs. list_any (λ s. s == pc) xs) (sym c.as_slice.ensures) ∙ sym c.contains.ensures.value ∙ c.if-contains.true)

pub returns-in-None : goal.returns-in-None
returns-in-None c =
    let pc = c.args.pc in
    ends_bad_fetch c.args.job.now pc (ap (λ xs. list_any (λ s. s == pc) xs) (sym c.as_slice.ensures) ∙ sym c.contains.ensures.value ∙ c.if-contains.false) (sym c.in-None.ensures)

pub returns-in-None-decode : goal.returns-in-None-decode
returns-in-None-decode c =
    let pc = c.args.pc in
    ends_illegal c.args.job.now pc c.in-Some.word (ap (λ xs. list_any (λ s. s == pc) xs) (sym c.as_slice.ensures) ∙ sym c.contains.ensures.value ∙ c.if-contains.false) (sym c.in-Some.ensures) (sym c.in-None-decode.ensures.value)

pub returns-in-Call : goal.returns-in-Call
returns-in-Call c =
    let pc = c.args.pc in
    ends_call c.args.job.now pc c.in-Some.word (ap (λ xs. list_any (λ s. s == pc) xs) (sym c.as_slice.ensures) ∙ sym c.contains.ensures.value ∙ c.if-contains.false) (sym c.in-Some.ensures) (sym c.in-Some-decode.ensures.value ∙ ap Some c.in-Call.is)

pub returns-in-Break : goal.returns-in-Break
returns-in-Break c =
    let pc = c.args.pc in
    ends_break c.args.job.now pc c.in-Some.word (ap (λ xs. list_any (λ s. s == pc) xs) (sym c.as_slice.ensures) ∙ sym c.contains.ensures.value ∙ c.if-contains.false) (sym c.in-Some.ensures) (sym c.in-Some-decode.ensures.value ∙ ap Some c.in-Break.is)

pub returns-in_default : goal.returns-in_default
returns-in_default c =
    let pc = c.args.pc in
    is_instruction c.args.job.now pc c.in-Some.word (ap (λ xs. list_any (λ s. s == pc) xs) (sym c.as_slice.ensures) ∙ sym c.contains.ensures.value ∙ c.if-contains.false) (sym c.in-Some.ensures) c.in-Some-decode.instr (sym c.in-Some-decode.ensures.value) c.in-Some-decode.ensures.in_range c.in_default.not-Call c.in_default.not-Break
