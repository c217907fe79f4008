-- What the word at a pc does.
use Rattle.std.proofs.Common.{◌≡◌, ◌≢◌, ℕ, Bool, true, false, cond, Option, Some, None, ◌∙◌, ap}
use Rattle.std.specs.Prelude.{◌==◌}
use Rattle.std.specs.List.{list_any}
use Rattle.rv_image.specs.Image.{fetch_at}
use Rattle.rv_decode.specs.declared.instr.Instr.{Instr}
use Rattle.rv_decode.specs.declared.instr.Instr.TheVariants.{Call, Break}
use Rattle.rv_decode.specs.Instructions.{instruction_of, InRange}
use Rattle.rv_machine.specs.State.{State}
use Rattle.rv_machine.specs.Step.{step, live_step, fetched_step, decoded_step, perform, ends}
use Rattle.rv_machine.specs.declared.end.End.TheVariants as endings
use Rattle.rv_machine.proofs.StepLaws.{step_of_live}
use Rattle.ct_pairs.specs.declared.job.Job.{Job}
use Rattle.rel_step.specs.PathNodes.{IsInstruction, EndsAt}

module _ (job : Job) (pc : ℕ) where
  -- whether a run stops at the pc
  abbrev pub stops_here : Bool
  stops_here = list_any (λ stop. stop == pc) job.stops

  at_pc : (s : State) (b : Bool) → stops_here ≡ b → s.pc ≡ pc → list_any (λ stop. stop == s.pc) job.stops ≡ b
  at_pc s b h at = ap (λ p. list_any (λ stop. stop == p) job.stops) at ∙ h

  pub ends_stop : stops_here ≡ true → EndsAt job pc endings.Stop
  unfolding live_step
  ends_stop h s at live =
      step_of_live job.image job.stops s live ∙ ap (λ b. cond b (ends s endings.Stop) (fetched_step job.image s (fetch_at job.image s.pc))) (at_pc s true h at)

  fetches : (o : Option ℕ) → stops_here ≡ false → fetch_at job.image pc ≡ o → (s : State) → s.pc ≡ pc → s.ending ≡ None → step job.image job.stops s ≡ fetched_step job.image s o
  unfolding live_step
  fetches o h f s at live =
      step_of_live job.image job.stops s live ∙ ap (λ b. cond b (ends s endings.Stop) (fetched_step job.image s (fetch_at job.image s.pc))) (at_pc s false h at) ∙ ap (fetched_step job.image s) (ap (fetch_at job.image) at ∙ f)

  pub ends_bad_fetch : stops_here ≡ false → fetch_at job.image pc ≡ None → EndsAt job pc endings.BadFetch
  unfolding fetched_step
  ends_bad_fetch h f s at live = fetches None h f s at live

  module _ (word : ℕ) (no_stop : stops_here ≡ false) (fetched : fetch_at job.image pc ≡ Some word) where
    decodes : (o : Option Instr) → instruction_of word ≡ o → (s : State) → s.pc ≡ pc → s.ending ≡ None → step job.image job.stops s ≡ decoded_step job.image s o
    unfolding fetched_step
    decodes o d s at live = fetches (Some word) no_stop fetched s at live ∙ ap (decoded_step job.image s) d

    pub ends_illegal : instruction_of word ≡ None → EndsAt job pc endings.Illegal
    unfolding decoded_step
    ends_illegal d s at live = decodes None d s at live

    performs : (instr : Instr) → instruction_of word ≡ Some instr → (s : State) → s.pc ≡ pc → s.ending ≡ None → step job.image job.stops s ≡ perform job.image s instr
    unfolding decoded_step
    performs instr d s at live = decodes (Some instr) d s at live

    pub ends_call : instruction_of word ≡ Some Call → EndsAt job pc endings.Call
    unfolding perform
    ends_call d s at live = performs Call d s at live

    pub ends_break : instruction_of word ≡ Some Break → EndsAt job pc endings.Call
    unfolding perform
    ends_break d s at live = performs Break d s at live

    pub is_instruction : (instr : Instr) → instruction_of word ≡ Some instr → InRange instr → instr ≢ Call → instr ≢ Break → IsInstruction job pc instr
    is_instruction instr d range no_call no_break = record { range = range; no_call = no_call; no_break = no_break; performs = performs instr d }
