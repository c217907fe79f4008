use Rattle.std.proofs.Common.{ℕ, List, None, Some, Result, Ok, Err, IfErr, OnOk, refl, sym, subst}
use Rattle.std.specs.Result.{result_err}
use Rattle.std.specs.declared.alloc.AllocError.{AllocError}
use Rattle.ct_main.specs.declared.refusal.Refusal.{Refusal}
use Rattle.ct_main.specs.Outside.{Writing}
use Rattle.ct_main.specs.Tasks.{WroteMade}
use Rattle.ct_main.proofs.program.deliver.Goals as goal

-- what was written, by the refusal that a result stands for
wrote_of_result : {T : Type 0} (writing : Writing) (text : Result (List ℕ) AllocError) (result : Result T Refusal) → OnOk result (WroteMade writing text None) → IfErr result (λ refusal. WroteMade writing text (Some refusal)) → WroteMade writing text (result_err result)
wrote_of_result writing text (Ok done) whole failed = whole
wrote_of_result writing text (Err refusal) whole failed = failed

pub returns : goal.returns
returns g c =
    let wrote = wrote_of_result _ c.by_task-status.result.text c.write_made.result c.write_made.ensures.whole c.write_made.ensures.failed in
    rw c.ended.ensures (record {
      made = c.by_task-status.result;
      done = c.by_task-status.ensures;
      outcome_is = refl;
      status_is = refl;
      wrote = subst (WroteMade _ c.by_task-status.result.text) (sym c.err-refusal.ensures.value) wrote;
    })
