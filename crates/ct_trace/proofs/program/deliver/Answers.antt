use Rattle.std.proofs.Common.{sym, subst}
use Rattle.ct_main.specs.Tasks.{WroteMade}
use Rattle.ct_trace.proofs.Answering.{wrote_by}
use Rattle.ct_trace.proofs.program.deliver.Goals as goal

pub returns : goal.returns
returns g c = record {
  made = c.show_task.result;
  shown = c.show_task.ensures;
  wrote = subst (WroteMade _ c.show_task.result) (sym c.err.ensures.value) (wrote_by _ c.show_task.result c.write_made.result c.write_made.ensures.whole c.write_made.ensures.failed);
}
