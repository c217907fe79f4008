use Rattle.std.proofs.Common.{[], ◌∷◌, sym, ◌∙◌}
use Rattle.ct_pairs.proofs.StartLemmas.{fresh_is, start_bytes}
use Rattle.ct_pairs.proofs.runs.Runs.nexts_of.Goals as goal

pub reset_from-requires : goal.reset_from-requires
reset_from-requires c = c.requires.runs.left_bytes ∙ sym (fresh_is c.args.job.now c.args.self.now.fresh c.requires.runs.is_fresh).bytes

pub list_nexts-requires : goal.list_nexts-requires
list_nexts-requires c = start_bytes c.args.job.now [] (c.args.value ∷ []) _ c.place_inputs.ensures

pub returns-clause-runs : goal.returns-clause-runs
returns-clause-runs c = record {
  is_fresh = c.requires.runs.is_fresh;
  left_bytes = c.list_nexts.ensures.size ∙ start_bytes c.args.job.now [] (c.args.value ∷ []) _ c.place_inputs.ensures;
  right_bytes = c.requires.runs.right_bytes;
}
