use Rattle.std.proofs.Common.{[], ◌∷◌, sym, ◌∙◌}
use Rattle.ct_pairs.proofs.StartLemmas.{fresh_is, start_bytes, start_pc, start_runs}
use Rattle.ct_pairs.proofs.runs.Runs.split_of.Goals as goal

pub reset_from-requires : goal.reset_from-requires
reset_from-requires c = c.requires.runs.left_bytes ∙ sym (fresh_is c.args.job.now c.args.self.now.fresh c.requires.runs.is_fresh).bytes

pub reset_from-requires-2 : goal.reset_from-requires-2
reset_from-requires-2 c = c.requires.runs.right_bytes ∙ sym (fresh_is c.args.job.now c.args.self.now.fresh c.requires.runs.is_fresh).bytes

pub first_split-requires-clause-left_bytes : goal.first_split-requires-clause-left_bytes
first_split-requires-clause-left_bytes c = start_bytes c.args.job.now [] (c.args.left ∷ []) _ c.place_inputs.ensures

pub first_split-requires-clause-right_bytes : goal.first_split-requires-clause-right_bytes
first_split-requires-clause-right_bytes c = start_bytes c.args.job.now [] (c.args.right ∷ []) _ c.place_inputs-2.ensures

pub first_split-requires-clause-one_pc : goal.first_split-requires-clause-one_pc
first_split-requires-clause-one_pc c =
    start_pc c.args.job.now [] (c.args.left ∷ []) _ c.place_inputs.ensures ∙ sym (start_pc c.args.job.now [] (c.args.right ∷ []) _ c.place_inputs-2.ensures)

pub first_split-requires-clause-left_runs : goal.first_split-requires-clause-left_runs
first_split-requires-clause-left_runs c = start_runs c.args.job.now [] (c.args.left ∷ []) _ c.place_inputs.ensures

pub first_split-requires-clause-right_runs : goal.first_split-requires-clause-right_runs
first_split-requires-clause-right_runs c = start_runs c.args.job.now [] (c.args.right ∷ []) _ c.place_inputs-2.ensures

pub returns-clause-runs : goal.returns-clause-runs
returns-clause-runs c = record {
  is_fresh = c.requires.runs.is_fresh;
  left_bytes = c.first_split.ensures.left_size ∙ start_bytes c.args.job.now [] (c.args.left ∷ []) _ c.place_inputs.ensures;
  right_bytes = c.first_split.ensures.right_size ∙ start_bytes c.args.job.now [] (c.args.right ∷ []) _ c.place_inputs-2.ensures;
}
