use Rattle.std.proofs.Common.{rules}
use Rattle.ct_pairs.specs.Start.{fresh}
use Rattle.ct_pairs.proofs.StartLemmas.{start_pc, start_runs, start_bytes}
use Rattle.ct_pairs.proofs.starting.start_machine.Goals as goal

pub place_inputs-requires-clause-fresh : goal.place_inputs-requires-clause-fresh
unfolding fresh
place_inputs-requires-clause-fresh c = search rules

pub returns-clause-pc : goal.returns-clause-pc
returns-clause-pc c = start_pc c.args.job.now c.args.shared.now c.args.secret.now _ c.place_inputs.ensures

pub returns-clause-runs : goal.returns-clause-runs
returns-clause-runs c = start_runs c.args.job.now c.args.shared.now c.args.secret.now _ c.place_inputs.ensures

pub returns-clause-bytes : goal.returns-clause-bytes
returns-clause-bytes c = start_bytes c.args.job.now c.args.shared.now c.args.secret.now _ c.place_inputs.ensures
