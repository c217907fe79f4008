use Rattle.std.proofs.Common.{◌≡◌, length, arith}
use Rattle.path_run.proofs.OnwardLaws.{stepped_kept, none_popped}
use Rattle.path_run.proofs.onward.ask_next.Goals as goal

pub settle-requires-clause-stepped : goal.settle-requires-clause-stepped
settle-requires-clause-stepped c =
    let none : length c.args.ways.rest.items ≡ 0 = omega (arith, c.args.ways.rest.ok.0, c.in-None.ensures.cases.0) in
    stepped_kept c.args.job.now c.args.course c.args.node c.args.ways.kept.items c.args.ways.ends c.args.ways.doubts c.args.ways.rest.items (none_popped c.args.ways.rest.items none) c.requires.split c.requires.keeping
