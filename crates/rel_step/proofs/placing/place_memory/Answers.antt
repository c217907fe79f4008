use Rattle.rel_step.proofs.PlacingLaws.{accessible, placed_memory}
use Rattle.rel_step.proofs.placing.place_memory.Goals as goal

pub preset-requires-clause-accessible : goal.preset-requires-clause-accessible
preset-requires-clause-accessible c = accessible _ _ c.requires.place

pub returns : goal.returns
returns c =
    let put = c.in_ok-preset.ensures in
    placed_memory _ c.args.here.now c.args.address c.args.held _ c.requires.here put.put.image put.numbers put.memory put.meaning
