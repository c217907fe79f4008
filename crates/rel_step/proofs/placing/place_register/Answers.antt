use Rattle.rel_step.proofs.PlacingLaws.{read_word, placed_register}
use Rattle.rel_step.proofs.placing.place_register.Goals as goal

pub replace_both-requires-clause-word : goal.replace_both-requires-clause-word
replace_both-requires-clause-word c = read_word _ _ _ _ c.get-word.ensures c.requires.here.words

pub returns : goal.returns
returns c =
    let given = c.in_ok-replaced.ensures in
    placed_register _ _ c.args.here.now c.args.reg c.args.byte c.args.held c.get-word.result c.in_ok-replaced.replaced _ c.requires.some c.requires.here c.requires.numbers given.extends given.no_input c.get-word.ensures given.width given.value c.set.ensures
