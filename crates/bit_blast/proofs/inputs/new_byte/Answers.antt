use Rattle.std.proofs.Common.{ap, length, arith}
use Rattle.std.proofs.lemmas.List.{length_push}
use Rattle.bit_blast.proofs.ByteLaws.{Reading-start, Reading-more, Reading-all}
use Rattle.bit_blast.proofs.inputs.new_byte.Goals as goal

pub loop-b-init : goal.loop-b-init
loop-b-init c = Reading-start _ _ _ _ c.requires c.new-word.ensures.items

pub loop-b-preserved : goal.loop-b-preserved
loop-b-preserved c = Reading-more _ _ _ _ _ _ _ _ _ c.loop-b.invariant (omega arith) c.in_ok-input.ensures.appended c.in_ok-input.ensures.wire c.in_ok-input.ensures.kept c.in_ok-push.ensures.items

pub returns-clause-word : goal.returns-clause-word
returns-clause-word c = Reading-all _ _ _ _ _ _ _ (omega arith) c.in_ok-push-2.ensures.items c.loop-b.invariant

pub returns-clause-inputs : goal.returns-clause-inputs
returns-clause-inputs c = omega (arith, c.loop-b.invariant.count, ap length c.in_ok-push-2.ensures.items, length_push c.args.vars.now.items)
