use Rattle.std.proofs.Common.{false, true, refl, rules, arith}
use Rattle.std.proofs.lemmas.Grind.{common_steps}
use Rattle.rel_step.proofs.Growing.{HasWidth-grows}
use Rattle.rel_step.proofs.Telling.{TellsApart-grows}
use Rattle.rel_step.proofs.Addressing.{side_width_now}
use Rattle.rel_step.proofs.addresses.access.Goals as goal

pub words_apart-requires-clause-left : goal.words_apart-requires-clause-left
words_apart-requires-clause-left c = side_width_now c.args.arena.now 32 false c.args.reach.address c.left-left.result c.left-left.ensures c.requires.address

pub words_apart-requires-clause-right : goal.words_apart-requires-clause-right
words_apart-requires-clause-right c = side_width_now c.args.arena.now 32 true c.args.reach.address c.right-right.result c.right-right.ensures c.requires.address

pub refused-requires : goal.refused-requires
refused-requires c = HasWidth-grows c.args.arena.now c.words_apart.new.arena 1 c.args.reach.allowed.0 1 c.in_ok-leak.ensures.extends c.requires.allowed

pub returns-clause-access : goal.returns-clause-access
returns-clause-access c = record {
  left = c.left-left.result;
  right = c.right-right.result;
  left_is = c.left-left.ensures;
  right_is = c.right-right.ensures;
  site = refl;
  sides = refl;
  leak = TellsApart-grows c.words_apart.new.arena c.refused.new.arena 1 c.left-left.result c.right-right.result c.in_ok-leak.leak c.in_ok-fault.ensures.extends c.in_ok-leak.ensures.apart;
  fault = c.in_ok-fault.ensures.refused;
  target = refl;
  nexts = first_of (search rules, grind (arith, common_steps));
}
