use Rattle.std.proofs.Common.{arith, sym, ◌∙◌}
use Rattle.std.proofs.lemmas.Option.{slice_get-get_or}
use Rattle.bit_blast.proofs.Cones.{cone_down, cone_up}
use Rattle.bit_blast.proofs.Operands.{open_operand}
use Rattle.bit_blast.proofs.Visits.{blasting_up, finishes_node}
use Rattle.bit_blast.proofs.Walks.{moves_down, moves_up}
use Rattle.bit_blast.proofs.blaster.Blaster.step.Goals as goal

pub returns-in_ok-push-in-Some-clause-moves : goal.returns-in_ok-push-in-Some-clause-moves
returns-in_ok-push-in-Some-clause-moves g c =
    let (typed, stands) = c.requires in
    rw c.in_ok-push-in-Some.ensures.items
    (moves_down _ _ c.args.below.now.items c.args.top c.in-Some.operand stands.walking
    (open_operand c.args.nodes.now _ c.args.top c.in-Some.operand _ typed (slice_get-get_or c.args.nodes.now c.args.top _ stands.walking.inside) (sym c.missing.ensures ∙ c.in-Some.is)))

pub returns-in_ok-push-in-Some-clause-needed : goal.returns-in_ok-push-in-Some-clause-needed
returns-in_ok-push-in-Some-clause-needed g c =
    let (typed, stands) = c.requires in
    rw c.in_ok-push-in-Some.ensures.items
    (cone_down c.args.nodes.now g.roots _ c.args.below.now.items c.args.top c.in-Some.operand _ (slice_get-get_or c.args.nodes.now c.args.top _ stands.walking.inside) (sym c.missing.ensures ∙ c.in-Some.is) stands.needed)

pub returns-in_ok-insert-in-None-clause-blasting : goal.returns-in_ok-insert-in-None-clause-blasting
returns-in_ok-insert-in-None-clause-blasting g c =
    let (typed, stands) = c.requires in
    blasting_up c.args.nodes.now g.roots c.args.below.now.items c.args.self.now c.word.new.self c.insert.new.self c.args.top _ stands.blasting stands.walking stands.needed
    c.in_ok-word-in-None.ensures.few c.in_ok-word-in-None.ensures.words c.in_ok-word-in-None.ensures.right c.in_ok-word-in-None.ensures.word c.in_ok-insert-in-None.ensures

pub returns-in_ok-insert-in-None-clause-moves : goal.returns-in_ok-insert-in-None-clause-moves
returns-in_ok-insert-in-None-clause-moves g c =
    let (typed, stands) = c.requires in
    moves_up _ _ _ c.args.below.now.items c.pop.new.self.items c.args.top _ _ c.pop.result stands.walking
    (finishes_node c.args.self.now.words c.word.new.self.words c.insert.new.self c.args.top _ c.in_ok-word-in-None.ensures.words c.in_ok-insert-in-None.ensures) c.pop.ensures.items (omega arith) c.pop.ensures.cases

pub returns-in_ok-insert-in-None-clause-needed : goal.returns-in_ok-insert-in-None-clause-needed
returns-in_ok-insert-in-None-clause-needed g c =
    let (typed, stands) = c.requires in
    cone_up c.args.nodes.now g.roots c.args.below.now.items _ c.args.top c.pop.ensures.items stands.needed
