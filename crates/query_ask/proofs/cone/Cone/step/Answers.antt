use Rattle.std.proofs.Common.{arith}
use Rattle.std.proofs.lemmas.Option.{slice_get-get_or}
use Rattle.std.proofs.lemmas.List.Elements.{All-push}
use Rattle.query_ask.specs.Copies.{is_copied, HasVars}
use Rattle.bit_blast.proofs.Walks.{moves_down, moves_up}
use Rattle.query_ask.proofs.Steps.{open_operand, cone_down, cone_up, cone_top, finishes}
use Rattle.query_ask.proofs.cone.Cone.step.Goals as goal

pub returns-in_ok-push-in-Err-clause-moves : goal.returns-in_ok-push-in-Err-clause-moves
returns-in_ok-push-in-Err-clause-moves c = rw c.in_ok-push-in-Err.ensures.items
    (moves_down _ _ c.args.below.now.items c.args.top c.in-Err.operand c.requires.walking
    (open_operand c.args.nodes.now (is_copied c.args.self.now.origins.keys) c.args.top c.in-Err.operand _ c.requires.typed (slice_get-get_or c.args.nodes.now c.args.top _ c.requires.walking.inside) c.in-Err.ensures.0 c.in-Err.ensures.1))

pub returns-in_ok-push-in-Err-clause-known : goal.returns-in_ok-push-in-Err-clause-known
returns-in_ok-push-in-Err-clause-known c = rw c.in_ok-push-in-Err.ensures.items
    (cone_down c.args.nodes.now c.args.self.now.vars c.args.below.now.items c.args.top c.in-Err.operand _ (slice_get-get_or c.args.nodes.now c.args.top _ c.requires.walking.inside) c.in-Err.ensures.0 c.requires.known)

pub returns-in_ok-add-in-Ok-clause-copying : goal.returns-in_ok-add-in-Ok-clause-copying
returns-in_ok-add-in-Ok-clause-copying c = record {
  right = c.in_ok-add-in-Ok.ensures.copies;
  known = rw c.in_ok-add-in-Ok.ensures.vars (rw c.in_ok-add-in-Ok.ensures.origins (All-push (HasVars c.args.nodes.now c.args.self.now.vars) c.args.self.now.origins.keys c.args.top c.requires.copying.known (cone_top c.args.nodes.now c.args.self.now.vars c.args.below.now.items c.args.top c.requires.known)));
}

pub returns-in_ok-add-in-Ok-clause-moves : goal.returns-in_ok-add-in-Ok-clause-moves
returns-in_ok-add-in-Ok-clause-moves c =
    rw c.in_ok-add-in-Ok.ensures.origins (moves_up _ _ _ c.args.below.now.items c.pop.new.self.items c.args.top _ _ c.pop.result c.requires.walking
    (finishes c.args.self.now.origins.keys c.args.top) c.pop.ensures.items (omega arith) c.pop.ensures.cases)

pub returns-in_ok-add-in-Ok-clause-known : goal.returns-in_ok-add-in-Ok-clause-known
returns-in_ok-add-in-Ok-clause-known c = cone_up c.args.nodes.now c.args.self.now.vars c.args.below.now.items _ c.args.top c.pop.ensures.items c.requires.known
