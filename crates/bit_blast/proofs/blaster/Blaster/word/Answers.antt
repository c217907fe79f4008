use Rattle.std.proofs.Common.{arith, refl, ap, ◌∙◌, Some}
use Rattle.std.proofs.lemmas.Option.{slice_get-get_or}
use Rattle.bit_blast.proofs.Rightness.{AreWords-grown, IsNodeWord-input, IsNodeWord-circuit, ready_node, Keeps-grown, no_input}
use Rattle.bit_blast.proofs.blaster.Blaster.word.Goals as goal

pub node_word-requires : goal.node_word-requires
node_word-requires c =
    ready_node c.args.nodes.now c.args.self.now.gates c.args.self.now.vars.items _ _ c.args.at _ c.requires.typed (slice_get-get_or c.args.nodes.now c.args.at _ c.requires.inside) c.requires.right
    (no_input _ c.in_default.not-Input) (c.requires.ready _ (slice_get-get_or c.args.nodes.now c.args.at _ c.requires.inside))

pub returns-in_ok-word-in-Input-clause-word : goal.returns-in_ok-word-in-Input-clause-word
returns-in_ok-word-in-Input-clause-word c =
    IsNodeWord-input c.byte.new.self.gates c.byte.new.self.vars.items c.args.nodes.now c.args.at c.in-Input.variable _
    (slice_get-get_or c.args.nodes.now c.args.at _ c.requires.inside ∙ ap (λ n. Some n) c.in-Input.is) c.in_ok-word-in-Input.ensures.word

pub returns-in_ok-word-in_default : goal.returns-in_ok-word-in_default
returns-in_ok-word-in_default c =
    let kept = Keeps-grown _ _ _ c.in_ok-word-in_default.ensures.grows in
    let right = AreWords-grown c.args.nodes.now c.args.self.now.gates c.node_word.new.gates c.args.self.now.vars.items _ _ kept c.in_ok-word-in_default.ensures.grows.inputs c.requires.right in
    record {
      word = IsNodeWord-circuit c.node_word.new.gates c.args.self.now.vars.items c.args.nodes.now _ _ c.args.at _ _ c.requires.typed (slice_get-get_or c.args.nodes.now c.args.at _ c.requires.inside) right
          c.in_ok-word-in_default.ensures.inside c.in_ok-word-in_default.ensures.width c.in_ok-word-in_default.ensures.value;
      right = right;
      words = refl;
      few = omega (arith, c.in_ok-word-in_default.ensures.grows.most);
    }
