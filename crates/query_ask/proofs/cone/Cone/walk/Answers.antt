use Rattle.std.proofs.Common.{◌≡◌, ◌∙◌, ◌++◌, ◌∷◌, [], ℕ, refl, subst, sym}
use Rattle.query_ask.specs.Copies.{IsCopying, HasVars}
use Rattle.std.specs.Prelude.{All}
use Rattle.std.specs.Option.{option_to_list}
use Rattle.query_ask.proofs.Steps.{Visiting-start, Visiting-walking, Visiting-known, Visiting-next, Visiting-end}
use Rattle.query_ask.proofs.cone.Cone.walk.Goals as goal

pub loop-next-init : goal.loop-next-init
loop-next-init c = record {
  vars = refl;
  visiting = Visiting-start c.args.nodes.now c.args.self.now.vars c.args.self.now.origins.keys c.args.self.now.copies.items c.new-below.result.items c.args.root c.start-next.result c.requires.copying c.requires.inside c.requires.known c.new-below.ensures.items c.start-next.ensures;
}

pub step-requires : goal.step-requires
step-requires c =
    let same = c.loop-next.invariant.vars in
    let was = c.loop-next.invariant.visiting in
    record {
      typed = c.requires.typed;
      copying = subst (λ (n : ℕ). IsCopying c.args.nodes.now n c.loop-next.self.origins.keys c.loop-next.self.copies.items) (sym same) was.copying;
      walking = Visiting-walking c.args.nodes.now c.args.self.now.vars c.args.self.now.origins.keys c.loop-next.self.origins.keys c.loop-next.self.copies.items c.loop-next.below.items c.args.root c.in-Some.top c.loop-next.next was c.in-Some.is;
      known = subst (λ (n : ℕ). All (HasVars c.args.nodes.now n) (c.loop-next.below.items ++ c.in-Some.top ∷ [])) (sym same)
          (Visiting-known c.args.nodes.now c.args.self.now.vars c.args.self.now.origins.keys c.loop-next.self.origins.keys c.loop-next.self.copies.items c.loop-next.below.items c.args.root c.in-Some.top c.loop-next.next was c.in-Some.is);
    }

pub loop-next-preserved : goal.loop-next-preserved
loop-next-preserved c =
    let step = c.in_ok-next.ensures in
    let same : c.step.new.self.vars ≡ c.args.self.now.vars = step.vars ∙ c.loop-next.invariant.vars in
    record {
      vars = same;
      visiting = Visiting-next c.args.nodes.now c.args.self.now.vars c.args.self.now.origins.keys c.loop-next.self.origins.keys c.step.new.self.origins.keys c.loop-next.self.copies.items c.step.new.self.copies.items c.loop-next.below.items c.step.new.below.items
          c.args.root c.in-Some.top c.loop-next.next c.in_ok-next.next c.loop-next.invariant.visiting c.in-Some.is
          (subst (λ (n : ℕ). IsCopying c.args.nodes.now n c.step.new.self.origins.keys c.step.new.self.copies.items) same step.copying) step.kept step.moves
          (subst (λ (n : ℕ). All (HasVars c.args.nodes.now n) (c.step.new.below.items ++ option_to_list c.in_ok-next.next)) c.loop-next.invariant.vars step.known);
    }

pub returns-clause-copied : goal.returns-clause-copied
returns-clause-copied c = Visiting-end c.args.nodes.now c.args.self.now.vars c.args.self.now.origins.keys c.loop-next.self.origins.keys c.loop-next.self.copies.items c.loop-next.below.items c.args.root c.loop-next.next c.loop-next.invariant.visiting c.in_default.not-Some
