use Rattle.std.proofs.Common.{◌≡◌, ℕ, List, [], ◌∷◌, ◌++◌, length, ◌∙◌, ap, arith}
use Rattle.cnf_form.specs.Pieces.{pieces, AreEnds}
use Rattle.cnf_form.proofs.PieceLaws.{pieces-push, AreEnds-push}
use Rattle.cnf_form.proofs.lists.Lists.push.Goals as goal

ends_are : {A : Type 0} (values list all : List A) (e f : List ℕ) (n : ℕ) → AreEnds values 0 e → all ≡ values ++ list → n ≡ length all → f ≡ e ++ n ∷ [] → AreEnds all 0 f
ends_are values list all e f n a b d g = rw (g, d, b) (AreEnds-push values list 0 e a)

pieces_are : {A : Type 0} (values list all : List A) (e f : List ℕ) (n : ℕ) → AreEnds values 0 e → all ≡ values ++ list → n ≡ length all → f ≡ e ++ n ∷ [] → pieces all 0 f ≡ pieces values 0 e ++ list ∷ []
pieces_are values list all e f n a b d g = rw (g, d, b) (pieces-push values list 0 e a)

pub invariant_of-self-2 : goal.invariant_of-self-2
invariant_of-self-2 g c =
    ends_are c.self.inside.items.items c.args.list.now c.extend_from_slice.new.self.items c.self.inside.ends.items c.push_reserved.new.self.items c.len.result c.self.invariant c.in_ok-extend_from_slice.ensures.items (omega (arith, c.len.ensures)) (c.push_reserved.ensures.items ∙ ap (λ ends. ends ++ c.len.result ∷ []) c.reserve.ensures.items)

pub returns-clause-pushed : goal.returns-clause-pushed
returns-clause-pushed g c =
    pieces_are c.self.inside.items.items c.args.list.now c.extend_from_slice.new.self.items c.self.inside.ends.items c.push_reserved.new.self.items c.len.result c.self.invariant c.in_ok-extend_from_slice.ensures.items (omega (arith, c.len.ensures)) (c.push_reserved.ensures.items ∙ ap (λ ends. ends ++ c.len.result ∷ []) c.reserve.ensures.items)
    ∙ ap (λ lists. lists ++ c.args.list.now ∷ []) c.self.view_is
