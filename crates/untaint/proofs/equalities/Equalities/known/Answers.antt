use Rattle.std.proofs.Common.{◌≡◌, true, List, ap, sym, subst, ◌∙◌}
use Rattle.std.specs.List.{list_any}
use Rattle.std.proofs.lemmas.Bool.{eqb-false}
use Rattle.untaint.specs.declared.equality.Equality.{Equality}
use Rattle.untaint.specs.Kept.{equality, AreKnown, same_sides}
use Rattle.untaint.proofs.KeepLaws.{known_tells, known_holds}
use Rattle.untaint.proofs.equalities.Equalities.known.Goals as goal

pub returns-else-eq-clause-known : goal.returns-else-eq-clause-known
returns-else-eq-clause-known c =
    let look : c.contains.result ≡ list_any (same_sides (equality c.args.l.0 c.args.r.0)) c.self.inside.kept.keys =
    c.contains.ensures ∙ ap (λ (one : Equality). list_any (same_sides one) c.self.inside.kept.keys) c.of.ensures in
    let P : List Equality → Type 0 = λ kept. (c.contains.result ≡ true → AreKnown kept c.args.l.0 c.args.r.0) × (AreKnown kept c.args.l.0 c.args.r.0 → c.contains.result ≡ true) in
    subst P c.self.view_is (known_tells c.self.inside.kept.keys c.args.l.0 c.args.r.0 c.contains.result c.self.invariant (eqb-false _ _ (sym c.if-eq.ensures)) look)

pub returns-else-eq-clause-holds : goal.returns-else-eq-clause-holds
returns-else-eq-clause-holds c = λ found v all. known_holds c.args.self.now c.args.l.0 c.args.r.0 v ((returns-else-eq-clause-known c).0 found) all
