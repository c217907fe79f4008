use Rattle.std.proofs.Common.{◌<◌, length, sym, subst, arith}
use Rattle.std.specs.Prelude.{reverse}
use Rattle.std.proofs.lemmas.List.{length-reverse}
use Rattle.cdcl.specs.Trail.{Assigned, lits_of}
use Rattle.cdcl.specs.Watch.{IsPlacedAt}
use Rattle.cnf_form.proofs.ClauseLaws.{all_below-has}
use Rattle.cdcl.proofs.WatchLaws.{placed_at, placed_has}
use Rattle.cdcl.proofs.trail.Trail.literal_at.Goals as goal

pub returns-clause-at : goal.returns-clause-at
returns-clause-at c =
    let items = c.self.inside.entries.items in
    let low : c.args.place < length (reverse items) = subst (λ (a : Assigned). c.args.place < length a.entries) (sym c.self.view_is) c.requires in
    subst (λ (a : Assigned). IsPlacedAt a.entries c.args.place c.index.result.now.lit) c.self.view_is (placed_at items c.args.place c.index.result.now (omega (arith, length-reverse items)) c.index.ensures)

pub returns-clause-low : goal.returns-clause-low
returns-clause-low c =
    let items = c.self.inside.entries.items in
    let low : c.args.place < length (reverse items) = subst (λ (a : Assigned). c.args.place < length a.entries) (sym c.self.view_is) c.requires in
    subst (λ (a : Assigned). c.index.result.now.lit.var < a.vars) c.self.view_is
    (all_below-has (length c.self.inside.marks.items) (lits_of (reverse items)) c.index.result.now.lit c.self.invariant.in_range
    (placed_has (reverse items) c.args.place c.index.result.now.lit (placed_at items c.args.place c.index.result.now (omega (arith, length-reverse items)) c.index.ensures)))
