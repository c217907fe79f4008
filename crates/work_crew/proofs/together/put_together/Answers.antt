use Rattle.std.proofs.Common.{◌≡◌, [], ◌∷◌, ◌++◌, rules, sym, ap, ◌∙◌, subst, append_assoc}
use Rattle.std.proofs.lemmas.List.{append-nil}
use Rattle.std.specs.List.{All}
use Rattle.work_crew.specs.Recorded.{AreWhole}
use Rattle.work_crew.specs.TrueRecords.{IsTrueRecord}
use Rattle.work_crew.proofs.Whole.{whole_explored, sum_more}
use Rattle.work_crew.proofs.together.put_together.Goals as goal

pub records-init : goal.records-init
records-init c =
    let new = c.new-explored.ensures in
    ([], sym (append-nil c.args.records.items), record { found = new.found; listed = new.listed; doubts = new.doubts; ends = new.ends })

pub records-preserved : goal.records-preserved
records-preserved c =
    let i = c.records.invariant in
    let r = c.in-Some.«record» in
    let made = c.in_ok-kids.ensures in (
      r ∷ i.0,
      i.1 ∙ ap (λ xs. xs ++ i.0) c.in-Some.ensures.items ∙ append_assoc c.pop.new.self.items (r ∷ []) i.0,
      sum_more i.0 r c.records.explored c.add.new.explored i.2 made.found made.listed made.doubts made.ends,
    )

pub returns : goal.returns
returns c =
    let i = c.records.invariant in
    let none : c.records.records.items ≡ [] = search rules in
    let all : i.0 ≡ c.args.records.items = sym (i.1 ∙ ap (λ xs. xs ++ i.0) none) in
    whole_explored c.args.job.now i.0 c.records.explored (subst (All (IsTrueRecord c.args.job.now)) (sym all) c.requires.true_records) (subst AreWhole (sym all) c.requires.whole) i.2
