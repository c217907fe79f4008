use Rattle.std.proofs.Common.{◌≡◌, ℕ, ◌<◌, ◌≤◌, ◌+◌, Bool, false, List, length, get_or, Vec, Global, sym, ◌∙◌, ap, subst, arith}
use Rattle.cdcl.specs.declared.watched.Watched.{Watched}
use Rattle.cdcl.specs.Trail.{Assigned}
use Rattle.cdcl.specs.Watch.{Listed, list_of, IsVisit, KeepsWatching}
use Rattle.cdcl.proofs.WatchLaws.{IsPassing, passing_start, passing_visit, passing_skip, passing_end, passing_conflict}
use Rattle.cdcl.proofs.watched_propagation.visit_list.Goals as goal
use Rattle.cdcl.proofs.watched_propagation.visit_list.Goals.{else-number-len-via-then-number-len+in_ok-visit+else-branch, else-number-len-via-else-number-len}

pub loop-place-init : goal.loop-place-init
loop-place-init c = passing_start c.args.clauses.now c.args.lit c.args.trail.now c.args.pairs.now.items c.args.watches.now c.requires.trail c.requires.pairs c.requires.listed c.requires.room c.requires.watching

pub returns-then-branch : goal.returns-then-branch
returns-then-branch c = passing_conflict c.args.clauses.now c.args.lit c.args.trail.now c.loop-place.trail c.visit.new.trail c.args.pairs.now.items c.loop-place.pairs.items c.visit.new.pairs.items c.args.watches.now c.loop-place.watches c.visit.new.watches c.loop-place.place c.loop-place.invariant c.at-number.result
    (subst (λ (b : Bool). IsVisit c.args.clauses.now c.at-number.result c.args.lit c.loop-place.trail c.visit.new.trail c.loop-place.pairs.items c.visit.new.pairs.items c.loop-place.watches c.visit.new.watches b) c.if-branch.true c.in_ok-visit.ensures)

pub loop-place-preserved : goal.loop-place-preserved
loop-place-preserved c =
    let clauses = c.args.clauses.now in
    let ls = c.args.watches.now in
    let list = list_of ls c.args.lit in
    let number : c.at-number.result ≡ get_or list c.loop-place.place 0 = c.at-number.ensures ∙ ap (λ (ns : List ℕ). get_or ns c.loop-place.place 0) c.loop-place.invariant.same in
    let low : c.loop-place.place < length list = let n = c.len-count.ensures in let m = c.loop-place-test.true in omega arith in
    let Here : Assigned → Vec Watched Global → Listed → Type 0 = λ (t : Assigned) (ps : Vec Watched Global) (ms : Listed). IsPassing clauses c.args.lit c.args.trail.now t c.args.pairs.now.items ps.items ls ms (c.loop-place.place + 1) in
    let at : (t : Assigned) (ps : Vec Watched Global) (ms : Listed) → c.else-number-len.trail ≡ t → c.else-number-len.pairs ≡ ps → c.else-number-len.watches ≡ ms → Here t ps ms → Here c.else-number-len.trail c.else-number-len.pairs c.else-number-len.watches = λ t ps ms e f g h. subst (λ (x : Assigned). Here x c.else-number-len.pairs c.else-number-len.watches) (sym e) (subst (λ (x : Vec Watched Global). Here t x c.else-number-len.watches) (sym f) (subst (λ (x : Listed). Here t ps x) (sym g) h)) in
    elim c.else-number-len.branch [
      | else-number-len-via-then-number-len+in_ok-visit+else-branch w ↦ at w.visit.new.trail w.visit.new.pairs w.visit.new.watches w.trail-is w.pairs-is w.watches-is
          (passing_visit clauses c.args.lit c.args.trail.now c.loop-place.trail w.visit.new.trail c.args.pairs.now.items c.loop-place.pairs.items w.visit.new.pairs.items ls c.loop-place.watches w.visit.new.watches c.loop-place.place c.loop-place.invariant low
          (subst (λ (n : ℕ). IsVisit clauses n c.args.lit c.loop-place.trail w.visit.new.trail c.loop-place.pairs.items w.visit.new.pairs.items c.loop-place.watches w.visit.new.watches false) number
          (subst (λ (b : Bool). IsVisit clauses c.at-number.result c.args.lit c.loop-place.trail w.visit.new.trail c.loop-place.pairs.items w.visit.new.pairs.items c.loop-place.watches w.visit.new.watches b) w.if-branch.false w.in_ok-visit.ensures)))
      | else-number-len-via-else-number-len w ↦ at c.loop-place.trail c.loop-place.pairs c.loop-place.watches w.trail-is w.pairs-is w.watches-is
          (passing_skip clauses c.args.lit c.args.trail.now c.loop-place.trail c.args.pairs.now.items c.loop-place.pairs.items ls c.loop-place.watches c.loop-place.place c.loop-place.invariant low (subst (λ (n : ℕ). length clauses ≤ n) number (let n = c.len.ensures.length in let m = w.if-number-len.false in omega arith)))
    ]

pub returns : goal.returns
returns c =
    passing_end c.args.clauses.now c.args.lit c.args.trail.now c.loop-place.trail c.args.pairs.now.items c.loop-place.pairs.items c.args.watches.now c.loop-place.watches c.keep_watching.new.self c.loop-place.place c.loop-place.invariant
    (let n = c.len-count.ensures in let m = c.loop-place-test.false in omega arith)
    (subst (λ (n : ℕ). c.args.lit.var < n) (sym c.loop-place.invariant.grows.vars) c.requires.low) c.keep_watching.ensures.others
    (subst (λ (ws : List Watched). KeepsWatching ws c.args.lit (list_of c.loop-place.watches c.args.lit) (list_of c.keep_watching.new.self c.args.lit)) c.as_slice.ensures.value c.keep_watching.ensures.kept)
