use Rattle.std.proofs.Common.{◌≡◌, ℕ, ◌<◌, ◌≤◌, ◌+◌, List, length, take, get_or, Vec, Global, sym, ◌∙◌, subst, arith}
use Rattle.std.specs.Vec.{with_item}
use Rattle.std.proofs.lemmas.List.{take_all}
use Rattle.cdcl.specs.Watch.{KeepsWatching}
use Rattle.cdcl.proofs.KeepLaws.{IsKeeping, keeping_kept, keeping_dropped}
use Rattle.cdcl.proofs.PropagationLaws.{get_or_any}
use Rattle.cdcl.proofs.numbers.keep_watching.Goals as goal
use Rattle.cdcl.proofs.numbers.keep_watching.Goals.{then-is_watching, else-is_watching}

pub loop-place-preserved : goal.loop-place-preserved
loop-place-preserved c =
    let xs = c.args.items.now.items in
    let ys = c.loop-place.items.items in
    let place = c.loop-place.place in
    let low : place < length xs = omega (arith, c.len-place-end.ensures, c.loop-place-test.true) in
    let within : place < length ys = let n = c.loop-place.invariant.count in omega arith in
    let y : c.index-number.result.now ≡ get_or ys place 0 = c.index-number.ensures ∙ get_or_any ys place c.index-number.result.now 0 within in
    let Here : Vec ℕ Global → ℕ → Type 0 = λ (items : Vec ℕ Global) (kept : ℕ). IsKeeping c.args.pairs.now c.args.lit xs items.items (place + 1) kept in
    elim c.if-is_watching.branch [
      | then-is_watching w ↦ subst (λ (items : Vec ℕ Global). Here items c.if-is_watching.kept) (sym w.items-is) (subst (Here (with_item c.loop-place.items c.loop-place.kept c.index-number.result.now)) (sym w.kept-is) (keeping_kept c.args.pairs.now c.args.lit xs ys place c.loop-place.kept c.index-number.result.now low c.loop-place.invariant y))
      | else-is_watching w ↦ subst (λ (items : Vec ℕ Global). Here items c.if-is_watching.kept) (sym w.items-is) (subst (Here c.loop-place.items) (sym w.kept-is) (keeping_dropped c.args.pairs.now c.args.lit xs ys place c.loop-place.kept c.index-number.result.now low c.loop-place.invariant y (c.is_watching.ensures w.if-is_watching.false)))
    ]

pub returns : goal.returns
returns c =
    let xs = c.args.items.now.items in
    let past : length xs ≤ c.loop-place.place = omega (arith, c.len-place-end.ensures, c.loop-place-test.false) in
    subst (λ (ns : List ℕ). KeepsWatching c.args.pairs.now c.args.lit xs ns) (sym c.truncate.ensures.items)
    (subst (λ (ns : List ℕ). KeepsWatching c.args.pairs.now c.args.lit ns (take c.loop-place.kept c.loop-place.items.items)) (take_all c.loop-place.place xs past) c.loop-place.invariant.keeps)
