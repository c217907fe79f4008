use Rattle.std.proofs.Common.{arith}
use Rattle.cnf_form.proofs.PieceLaws.{piece_at, start_before_end, end_within}
use Rattle.cnf_form.proofs.lists.piece.Goals as goal

pub slice_bounds-result-count : goal.slice_bounds-result-count
slice_bounds-result-count g c =
    let s = c.start-from.ensures in
    let low = start_before_end c.args.items.now 0 c.args.ends.now c.args.at 0 c.requires.ends c.requires.within in omega arith

pub offset_bounds-items-from : goal.offset_bounds-items-from
offset_bounds-items-from g c =
    let s = c.start-from.ensures in
    let low = start_before_end c.args.items.now 0 c.args.ends.now c.args.at 0 c.requires.ends c.requires.within in
    let high = end_within c.args.items.now 0 c.args.ends.now c.args.at 0 c.requires.ends c.requires.within in omega arith

pub slice_bounds-result-start : goal.slice_bounds-result-start
slice_bounds-result-start g c =
    let s = c.start-from.ensures in
    let low = start_before_end c.args.items.now 0 c.args.ends.now c.args.at 0 c.requires.ends c.requires.within in
    let high = end_within c.args.items.now 0 c.args.ends.now c.args.at 0 c.requires.ends c.requires.within in omega arith

pub slice_bounds-result-end : goal.slice_bounds-result-end
slice_bounds-result-end g c =
    let high = end_within c.args.items.now 0 c.args.ends.now c.args.at 0 c.requires.ends c.requires.within in omega arith

pub returns : goal.returns
returns g c = rw c.start-from.ensures (piece_at c.args.items.now 0 c.args.ends.now c.args.at 0 c.requires.within)
