use Rattle.std.proofs.Common.{◌≡◌, ℕ, ◌<◌, true, false, length, subst, below_more, arith}
use Rattle.cnf_form.specs.News.{is_free}
use Rattle.std.specs.Prelude.{reverse}
use Rattle.cdcl.specs.Trail.{Assigned, lits_of}
use Rattle.cdcl.proofs.TrailLaws.{free_at, taken_at}
use Rattle.cdcl.proofs.trail.Trail.first_free.Goals as goal

pub returns-then-is_none-clause-free : goal.returns-then-is_none-clause-free
returns-then-is_none-clause-free c =
    let marks = c.self.inside.marks.items in
    let v = c.loop-var.var in
    let low : v < length marks = let n = c.len-var-end.ensures in let m = c.loop-var-test.true in omega arith in
    subst (λ (a : Assigned). (v < a.vars) × (is_free (lits_of a.entries) v ≡ true)) c.self.view_is
    (low, free_at marks (reverse c.self.inside.entries.items) v c.index.result.now c.self.invariant.marked low c.index.ensures c.if-is_none.ensures)

pub loop-var-preserved : goal.loop-var-preserved
loop-var-preserved c =
    let marks = c.self.inside.marks.items in
    let v = c.loop-var.var in
    let low : v < length marks = let n = c.len-var-end.ensures in let m = c.loop-var-test.true in omega arith in
    let here = subst (λ (a : Assigned). is_free (lits_of a.entries) v ≡ false) c.self.view_is (taken_at marks (reverse c.self.inside.entries.items) v c.index.result.now c.self.invariant.marked low c.index.ensures c.if-is_none.ensures) in
    below_more (λ (k : ℕ). is_free (lits_of c.args.self.now.entries) k ≡ false) v c.loop-var.invariant here
