use Rattle.std.proofs.Common.{◌≡◌, ℕ, ◌<◌, ◌+◌, true, length, sym, ◌∙◌, ap, subst, arith}
use Rattle.std.specs.Prelude.{reverse}
use Rattle.std.proofs.lemmas.List.{length_push}
use Rattle.cnf_form.specs.News.{are_distinct}
use Rattle.cdcl.specs.Trail.{Assigned, lits_of, mark_of}
use Rattle.cdcl.specs.Marks.{AreValues}
use Rattle.cdcl.proofs.TrailLaws.{set_at, value_of, AreValues-push}
use Rattle.cdcl.proofs.trail.Trail.assignment.Goals as goal
use Rattle.cdcl.proofs.trail.Trail.assignment.Goals.{in-Some, in-None}

pub loop-var-preserved : goal.loop-var-preserved
loop-var-preserved c =
    let marks = c.self.inside.marks.items in
    let v = c.loop-var.var in
    let low : v < length marks = let n = c.len-var-end.ensures in let m = c.loop-var-test.true in omega arith in
    let mark : mark_of (reverse c.self.inside.entries.items) v ≡ c.index.result.now = set_at marks (reverse c.self.inside.entries.items) v c.index.result.now c.self.invariant.marked low c.index.ensures in
    let value : c.match-index.value ≡ value_of c.index.result.now = elim c.match-index.branch [
      | in-Some w ↦ w.value-is ∙ ap value_of (sym w.in-Some.is)
      | in-None w ↦ w.value-is ∙ ap value_of (sym w.in-None.is)
    ] in
    let d = subst (λ (a : Assigned). are_distinct (lits_of a.entries) ≡ true) c.self.view_is c.self.invariant.distinct in
    let mark' : mark_of c.args.self.now.entries v ≡ c.index.result.now = subst (λ (a : Assigned). mark_of a.entries v ≡ c.index.result.now) c.self.view_is mark in
    let more = AreValues-push c.args.self.now.entries c.loop-var.values.items v c.match-index.value d c.loop-var.invariant.count c.loop-var.invariant.values (value ∙ ap value_of (sym mark')) in
    record {
      count = ap length c.in_ok-push.ensures.items ∙ length_push c.loop-var.values.items c.match-index.value ∙ ap (λ (n : ℕ). n + 1) c.loop-var.invariant.count;
      values = subst (AreValues (v + 1) (lits_of c.args.self.now.entries)) (sym c.in_ok-push.ensures.items) more;
    }
