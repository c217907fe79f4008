use Rattle.std.proofs.Common.{◌≡◌, ◌<◌, true, not, length, ◌∙◌, ap, subst, arith}
use Rattle.std.specs.Prelude.{reverse}
use Rattle.cnf_form.specs.News.{is_free}
use Rattle.cdcl.specs.Trail.{Assigned, lits_of}
use Rattle.cdcl.proofs.TrailLaws.{free_at}
use Rattle.cdcl.proofs.trail.Trail.is_unset.Goals as goal

pub returns : goal.returns
returns c = λ (t : c.is_none.result ≡ true).
    let marks = c.self.inside.marks.items in
    let low : c.args.var < length marks = let n = c.len.ensures in let m = c.if-var-len.false in omega arith in
    subst (λ (a : Assigned). (c.args.var < a.vars) × (is_free (lits_of a.entries) c.args.var ≡ true)) c.self.view_is
    (low, free_at marks (reverse c.self.inside.entries.items) c.args.var c.index.result.now c.self.invariant.marked low c.index.ensures (c.is_none.ensures ∙ ap not t))
