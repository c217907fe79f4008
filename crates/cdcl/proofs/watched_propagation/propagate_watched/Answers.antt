use Rattle.std.proofs.Common.{◌≡◌, ℕ, ◌<◌, ◌+◌, ◌-◌, ◌≤◌, true, List, Option, None, length, sym, ◌∙◌, ap, subst, arith}
use Rattle.cnf_form.specs.declared.lit.Lit.{Lit}
use Rattle.cnf_form.specs.Literals.{flip, has}
use Rattle.cnf_form.proofs.LitLaws.{flip-flip}
use Rattle.cdcl.specs.Trail.{lits_of}
use Rattle.cdcl.specs.Propagation.{unset_count}
use Rattle.cdcl.specs.Watch.{IsPass, AreGuarded, older_part}
use Rattle.cdcl.proofs.PropagationLaws.{Grows-then}
use Rattle.cdcl.proofs.WatchLaws.{placed_has, done_more, older_part-all}
use Rattle.cdcl.specs.declared.entry.Entry.{Entry}
use Rattle.cdcl.proofs.watched_propagation.propagate_watched.Goals as goal

pub visit_list-requires-clause-falsified : goal.visit_list-requires-clause-falsified
visit_list-requires-clause-falsified c =
    let lit = c.literal_at-lit.result in
    subst (λ (k : Lit). has (lits_of c.queue.trail.entries) k ≡ true) (sym (ap flip c.flip.ensures ∙ flip-flip lit)) (placed_has c.queue.trail.entries c.queue.head lit c.literal_at-lit.ensures.at)

pub queue-preserved : goal.queue-preserved
queue-preserved c =
    let p = subst (λ (o : Option ℕ). IsPass c.args.clauses.now c.flip.result c.queue.trail c.visit_list.new.trail c.queue.pairs.items c.visit_list.new.pairs.items c.visit_list.new.watches o) c.in_default.is c.in_ok-number.ensures in
    let q = subst (λ (l : Lit). IsPass c.args.clauses.now l c.queue.trail c.visit_list.new.trail c.queue.pairs.items c.visit_list.new.pairs.items c.visit_list.new.watches None) c.flip.ensures p in
    let low : c.queue.head < length c.queue.trail.entries = let n = c.len.ensures in let m = c.queue-test.true in omega arith in
    let long : length c.queue.trail.entries ≤ length c.visit_list.new.trail.entries = p.longer.long in
    record {
      grows = Grows-then c.args.clauses.now c.args.trail.now c.queue.trail c.visit_list.new.trail c.queue.invariant.grows p.grows;
      pairs = p.pairs;
      room = p.room;
      listed = p.listed;
      watching = p.watching;
      within = omega arith;
      done = done_more c.args.clauses.now c.literal_at-lit.result c.queue.trail c.visit_list.new.trail c.queue.pairs.items c.visit_list.new.pairs.items c.visit_list.new.watches c.queue.head low c.literal_at-lit.ensures.at q c.queue.invariant.done;
    }

falls : (head n u m v : ℕ) → head < n → v + m ≤ u + n → v + m - (head + 1) < u + n - head
falls head n u m v low less = omega arith

pub queue-smaller : goal.queue-smaller
queue-smaller c =
    let p = c.in_ok-number.ensures in
    let low : c.queue.head < length c.queue.trail.entries = let n = c.len.ensures in let m = c.queue-test.true in omega arith in
    falls c.queue.head (length c.queue.trail.entries) (unset_count (lits_of c.queue.trail.entries) c.queue.trail.vars) _ _ low p.longer.potential

pub returns-clause-found : goal.returns-clause-found
returns-clause-found c =
    let es = c.queue.trail.entries in
    let all : c.queue.head ≡ length es = let n = c.len.ensures in let m = c.queue-test.false in let k = c.queue.invariant.within in omega arith in
    let part : older_part c.queue.head es ≡ es = ap (λ (n : ℕ). older_part n es) all ∙ older_part-all es in
    subst (λ (xs : List Entry). AreGuarded c.queue.pairs.items (lits_of xs) (lits_of es)) part c.queue.invariant.done
