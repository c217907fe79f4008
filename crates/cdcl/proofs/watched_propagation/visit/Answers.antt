use Rattle.std.proofs.Common.{◌≡◌, ℕ, ◌<◌, true, List, [], length, get_or, Some, refl, sym, ◌∙◌, ap, subst, inl, inr}
use Rattle.std.specs.Prelude.{slice_get}
use Rattle.std.proofs.lemmas.Option.{get_or_from_slice_get}
use Rattle.cnf_form.specs.declared.lit.Lit.{Lit}
use Rattle.cnf_form.specs.Literals.{flip, has}
use Rattle.cnf_form.specs.Clauses.{are_clauses}
use Rattle.cnf_form.proofs.ClauseLaws.{all_below-has}
use Rattle.cdcl.specs.declared.watched.Watched.{Watched}
use Rattle.cdcl.specs.Trail.{lits_of}
use Rattle.cdcl.specs.Watch.{ArePairs, IsOtherOf}
use Rattle.cdcl.proofs.PropagationLaws.{slice_get_at, clause_low}
use Rattle.cdcl.proofs.TrailLaws.{IsTrail-distinct}
use Rattle.cdcl.proofs.WatchLaws.{visit_same, visit_settled, visit_moved, guard_stale, guard_true, other_in, lit_cases}
use Rattle.cdcl.proofs.watched_propagation.visit.Goals as goal

pair_at : (clauses : List (List Lit)) (ps : List Watched) (n : ℕ) (w : Watched) → ArePairs clauses ps → n < length clauses → w ≡ get_or ps n w → slice_get ps n ≡ Some w
pair_at clauses ps n w p low e = slice_get_at ps n w (subst (λ (k : ℕ). n < k) (sym p.count) low) ∙ ap (λ (x : Watched). Some x) (sym e)

other_low : (v : ℕ) (clauses : List (List Lit)) (ps : List Watched) (n : ℕ) (w : Watched) (l o : Lit) → ArePairs clauses ps → n < length clauses → are_clauses v clauses ≡ true → slice_get ps n ≡ Some w → IsOtherOf w l (Some o) → o.var < v
other_low v clauses ps n w l o p low good at j =
    let here = slice_get_at clauses n [] low in
    let c = get_or clauses n [] in
    all_below-has v c o (clause_low v clauses n c good here) (other_in c w l o (p.each n c w here at) j)

pub returns-in_default : goal.returns-in_default
returns-in_default c =
    let clauses = c.args.clauses.now in
    let n = c.args.number in
    let pairs = c.args.pairs.now.items in
    let w = c.index-watched.result.now in
    let at = pair_at clauses pairs n w c.requires.pairs c.requires.within c.index-watched.ensures in
    visit_same clauses n c.args.lit c.args.trail.now pairs c.args.watches.now w c.requires.trail c.requires.pairs at
    (λ done s g. guard_stale done (lits_of c.args.trail.now.entries) w c.args.lit c.in_default.ensures.0 c.in_default.ensures.1 g)

pub is_true-requires : goal.is_true-requires
is_true-requires c =
    let clauses = c.args.clauses.now in
    let n = c.args.number in
    let pairs = c.args.pairs.now.items in
    let w = c.index-watched.result.now in
    let at = pair_at clauses pairs n w c.requires.pairs c.requires.within c.index-watched.ensures in
    other_low c.args.trail.now.vars clauses pairs n w c.args.lit c.in-Some.other c.requires.pairs c.requires.within c.requires.in_range at c.in-Some.ensures

pub returns-then-is_true : goal.returns-then-is_true
returns-then-is_true c =
    let clauses = c.args.clauses.now in
    let n = c.args.number in
    let pairs = c.args.pairs.now.items in
    let w = c.index-watched.result.now in
    let at = pair_at clauses pairs n w c.requires.pairs c.requires.within c.index-watched.ensures in
    visit_same clauses n c.args.lit c.args.trail.now pairs c.args.watches.now w c.requires.trail c.requires.pairs at
    (λ done s g. guard_true done (lits_of c.args.trail.now.entries) w c.args.lit c.in-Some.other (IsTrail-distinct clauses c.args.trail.now.entries c.requires.trail) s c.requires.falsified (sym c.if-is_true.ensures) c.in-Some.ensures)

pub replacement-requires : goal.replacement-requires
replacement-requires c = clause_low c.args.trail.now.vars c.args.clauses.now c.args.number c.get.result.now c.requires.in_range c.get.ensures.clause

pub add-requires : goal.add-requires
add-requires c =
    let found = c.in-Some-replacement.found in
    c.requires.room found.var (all_below-has c.args.trail.now.vars c.get.result.now found (clause_low c.args.trail.now.vars c.args.clauses.now c.args.number c.get.result.now c.requires.in_range c.get.ensures.clause) c.in-Some-replacement.ensures.of_clause)

pub settle-requires-clause-in_range : goal.settle-requires-clause-in_range
settle-requires-clause-in_range c =
    let clauses = c.args.clauses.now in
    let n = c.args.number in
    let pairs = c.args.pairs.now.items in
    let w = c.index-watched.result.now in
    let at = pair_at clauses pairs n w c.requires.pairs c.requires.within c.index-watched.ensures in
    other_low c.args.trail.now.vars clauses pairs n w c.args.lit c.in-Some.other c.requires.pairs c.requires.within c.requires.in_range at c.in-Some.ensures

pub settle-requires-clause-of_clause : goal.settle-requires-clause-of_clause
settle-requires-clause-of_clause c =
    let clauses = c.args.clauses.now in
    let n = c.args.number in
    let pairs = c.args.pairs.now.items in
    let w = c.index-watched.result.now in
    let at = pair_at clauses pairs n w c.requires.pairs c.requires.within c.index-watched.ensures in
    let lits = get_or clauses n [] in
    other_in lits w c.args.lit c.in-Some.other (c.requires.pairs.each n lits w (slice_get_at clauses n [] c.requires.within) at) c.in-Some.ensures

pub settle-requires-clause-others : goal.settle-requires-clause-others
settle-requires-clause-others c =
    let same = get_or_from_slice_get c.args.clauses.now c.args.number c.get.result.now [] c.get.ensures.clause in
    λ k h n. elim (lit_cases k c.args.lit) [
      | inl q ↦ subst (λ (x : Lit). has (lits_of c.args.trail.now.entries) (flip x) ≡ true) (sym q) c.requires.falsified
      | inr m ↦ c.in-None.ensures k (subst (λ (ls : List Lit). has ls k ≡ true) same h) m n
    ]

pub returns-in_ok-add-in-Some-replacement : goal.returns-in_ok-add-in-Some-replacement
returns-in_ok-add-in-Some-replacement c =
    let clauses = c.args.clauses.now in
    let n = c.args.number in
    let pairs = c.args.pairs.now.items in
    let w = c.index-watched.result.now in
    let at = pair_at clauses pairs n w c.requires.pairs c.requires.within c.index-watched.ensures in
    let found = c.in-Some-replacement.found in
    let low = all_below-has c.args.trail.now.vars c.get.result.now found (clause_low c.args.trail.now.vars clauses n c.get.result.now c.requires.in_range c.get.ensures.clause) c.in-Some-replacement.ensures.of_clause in
    visit_moved clauses n c.args.lit c.in-Some.other found c.get.result.now c.args.trail.now pairs _ c.args.watches.now c.add.new.self w c.requires.trail c.requires.pairs at c.get.ensures.clause c.requires.falsified c.in-Some.ensures c.in-Some-replacement.ensures (c.requires.room found.var low) c.in_ok-add-in-Some-replacement.ensures refl

pub returns-in_ok-conflict-in-None : goal.returns-in_ok-conflict-in-None
returns-in_ok-conflict-in-None c =
    let clauses = c.args.clauses.now in
    let n = c.args.number in
    let pairs = c.args.pairs.now.items in
    let w = c.index-watched.result.now in
    let at = pair_at clauses pairs n w c.requires.pairs c.requires.within c.index-watched.ensures in
    let e = c.in_ok-conflict-in-None.ensures in
    visit_settled clauses n c.args.lit c.in-Some.other c.args.trail.now c.settle.new.trail pairs c.args.watches.now w _ c.requires.trail c.requires.pairs at c.requires.falsified c.in-Some.ensures e.grows e.more e.longer e.watching e.answer
