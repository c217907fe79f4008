use Rattle.std.proofs.Common.{◌≡◌, ℕ, ◌<◌, true, List, [], ◌∷◌, ◌++◌, length, sym, ◌∙◌, ap, subst}
use Rattle.std.proofs.lemmas.Bool.{and_from}
use Rattle.cnf_form.specs.declared.lit.Lit.{Lit}
use Rattle.cnf_form.specs.Clauses.{is_ascending, all_below, are_clauses}
use Rattle.cnf_form.specs.News.{is_free}
use Rattle.cnf_form.proofs.ClauseLaws.{are_clauses-push}
use Rattle.cdcl.specs.declared.entry.Entry.{Entry}
use Rattle.cdcl.specs.Trail.{lits_of, IsLearnt}
use Rattle.cdcl.proofs.TrailLaws.{IsTrail-distinct}
use Rattle.cdcl.proofs.PlanLaws.{IsPlan, plan_free, plan_room_first, plan_room_second, plan_trail, plan_watched, forced_entry}
use Rattle.cdcl.proofs.run.learn.Goals as goal

more_clauses : (old new : List (List Lit)) (c d : List Lit) → new ≡ old ++ d ∷ [] → d ≡ c → new ≡ old ++ c ∷ []
more_clauses old new c d e f = e ∙ ap (λ (x : List Lit). old ++ x ∷ []) f

still_clauses : (v w : ℕ) (old new : List (List Lit)) (c : List Lit) → are_clauses v old ≡ true → new ≡ old ++ c ∷ [] → w ≡ v → is_ascending c ≡ true → all_below v c ≡ true → are_clauses w new ≡ true
still_clauses v w old new c g e f a b = rw (e, f) (are_clauses-push v old c g (and_from (is_ascending c) (all_below v c) a b))

plan : (es : List Entry) (ls c : List Lit) (first : Lit) (level : ℕ) (second : Lit) → ls ≡ c → IsPlan es ls first level second → IsPlan es c first level second
plan es ls c first level second e p = subst (λ (x : List Lit). IsPlan es x first level second) e p

pub open_literal-first-requires : goal.open_literal-first-requires
open_literal-first-requires c = record {
  in_range = subst (λ (ls : List Lit). all_below c.args.trail.now.vars ls ≡ true) (sym c.lits-lits.ensures.lits) c.requires.clause;
  learnt = subst (IsLearnt c.args.trail.now.entries) (sym c.lits-lits.ensures.lits) c.requires.learnt;
}

pub jump_level-level-requires : goal.jump_level-level-requires
jump_level-level-requires c = subst (λ (ls : List Lit). all_below c.args.trail.now.vars ls ≡ true) (sym c.lits-lits.ensures.lits) c.requires.clause

pub second_literal-second-requires : goal.second_literal-second-requires
second_literal-second-requires c = record {
  in_range = subst (λ (ls : List Lit). all_below c.args.trail.now.vars ls ≡ true) (sym c.lits-lits.ensures.lits) c.requires.clause;
  distinct = IsTrail-distinct c.args.clauses.now c.args.trail.now.entries c.requires.trail;
  learnt = subst (IsLearnt c.args.trail.now.entries) (sym c.lits-lits.ensures.lits) c.requires.learnt;
  first = c.open_literal-first.ensures;
  jump = c.jump_level-level.ensures.jump;
  highest = c.jump_level-level.ensures.highest;
}

pub watch-requires-clause-first : goal.watch-requires-clause-first
watch-requires-clause-first c =
    let p = plan c.args.trail.now.entries c.lits-lits.result.now c.args.line.now.clause c.open_literal-first.result c.jump_level-level.result c.second_literal-second.result c.lits-lits.ensures.lits (record { open_first = c.open_literal-first.ensures; jump = c.jump_level-level.ensures.jump; highest = c.jump_level-level.ensures.highest; other = c.second_literal-second.ensures }) in
    c.requires.room _ (plan_room_first c.args.trail.now.vars c.args.trail.now.entries c.args.line.now.clause c.open_literal-first.result c.jump_level-level.result c.second_literal-second.result c.requires.clause p)

pub watch-requires-clause-second : goal.watch-requires-clause-second
watch-requires-clause-second c =
    let p = plan c.args.trail.now.entries c.lits-lits.result.now c.args.line.now.clause c.open_literal-first.result c.jump_level-level.result c.second_literal-second.result c.lits-lits.ensures.lits (record { open_first = c.open_literal-first.ensures; jump = c.jump_level-level.ensures.jump; highest = c.jump_level-level.ensures.highest; other = c.second_literal-second.ensures }) in
    c.requires.room _ (plan_room_second c.args.trail.now.vars c.args.trail.now.entries c.args.line.now.clause c.open_literal-first.result c.jump_level-level.result c.second_literal-second.result c.requires.clause p)

pub push-requires-3-clause-in_range : goal.push-requires-3-clause-in_range
push-requires-3-clause-in_range c =
    let p = plan c.args.trail.now.entries c.lits-lits.result.now c.args.line.now.clause c.open_literal-first.result c.jump_level-level.result c.second_literal-second.result c.lits-lits.ensures.lits (record { open_first = c.open_literal-first.ensures; jump = c.jump_level-level.ensures.jump; highest = c.jump_level-level.ensures.highest; other = c.second_literal-second.ensures }) in
    subst (λ (v : ℕ). c.open_literal-first.result.var < v) (sym c.back_to.ensures.vars) (plan_room_first c.args.trail.now.vars c.args.trail.now.entries c.args.line.now.clause c.open_literal-first.result c.jump_level-level.result c.second_literal-second.result c.requires.clause p)

pub push-requires-3-clause-free : goal.push-requires-3-clause-free
push-requires-3-clause-free c =
    let p = plan c.args.trail.now.entries c.lits-lits.result.now c.args.line.now.clause c.open_literal-first.result c.jump_level-level.result c.second_literal-second.result c.lits-lits.ensures.lits (record { open_first = c.open_literal-first.ensures; jump = c.jump_level-level.ensures.jump; highest = c.jump_level-level.ensures.highest; other = c.second_literal-second.ensures }) in
    subst (λ (es : List Entry). is_free (lits_of es) c.open_literal-first.result.var ≡ true) (sym c.back_to.ensures.entries) (plan_free c.args.trail.now.entries c.args.line.now.clause c.open_literal-first.result c.jump_level-level.result c.second_literal-second.result c.requires.level p)

pub returns-clause-clauses : goal.returns-clause-clauses
returns-clause-clauses c = more_clauses c.args.clauses.now c.push.new.self c.args.line.now.clause c.lits-lits.result.now c.in_ok-push.ensures.pushed c.lits-lits.ensures.lits

pub returns-clause-in_range : goal.returns-clause-in_range
returns-clause-in_range c =
    let more = more_clauses c.args.clauses.now c.push.new.self c.args.line.now.clause c.lits-lits.result.now c.in_ok-push.ensures.pushed c.lits-lits.ensures.lits in
    still_clauses c.args.trail.now.vars c.push-3.new.self.vars c.args.clauses.now c.push.new.self c.args.line.now.clause c.requires.in_range more (c.in_ok-push-3.ensures.vars ∙ c.back_to.ensures.vars) c.lits-lits.ensures.ascending c.requires.clause

pub returns-clause-trail : goal.returns-clause-trail
returns-clause-trail c =
    let p = plan c.args.trail.now.entries c.lits-lits.result.now c.args.line.now.clause c.open_literal-first.result c.jump_level-level.result c.second_literal-second.result c.lits-lits.ensures.lits (record { open_first = c.open_literal-first.ensures; jump = c.jump_level-level.ensures.jump; highest = c.jump_level-level.ensures.highest; other = c.second_literal-second.ensures }) in
    let more = more_clauses c.args.clauses.now c.push.new.self c.args.line.now.clause c.lits-lits.result.now c.in_ok-push.ensures.pushed c.lits-lits.ensures.lits in
    plan_trail c.args.clauses.now c.push.new.self c.args.trail.now.entries c.push-3.new.self.entries c.args.line.now.clause c.open_literal-first.result c.jump_level-level.result c.len-number.result c.second_literal-second.result c.requires.trail c.requires.level c.requires.learnt p more c.len-number.ensures.length
    (c.in_ok-push-3.ensures.entries ∙ ap (λ (es : List Entry). forced_entry c.open_literal-first.result c.len-number.result ∷ es) c.back_to.ensures.entries)

pub returns-clause-watched : goal.returns-clause-watched
returns-clause-watched c =
    let p = plan c.args.trail.now.entries c.lits-lits.result.now c.args.line.now.clause c.open_literal-first.result c.jump_level-level.result c.second_literal-second.result c.lits-lits.ensures.lits (record { open_first = c.open_literal-first.ensures; jump = c.jump_level-level.ensures.jump; highest = c.jump_level-level.ensures.highest; other = c.second_literal-second.ensures }) in
    let more = more_clauses c.args.clauses.now c.push.new.self c.args.line.now.clause c.lits-lits.result.now c.in_ok-push.ensures.pushed c.lits-lits.ensures.lits in
    plan_watched c.args.clauses.now c.push.new.self c.args.trail.now c.push-3.new.self c.args.line.now.clause c.open_literal-first.result c.jump_level-level.result c.len-number.result c.len-head.result c.second_literal-second.result c.args.pairs.now.items c.watch.new.pairs.items c.args.watches.now c.watch.new.watches c.requires.trail c.requires.level p c.requires.pairs c.requires.room c.requires.listed c.requires.watching more c.len-number.ensures.length c.in_ok-watch.ensures.pairs c.in_ok-watch.ensures.watches (c.in_ok-push-3.ensures.vars ∙ c.back_to.ensures.vars)
    (c.in_ok-push-3.ensures.entries ∙ ap (λ (es : List Entry). forced_entry c.open_literal-first.result c.len-number.result ∷ es) c.back_to.ensures.entries)
    (c.len-head.ensures ∙ ap length c.back_to.ensures.entries)
