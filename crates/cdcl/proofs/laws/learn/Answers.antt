use Rattle.std.proofs.Common.{◌≡◌, ℕ, true, List, [], ◌∷◌, ◌++◌, sym, ◌∙◌, ap, subst}
use Rattle.std.proofs.lemmas.Bool.{and_from}
use Rattle.cnf_form.specs.declared.lit.Lit.{Lit}
use Rattle.cnf_form.specs.Clauses.{is_ascending, all_below, are_clauses}
use Rattle.cnf_form.proofs.ClauseLaws.{are_clauses-push}
use Rattle.cdcl.specs.declared.entry.Entry.{Entry}
use Rattle.cdcl.specs.Trail.{IsTrail, back_to}
use Rattle.cdcl.specs.Jump.{IsJump}
use Rattle.cdcl.proofs.JumpLaws.{IsTrail-learn}
use Rattle.cdcl.proofs.laws.learn.Goals as goal

more_clauses : (old new : List (List Lit)) (c d : List Lit) → new ≡ old ++ d ∷ [] → d ≡ c → new ≡ old ++ c ∷ []
more_clauses old new c d e f = e ∙ ap (λ (x : List Lit). old ++ x ∷ []) f

still_clauses : (v w : ℕ) (old new : List (List Lit)) (c : List Lit) → are_clauses v old ≡ true → new ≡ old ++ c ∷ [] → w ≡ v → is_ascending c ≡ true → all_below v c ≡ true → are_clauses w new ≡ true
still_clauses v w old new c g e f a b = rw (e, f) (are_clauses-push v old c g (and_from (is_ascending c) (all_below v c) a b))

pub jump_level-level-requires : goal.jump_level-level-requires
jump_level-level-requires c = subst (λ (ls : List Lit). all_below c.args.trail.now.vars ls ≡ true) (sym c.lits.ensures.lits) c.requires.clause

pub returns-clause-clauses : goal.returns-clause-clauses
returns-clause-clauses c = more_clauses c.args.clauses.now c.push.new.self c.args.line.now.clause c.lits-2.result.now c.in_ok-push.ensures.pushed c.lits-2.ensures.lits

pub returns-clause-in_range : goal.returns-clause-in_range
returns-clause-in_range c =
    let more = more_clauses c.args.clauses.now c.push.new.self c.args.line.now.clause c.lits-2.result.now c.in_ok-push.ensures.pushed c.lits-2.ensures.lits in
    still_clauses c.args.trail.now.vars c.back_to.new.self.vars c.args.clauses.now c.push.new.self c.args.line.now.clause c.requires.in_range more c.back_to.ensures.vars c.lits.ensures.ascending c.requires.clause

pub returns-clause-trail : goal.returns-clause-trail
returns-clause-trail c =
    let more = more_clauses c.args.clauses.now c.push.new.self c.args.line.now.clause c.lits-2.result.now c.in_ok-push.ensures.pushed c.lits-2.ensures.lits in
    let jump = subst (λ (ls : List Lit). IsJump c.args.trail.now.entries ls c.jump_level-level.result) c.lits.ensures.lits c.jump_level-level.ensures.jump in
    subst (λ (es : List Entry). IsTrail c.push.new.self es) (sym c.back_to.ensures.entries)
    (subst (λ (cs : List (List Lit)). IsTrail cs (back_to c.jump_level-level.result c.args.trail.now.entries)) (sym more) (IsTrail-learn c.args.clauses.now c.args.trail.now.entries c.args.line.now.clause c.jump_level-level.result c.requires.trail c.requires.learnt jump))
