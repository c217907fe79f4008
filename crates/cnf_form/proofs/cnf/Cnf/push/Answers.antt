use Rattle.std.proofs.Common.{◌≡◌, ℕ, true, List, [], ◌∷◌, ◌++◌, sym, subst}
use Rattle.std.specs.Prelude.{Result, Ok, Err, OnOk, OnErr}
use Rattle.cnf_form.specs.declared.lit.Lit.{Lit}
use Rattle.cnf_form.specs.Clauses.{is_clause, are_clauses}
use Rattle.cnf_form.proofs.ClauseLaws.{are_clauses-push}
use Rattle.cnf_form.proofs.cnf.Cnf.push.Goals as goal

still : {A B : Type 0} (v : ℕ) (old new : List (List Lit)) (c : List Lit) (result : Result A B) → are_clauses v old ≡ true → is_clause v c ≡ true → OnOk result (new ≡ old ++ c ∷ []) → OnErr result (new ≡ old) → are_clauses v new ≡ true
still v old new c (Ok x) good h pushed kept = subst (λ (cs : List (List Lit)). are_clauses v cs ≡ true) (sym pushed) (are_clauses-push v old c good h)
still v old new c (Err x) good h pushed kept = subst (λ (cs : List (List Lit)). are_clauses v cs ≡ true) (sym kept) good

pub invariant_of-self : goal.invariant_of-self
invariant_of-self c = record { in_range = still c.args.self.now.vars c.args.self.now.clauses c.push.new.self c.args.lits.now c.push.result c.args.self.now.in_range c.requires c.push.ensures.pushed c.push.ensures.kept }
