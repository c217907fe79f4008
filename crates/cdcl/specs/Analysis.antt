-- The way from a conflict back to the clause that is learnt.
use Rattle.std.specs.Prelude.{ℕ, ◌≡◌, ◌<◌, true, false, Some, List}
use Rattle.cnf_form.specs.declared.lit.Lit.{Lit}
use Rattle.cnf_form.specs.Literals.{flip, has}
use Rattle.cnf_form.specs.Derivation.{chain_clause}
use Rattle.cdcl.specs.declared.entry.Entry.{Entry}
use Rattle.cdcl.specs.Trail.{lits_of, level_of, below, AllFalse, OthersFalse, IsTrail}

-- the chain so far gives the clause, which is false in the entries es that are left of the whole trail
pub record IsAnalysis (clauses : List (List Lit)) (full es : List Entry) (clause : List Lit) (chain : List ℕ) : Type 0 where
  pub derived : chain_clause clauses chain ≡ Some clause
  pub false : AllFalse (lits_of es) clause
  pub trail : IsTrail clauses es
  pub part : (l : Lit) → has (lits_of es) l ≡ true → has (lits_of full) l ≡ true
  pub level : level_of es ≡ level_of full
  pub lower : 0 < level_of full → below es ≡ below full
  pub current : 0 < level_of full → AllFalse (lits_of (below full)) clause → ⊥

-- another literal of the clause than this one is of the current level
pub record IsOther (es : List Entry) (clause : List Lit) (this : Lit) : Type 0 where
  pub literal : Lit
  pub of_clause : has clause literal ≡ true
  pub differs : literal ≡ this → ⊥
  pub current : has (lits_of (below es)) (flip literal) ≡ false

-- all other literals of the clause than this one are of lower levels
abbrev pub AreOthersLower : List Entry → List Lit → Lit → Type 0
AreOthersLower es clause this = OthersFalse (lits_of (below es)) clause this
