-- Facts of derivations and of logs with one line more.
use Rattle.std.proofs.Common.{◌≡◌, ℕ, true, List, [], ◌∷◌, ◌++◌, map, None, refl, sym, ◌∙◌, ap, subst, append_assoc}
use Rattle.std.specs.Prelude.{fold}
use Rattle.std.proofs.lemmas.List.{append-nil}
use Rattle.cnf_form.specs.declared.lit.Lit.{Lit}
use Rattle.cnf_form.specs.declared.line.Line.{Line}
use Rattle.cnf_form.specs.Lines.{clause_of}
use Rattle.cnf_form.specs.Derivation.{resolved_with, IsDerived, IsDerivation, older_clauses, is_empty, ends_empty, IsRefutation}
use Rattle.cnf_form.specs.Spent.{IsNewLine, AreNewLines}

-- once a chain fails it stays so
pub fold-none : (older : List (List Lit)) (ns : List ℕ) → fold (resolved_with older) None ns ≡ None
fold-none older [] = refl
fold-none older (n ∷ ns) = fold-none older ns

-- one more line
pub IsDerivation-push : (older : List (List Lit)) (lines : List Line) (line : Line) → IsDerivation older lines → IsDerived (older_clauses older lines) line → IsDerivation older (lines ++ line ∷ [])
IsDerivation-push older [] line d here = (subst (λ cs. IsDerived cs line) (append-nil older) here, tt)
IsDerivation-push older (l ∷ ls) line d here =
    (d.0, IsDerivation-push (older ++ l.clause ∷ []) ls line d.1 (subst (λ cs. IsDerived cs line) (sym (append_assoc older (l.clause ∷ []) (map clause_of ls))) here))

pub AreNewLines-push : (older : List (List Lit)) (lines : List Line) (line : Line) → AreNewLines older lines → IsNewLine (older_clauses older lines) line → AreNewLines older (lines ++ line ∷ [])
AreNewLines-push older [] line d here = (subst (λ (cs : List (List Lit)). IsNewLine cs line) (append-nil older) here, tt)
AreNewLines-push older (l ∷ ls) line d here =
    (d.0, AreNewLines-push (older ++ l.clause ∷ []) ls line d.1 (subst (λ (cs : List (List Lit)). IsNewLine cs line) (sym (append_assoc older (l.clause ∷ []) (map clause_of ls))) here))

pub IsDerivation-new : (older : List (List Lit)) (lines : List Line) → AreNewLines older lines → IsDerivation older lines
IsDerivation-new older [] d = tt
IsDerivation-new older (l ∷ ls) d = (d.0.derived, IsDerivation-new (older ++ l.clause ∷ []) ls d.1)

pub older-push : (older : List (List Lit)) (lines : List Line) (line : Line) → older_clauses older (lines ++ line ∷ []) ≡ older_clauses older lines ++ line.clause ∷ []
older-push older lines line = ap (λ (cs : List (List Lit)). older ++ cs) (map-append-one lines line) ∙ sym (append_assoc older (map clause_of lines) (line.clause ∷ []))
  where
    map-append-one : (lines : List Line) (line : Line) → map clause_of (lines ++ line ∷ []) ≡ map clause_of lines ++ line.clause ∷ []
    map-append-one [] line = refl
    map-append-one (l ∷ ls) line = ap (λ (cs : List (List Lit)). l.clause ∷ cs) (map-append-one ls line)

ends_empty-push : (lines : List Line) (line : Line) → is_empty line.clause ≡ true → ends_empty (lines ++ line ∷ []) ≡ true
ends_empty-push [] line e = e
ends_empty-push (l ∷ []) line e = e
ends_empty-push (l ∷ m ∷ ms) line e = ends_empty-push (m ∷ ms) line e

-- the empty clause at level 0
pub IsRefutation-from : (formula : List (List Lit)) (lines : List Line) (line : Line) → AreNewLines formula lines → IsDerived (older_clauses formula lines) line → line.clause ≡ [] → IsRefutation formula (lines ++ line ∷ [])
IsRefutation-from formula lines line n d e = record {
  derivation = IsDerivation-push formula lines line (IsDerivation-new formula lines n) d;
  ends = ends_empty-push lines line (ap is_empty e);
}
