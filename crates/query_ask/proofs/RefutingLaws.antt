-- A refutation isn't rejected.
use Rattle.std.proofs.Common.{◌≡◌, ℕ, zero, suc, false, List, [], ◌∷◌, ◌++◌, map, take, Some, Result, Err, sym, ◌∙◌, subst, append_assoc}
use Rattle.std.specs.Prelude.{slice_get, IfErr}
use Rattle.std.proofs.lemmas.Bool.{false≢true}
use Rattle.std.proofs.lemmas.List.{append-nil}
use Rattle.cnf_form.specs.declared.lit.Lit.{Lit}
use Rattle.cnf_form.specs.declared.line.Line.{Line}
use Rattle.cnf_form.specs.Lines.{clause_of}
use Rattle.cnf_form.specs.Derivation.{IsDerived, IsDerivation, IsFirstUnderived, IsRefutation, older_clauses, ends_empty}
use Rattle.proof_check.specs.declared.rejected.Rejected.{Rejected}
use Rattle.proof_check.specs.declared.rejected.Rejected.TheVariants.{BadLine}
use Rattle.proof_check.specs.Rejection.{IsRejected}

same_line : (l m : Line) → Some l ≡ Some m → l ≡ m
same_line l m e = cc

derived_at : (older : List (List Lit)) (lines : List Line) (k : ℕ) (line : Line) → IsDerivation older lines → slice_get lines k ≡ Some line → IsDerived (older_clauses older (take k lines)) line
derived_at older [] k line d h = cc
derived_at older (l ∷ lines) zero line d h =
    let e : l ≡ line = same_line l line h in
    let P : Line → Type 0 = λ m. IsDerived older m in
    let Q : List (List Lit) → Type 0 = λ cs. IsDerived cs line in
    subst Q (sym (append-nil older)) (subst P e d.0)
derived_at older (l ∷ lines) (suc k) line d h =
    let Q : List (List Lit) → Type 0 = λ cs. IsDerived cs line in
    subst Q (append_assoc older (l.clause ∷ []) (map clause_of (take k lines))) (derived_at (older ++ l.clause ∷ []) lines k line d.1 h)

pub not_underived : (clauses : List (List Lit)) (lines : List Line) (k : ℕ) → IsRefutation clauses lines → IsFirstUnderived clauses lines k → ⊥
not_underived clauses lines k r f = f.underived (derived_at clauses lines k f.line r.derivation f.here)

pub not_open : (clauses : List (List Lit)) (lines : List Line) → IsRefutation clauses lines → ends_empty lines ≡ false → ⊥
not_open clauses lines r off = false≢true (sym off ∙ r.ends)

pub never_bad : {T : Type 0} (r : Result T Rejected) (e : Rejected) (k : ℕ) (clauses : List (List Lit)) (lines : List Line) → IfErr r (IsRejected clauses lines) → r ≡ Err e → e ≡ BadLine k → IsRefutation clauses lines → ⊥
never_bad {T} r e k clauses lines given is bad refuted =
    let P : Result T Rejected → Type 0 = λ x. IfErr x (IsRejected clauses lines) in
    let Q : Rejected → Type 0 = λ x. IsRejected clauses lines x in
    not_underived clauses lines k refuted (subst Q bad (subst P is given))
