-- Facts of lines kept as clauses and chains.
use Rattle.std.proofs.Common.{◌≡◌, ℕ, zero, suc, List, [], ◌∷◌, ◌++◌, length, map, Some, refl, ◌∙◌, ap, arith}
use Rattle.std.specs.Prelude.{slice_get}
use Rattle.std.proofs.lemmas.Option.{same_Some}
use Rattle.cnf_form.specs.declared.lit.Lit.{Lit}
use Rattle.cnf_form.specs.declared.line.Line.{Line}
use Rattle.cnf_form.specs.Lines.{clause_of, chain_of, lines_of}

pub clauses_of-lines : (cs : List (List Lit)) (ns : List (List ℕ)) → length cs ≡ length ns → map clause_of (lines_of cs ns) ≡ cs
clauses_of-lines [] ns e = refl
clauses_of-lines (c ∷ cs) [] e = absurd (omega (arith, e))
clauses_of-lines (c ∷ cs) (n ∷ ns) e = ap (λ (rest : List (List Lit)). c ∷ rest) (clauses_of-lines cs ns (omega (arith, e)))

pub chains_of-lines : (cs : List (List Lit)) (ns : List (List ℕ)) → length cs ≡ length ns → map chain_of (lines_of cs ns) ≡ ns
chains_of-lines [] [] e = refl
chains_of-lines [] (n ∷ ns) e = absurd (omega (arith, e))
chains_of-lines (c ∷ cs) [] e = absurd (omega (arith, e))
chains_of-lines (c ∷ cs) (n ∷ ns) e = ap (λ (rest : List (List ℕ)). n ∷ rest) (chains_of-lines cs ns (omega (arith, e)))

pub length-lines_of : (cs : List (List Lit)) (ns : List (List ℕ)) → length cs ≡ length ns → length (lines_of cs ns) ≡ length cs
length-lines_of [] ns e = refl
length-lines_of (c ∷ cs) [] e = absurd (omega (arith, e))
length-lines_of (c ∷ cs) (n ∷ ns) e = ap suc (length-lines_of cs ns (omega (arith, e)))

pub lines_of-push : (cs : List (List Lit)) (ns : List (List ℕ)) (line : Line) → length cs ≡ length ns → lines_of (cs ++ line.clause ∷ []) (ns ++ line.chain ∷ []) ≡ lines_of cs ns ++ line ∷ []
lines_of-push [] [] line e = refl
lines_of-push [] (n ∷ ns) line e = absurd (omega (arith, e))
lines_of-push (c ∷ cs) [] line e = absurd (omega (arith, e))
lines_of-push (c ∷ cs) (n ∷ ns) line e = ap (λ (rest : List Line). record { clause = c; chain = n } ∷ rest) (lines_of-push cs ns line (omega (arith, e)))

-- a line, by its clause and its chain
pub line_at : (lines : List Line) (k : ℕ) (c : List Lit) (ns : List ℕ) → slice_get (map clause_of lines) k ≡ Some c → slice_get (map chain_of lines) k ≡ Some ns → slice_get lines k ≡ Some (record { clause = c; chain = ns })
line_at [] k c ns e f = cc
line_at (l ∷ ls) zero c ns e f = ap (λ (d : List Lit). Some (make d l.chain)) (same_Some _ _ e) ∙ ap (λ (d : List ℕ). Some (make c d)) (same_Some _ _ f)
  where
    make : List Lit → List ℕ → Line
    make c ns = record { clause = c; chain = ns }
line_at (l ∷ ls) (suc k) c ns e f = line_at ls k c ns e f
