use Rattle.std.proofs.Common.{◌≡◌, ℕ, zero, suc, ◌+◌, ◌-◌, List, [], ◌∷◌, length, map, Some, refl, sym, ◌∙◌, ap, arith, eqb}
use Rattle.std.specs.Prelude.{slice_get}
use Rattle.std.proofs.lemmas.Bool.{ne_eqb}
use Rattle.std.proofs.lemmas.Option.{same_Some}
use Rattle.cnf_form.specs.declared.lit.Lit.{Lit}
use Rattle.cnf_form.specs.declared.line.Line.{Line}
use Rattle.cnf_form.specs.Lines.{clause_of}
use Rattle.cnf_form.specs.Derivation.{is_empty, ends_empty}
use Rattle.proof_check.proofs.acceptance.is_ended.Goals as goal

last_is : (lines : List Line) (c : List Lit) (n : ℕ) → n + 1 ≡ length lines → slice_get (map clause_of lines) n ≡ Some c → is_empty c ≡ ends_empty lines
last_is [] c n e h = cc
last_is (l ∷ []) c zero e h = ap is_empty (sym (same_Some _ _ h))
last_is (l ∷ []) c (suc n) e h = absurd (omega (arith, e))
last_is (l ∷ m ∷ ms) c zero e h = absurd (omega (arith, e))
last_is (l ∷ m ∷ ms) c (suc n) e h = last_is (m ∷ ms) c n (omega (arith, e)) h

empty_test : (ls : List Lit) → eqb (length ls) 0 ≡ is_empty ls
empty_test [] = refl
empty_test (x ∷ xs) = ne_eqb (length (x ∷ xs)) 0 (λ e. omega arith)

pub returns-then-count-gt0 : goal.returns-then-count-gt0
returns-then-count-gt0 c =
    c.is_empty.ensures ∙ empty_test c.clause.result.now
    ∙ last_is c.args.log.now c.clause.result.now (c.len-count.result - 1) (omega (arith, c.len-count.ensures, c.if-count-gt0.true)) c.clause.ensures
