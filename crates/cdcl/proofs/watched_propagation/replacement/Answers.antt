use Rattle.std.proofs.Common.{◌≡◌, ℕ, ◌<◌, ◌+◌, true, false, List, length, take, get_or, sym, ◌∙◌, subst, inl, inr}
use Rattle.std.proofs.lemmas.List.{take_more}
use Rattle.cnf_form.specs.declared.lit.Lit.{Lit}
use Rattle.cnf_form.specs.Literals.{flip, has}
use Rattle.cdcl.specs.Trail.{lits_of}
use Rattle.cdcl.specs.Watch.{NoReplacement}
use Rattle.cdcl.proofs.GivenLaws.{has-at, below-at, has-push, lit_differs, lit_same}
use Rattle.cdcl.proofs.watched_propagation.replacement.Goals as goal
use Rattle.cdcl.proofs.watched_propagation.replacement.Goals.{else-ne-via-then-ne+then-ne-2+else-not-is_false, else-ne-via-then-ne+else-ne-2, else-ne-via-else-ne}

pub is_false-requires : goal.is_false-requires
is_false-requires c = below-at c.args.trail.now.vars c.args.lits.now c.loop-l.l-index _ c.requires c.loop-l-test.true

pub returns-then-not-is_false : goal.returns-then-not-is_false
returns-then-not-is_false c =
    let x = get_or c.args.lits.now c.loop-l.l-index (record { var = 0; negated = false }) in
    record {
      of_clause = has-at c.args.lits.now c.loop-l.l-index (record { var = 0; negated = false }) c.loop-l-test.true;
      not_this = lit_differs x c.args.lit (sym c.if-ne.ensures);
      not_other = lit_differs x c.args.other (sym c.if-ne-2.ensures);
      not_false = c.if-not-is_false.ensures;
    }

none_more : (given ls : List Lit) (i : ℕ) (d l o : Lit) → i < length ls → NoReplacement given (take i ls) l o → ((get_or ls i d ≡ l → ⊥) → (get_or ls i d ≡ o → ⊥) → has given (flip (get_or ls i d)) ≡ true) → NoReplacement given (take (i + 1) ls) l o
none_more given ls i d l o low h here k m n p = elim (has-push (take i ls) (get_or ls i d) k (subst (λ (xs : List Lit). has xs k ≡ true) (take_more ls i d low) m)) [
  | inl t ↦ h k t n p
  | inr e ↦ subst (λ (x : Lit). has given (flip x) ≡ true) (sym e) (here (λ (q : get_or ls i d ≡ l). n (e ∙ q)) (λ (q : get_or ls i d ≡ o). p (e ∙ q)))
]

pub loop-l-preserved : goal.loop-l-preserved
loop-l-preserved c =
    let d : Lit = record { var = 0; negated = false } in
    let x = get_or c.args.lits.now c.loop-l.l-index d in
    let given = lits_of c.args.trail.now.entries in
    let here : (x ≡ c.args.lit → ⊥) → (x ≡ c.args.other → ⊥) → has given (flip x) ≡ true = elim c.else-ne.branch [
      | else-ne-via-then-ne+then-ne-2+else-not-is_false w ↦ λ (_ : x ≡ c.args.lit → ⊥) (_ : x ≡ c.args.other → ⊥). w.if-not-is_false.ensures
      | else-ne-via-then-ne+else-ne-2 w ↦ λ (_ : x ≡ c.args.lit → ⊥) (n : x ≡ c.args.other → ⊥). absurd (n (lit_same x c.args.other (sym w.if-ne-2.ensures)))
      | else-ne-via-else-ne w ↦ λ (n : x ≡ c.args.lit → ⊥) (_ : x ≡ c.args.other → ⊥). absurd (n (lit_same x c.args.lit (sym w.if-ne.ensures)))
    ] in
    none_more given c.args.lits.now c.loop-l.l-index d c.args.lit c.args.other c.loop-l-test.true c.loop-l.invariant here
