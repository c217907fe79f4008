use Rattle.std.proofs.Common.{◌≡◌, ℕ, ◌<◌, ◌+◌, true, false, List, length, take, get_or, sym, ◌∙◌, subst, inl, inr}
use Rattle.std.proofs.lemmas.List.{take_more}
use Rattle.cnf_form.specs.declared.lit.Lit.{Lit}
use Rattle.cnf_form.specs.Literals.{flip, has}
use Rattle.cdcl.specs.declared.entry.Entry.{Entry}
use Rattle.cdcl.specs.Trail.{lits_of, below}
use Rattle.cdcl.specs.Analysis.{AreOthersLower}
use Rattle.cdcl.proofs.GivenLaws.{has-at, below-at, has-push, lit_differs, lit_same}
use Rattle.cdcl.proofs.analysis.has_other.Goals as goal
use Rattle.cdcl.proofs.analysis.has_other.Goals.{else-ne-via-then-ne+else-is_current, else-ne-via-else-ne}

pub is_current-requires-clause-in_range : goal.is_current-requires-clause-in_range
is_current-requires-clause-in_range c = below-at c.args.trail.now.vars c.args.lits.now c.loop-l.l-index _ c.requires.in_range c.loop-l-test.true

pub is_current-requires-clause-falsified : goal.is_current-requires-clause-falsified
is_current-requires-clause-falsified c = c.requires.falsified _ (has-at c.args.lits.now c.loop-l.l-index _ c.loop-l-test.true)

pub returns-then-is_current : goal.returns-then-is_current
returns-then-is_current c = record {
  literal = get_or c.args.lits.now c.loop-l.l-index (record { var = 0; negated = false });
  of_clause = has-at c.args.lits.now c.loop-l.l-index (record { var = 0; negated = false }) c.loop-l-test.true;
  differs = lit_differs (get_or c.args.lits.now c.loop-l.l-index (record { var = 0; negated = false })) c.args.lit (sym c.if-ne.ensures);
  current = c.if-is_current.ensures;
}

lower_more : (es : List Entry) (ls : List Lit) (i : ℕ) (d l : Lit) → i < length ls → AreOthersLower es (take i ls) l → ((get_or ls i d ≡ l → ⊥) → has (lits_of (below es)) (flip (get_or ls i d)) ≡ true) → AreOthersLower es (take (i + 1) ls) l
lower_more es ls i d l low h here k m n = elim (has-push (take i ls) (get_or ls i d) k (subst (λ (xs : List Lit). has xs k ≡ true) (take_more ls i d low) m)) [
  | inl t ↦ h k t n
  | inr e ↦ subst (λ (x : Lit). has (lits_of (below es)) (flip x) ≡ true) (sym e) (here (λ (q : get_or ls i d ≡ l). n (e ∙ q)))
]

pub loop-l-preserved : goal.loop-l-preserved
loop-l-preserved c =
    let d : Lit = record { var = 0; negated = false } in
    let x = get_or c.args.lits.now c.loop-l.l-index d in
    let here : (x ≡ c.args.lit → ⊥) → has (lits_of (below c.args.trail.now.entries)) (flip x) ≡ true = elim c.else-ne.branch [
      | else-ne-via-then-ne+else-is_current w ↦ λ (_ : x ≡ c.args.lit → ⊥). w.if-is_current.ensures
      | else-ne-via-else-ne w ↦ λ (n : x ≡ c.args.lit → ⊥). absurd (n (lit_same x c.args.lit (sym w.if-ne.ensures)))
    ] in
    lower_more c.args.trail.now.entries c.args.lits.now c.loop-l.l-index d c.args.lit c.loop-l-test.true c.loop-l.invariant here
