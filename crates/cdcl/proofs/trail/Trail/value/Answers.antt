use Rattle.std.proofs.Common.{◌≡◌, Bool, true, false, not, refl, sym, subst, Some, List}
use Rattle.std.proofs.Math.Bool.{beq}
use Rattle.cnf_form.specs.declared.lit.Lit.{Lit}
use Rattle.cnf_form.specs.Literals.{flip, has}
use Rattle.cdcl.specs.declared.entry.Entry.{Entry}
use Rattle.cdcl.specs.declared.mark.Mark.{Mark}
use Rattle.cdcl.specs.Trail.{lits_of, mark_of}
use Rattle.cdcl.proofs.TrailLaws.{mark-some, mark-none}
use Rattle.cdcl.proofs.trail.Trail.value.Goals as goal

true_lit : (es : List Entry) (l : Lit) (m : Mark) → mark_of es l.var ≡ Some m → m.negated ≡ l.negated → has (lits_of es) l ≡ true
true_lit es l m e s = subst (λ (b : Bool). has (lits_of es) (record { var = l.var; negated = b }) ≡ true) s (mark-some es l.var m e)

same : (a b : Bool) → beq a b ≡ true → a ≡ b
same true true n = refl
same true false n = cc
same false true n = cc
same false false n = refl

other : (a b : Bool) → beq a b ≡ false → a ≡ not b
other true true n = cc
other true false n = refl
other false true n = refl
other false false n = cc

pub returns-in-Some-clause-value : goal.returns-in-Some-clause-value
returns-in-Some-clause-value c = true_lit c.args.self.now.entries c.args.lit c.in-Some.mark (sym c.in-Some.ensures) (same _ _ c.if-mark-lit.true)

pub returns-in-Some-2-clause-value : goal.returns-in-Some-2-clause-value
returns-in-Some-2-clause-value c =
    true_lit c.args.self.now.entries (flip c.args.lit) c.in-Some.mark (sym c.in-Some.ensures) (other _ _ c.if-mark-lit.false)

pub returns-in-None-clause-value : goal.returns-in-None-clause-value
returns-in-None-clause-value c = mark-none c.args.self.now.entries c.args.lit.var (sym c.in-None.ensures)
