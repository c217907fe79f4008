use Rattle.std.proofs.Common.{refl, sym, ◌∙◌, arith}
use Rattle.std.proofs.lemmas.Bool.{eq-eqb, ne_eqb}
use Rattle.rel_memory.proofs.selecting.by_lowest.Goals as goal

pub returns-in_ok-byte-clause-one : goal.returns-in_ok-byte-clause-one
returns-in_ok-byte-clause-one c = λ env v run bit right. c.in_ok-byte.ensures.value env v run right ∙ (rw (eq-eqb (v c.args.bit.0) 0 (bit ∙ c.if-number-eq0.true)) refl)

pub returns-in_ok-byte-clause-other : goal.returns-in_ok-byte-clause-other
returns-in_ok-byte-clause-other c = λ env v run small bit right. c.in_ok-byte.ensures.value env v run right ∙ (rw (ne_eqb (v c.args.bit.0) 0 (λ e. bit (e ∙ sym c.if-number-eq0.true))) refl)

pub returns-in_ok-byte-2-clause-one : goal.returns-in_ok-byte-2-clause-one
returns-in_ok-byte-2-clause-one c = λ env v run bit right. c.in_ok-byte-2.ensures.value env v run right ∙ (rw (ne_eqb (v c.args.bit.0) 0 (λ e. c.if-number-eq0.false (sym bit ∙ e))) refl)

pub returns-in_ok-byte-2-clause-other : goal.returns-in_ok-byte-2-clause-other
returns-in_ok-byte-2-clause-other c = λ env v run small bit right. c.in_ok-byte-2.ensures.value env v run right ∙ (rw (eq-eqb (v c.args.bit.0) 0 (omega (arith, c.if-number-eq0.false, bit, small))) refl)
