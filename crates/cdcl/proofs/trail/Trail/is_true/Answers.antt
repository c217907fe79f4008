use Rattle.std.proofs.Common.{Bool, sym, subst}
use Rattle.cdcl.specs.Trail.{lits_of}
use Rattle.cdcl.specs.Status.{IsValue}
use Rattle.cnf_form.proofs.NewsLaws.{free-has, distinct-flipped}
use Rattle.std.proofs.Common.{Some, refl}
use Rattle.cdcl.proofs.trail.Trail.is_true.Goals as goal

pub returns-in-Some-false : goal.returns-in-Some-false
returns-in-Some-false c =
    sym (distinct-flipped (lits_of c.args.self.now.entries) c.args.lit c.value.ensures.distinct (subst (λ (b : Bool). IsValue (lits_of c.args.self.now.entries) c.args.lit (Some b)) c.in-Some-false.field-0-test c.in-Some-false.ensures.value))

pub returns-in-None : goal.returns-in-None
returns-in-None c = sym (free-has (lits_of c.args.self.now.entries) c.args.lit.var c.args.lit c.in-None.ensures.value refl)
