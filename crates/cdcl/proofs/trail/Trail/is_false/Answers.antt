use Rattle.std.proofs.Common.{Bool, subst}
use Rattle.cnf_form.specs.Literals.{flip}
use Rattle.cdcl.specs.Trail.{lits_of}
use Rattle.cdcl.specs.Status.{IsValue}
use Rattle.cnf_form.proofs.NewsLaws.{free-has, distinct-flip}
use Rattle.std.proofs.Common.{Some, refl}
use Rattle.cdcl.proofs.trail.Trail.is_false.Goals as goal

pub returns-in-Some-true : goal.returns-in-Some-true
returns-in-Some-true c =
    distinct-flip (lits_of c.args.self.now.entries) c.args.lit c.value.ensures.distinct (subst (λ (b : Bool). IsValue (lits_of c.args.self.now.entries) c.args.lit (Some b)) c.in-Some-true.field-0-test c.in-Some-true.ensures.value)

pub returns-in-None : goal.returns-in-None
returns-in-None c = free-has (lits_of c.args.self.now.entries) c.args.lit.var (flip c.args.lit) c.in-None.ensures.value refl
