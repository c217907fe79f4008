use Rattle.std.proofs.Common.{Option, refl, sym, subst}
use Rattle.std.specs.Prelude.{IfSome}
use Rattle.untaint.specs.declared.equality.Equality.{Equality}
use Rattle.untaint.specs.Peeling.{peeled, ComesOf}
use Rattle.untaint.proofs.PeelLaws.{peeled_comes}
use Rattle.untaint.proofs.peeling.peeled.Goals as goal

pub returns-clause-peeled : goal.returns-clause-peeled
unfolding peeled
returns-clause-peeled c = rw c.inner.ensures (rw c.of.ensures (rw c.of-2.ensures refl))

pub returns-clause-comes : goal.returns-clause-comes
returns-clause-comes c =
    let P : Option Equality → Type 0 = λ o. IfSome o (ComesOf c.args.arena.now c.args.one) in
    subst P (sym (returns-clause-peeled c)) (peeled_comes c.args.arena.now c.law.ensures.typed c.args.one)
