use Rattle.std.proofs.Common.{length, take, List, Option, subst, ap, ◌∙◌}
use Rattle.untaint.specs.declared.equality.Equality.{Equality}
use Rattle.untaint.specs.Kept.{IsOf}
use Rattle.untaint.specs.Peeling.{ComesOf}
use Rattle.untaint.proofs.PeelLaws.{if_some-weaker}
use Rattle.untaint.proofs.KeepLaws.{IsKeeping, keeping_more, keeping_stays}
use Rattle.untaint.proofs.keeping.keep.Goals as goal

pub returns-in_err-insert-clause-stays : goal.returns-in_err-insert-clause-stays
returns-in_err-insert-clause-stays c =
    ap (λ (xs : List Equality). take (length c.args.kept.now.keys) xs) c.in_err-insert.ensures.err
    ∙ keeping_stays c.args.arena.now c.args.first c.args.kept.now.keys c.loop-next.kept.keys c.loop-next.next c.loop-next.invariant.keeping

pub loop-next-preserved : goal.loop-next-preserved
loop-next-preserved c =
    let P : Option Equality → Type 0 = λ o. IsKeeping c.args.arena.now c.args.first c.args.kept.now.keys c.loop-next.kept.keys o in
    record {
      inside = if_some-weaker (ComesOf c.args.arena.now c.in-Some.one) (IsOf c.args.arena.now) c.peeled-next.result (λ x comes. comes.inside) c.peeled-next.ensures.comes;
      keeping = keeping_more c.args.arena.now c.args.first c.in-Some.one c.args.kept.now.keys c.loop-next.kept.keys c.insert.new.self.keys c.peeled-next.result
          (subst P c.in-Some.is c.loop-next.invariant.keeping) c.in_ok-insert.ensures.keys c.peeled-next.ensures.peeled;
    }

pub returns-clause-stays : goal.returns-clause-stays
returns-clause-stays c = keeping_stays c.args.arena.now c.args.first c.args.kept.now.keys c.loop-next.kept.keys c.loop-next.next c.loop-next.invariant.keeping
