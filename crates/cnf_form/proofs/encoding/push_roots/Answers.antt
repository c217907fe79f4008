use Rattle.std.proofs.Common.{◌∙◌, List, arith, refl, ap, subst, sym, false}
use Rattle.std.proofs.lemmas.List.{take_more, take_all}
use Rattle.gate_form.specs.declared.wire.Wire.{Wire}
use Rattle.cnf_form.specs.declared.lit.Lit.{Lit}
use Rattle.cnf_form.specs.Writing.{IsBegun}
use Rattle.cnf_form.proofs.EncodingLaws.{is_clause-one, IsBegun-start, IsBegun-more}
use Rattle.cnf_form.proofs.encoding.push_roots.Goals as goal

pub push-requires-in-loop-root : goal.push-requires-in-loop-root
push-requires-in-loop-root c = is_clause-one c.loop-root.cnf.vars c.lit-in-loop-root.result
    (omega (arith, ap (λ (l : Lit). l.var) c.lit-in-loop-root.ensures, c.requires.roots c.loop-root.root-index (record { gate = 0; negated = false }) c.loop-root-test.true, c.loop-root.invariant.vars))

pub loop-root-init : goal.loop-root-init
loop-root-init c = record {
  vars = c.in_ok-push.ensures.vars;
  begun = rw c.requires.below (IsBegun-start _ _ (record { gate = 0; negated = false }) c.requires.some refl refl (rw (c.lit.ensures, c.requires.clauses) at c.in_ok-push.ensures.pushed));
}

pub loop-root-preserved : goal.loop-root-preserved
loop-root-preserved c = record {
  vars = c.in_ok-push-2.ensures.vars ∙ c.loop-root.invariant.vars;
  begun =
      (let P : List Wire → Type 0 = λ ws. IsBegun c.args.cnf.now.vars ws c.push-in-loop-root.new.self.clauses c.push-in-loop-root-2.new.self.items in
      subst P (sym (take_more c.args.roots.now c.loop-root.root-index (record { gate = 0; negated = false }) c.loop-root-test.true))
      (IsBegun-more _ _ _ _ _ _ _ c.loop-root.invariant.begun (c.requires.roots c.loop-root.root-index (record { gate = 0; negated = false }) c.loop-root-test.true)
      (rw c.lit-in-loop-root.ensures at c.in_ok-push-2.ensures.pushed) c.in_ok-push-3.ensures.items));
}

pub returns-clause-begun : goal.returns-clause-begun
returns-clause-begun c =
    let P : List Wire → Type 0 = λ ws. IsBegun c.args.cnf.now.vars ws c.loop-root.cnf.clauses c.loop-root.below.items in
    subst P (take_all c.loop-root.root-index c.args.roots.now (omega arith)) c.loop-root.invariant.begun
