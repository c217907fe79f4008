use Rattle.std.proofs.Common.{◌≡◌, ◌+◌, ◌++◌, Bool, true, false, drop, get_or, Option, Some, sym, ◌∙◌, subst}
use Rattle.std.specs.Option.{option_to_list, IfSome}
use Rattle.cnf_form.specs.declared.lit.Lit.{Lit}
use Rattle.cnf_form.specs.News.{is_free, unfalsified}
use Rattle.cdcl.specs.Trail.{lits_of}
use Rattle.cdcl.specs.Status.{IsValue}
use Rattle.cdcl.proofs.GivenLaws.{quiet_true, quiet_found, first_found, has-at, step_false, below-at}
use Rattle.cdcl.proofs.status.status_of.Goals as goal
use Rattle.cdcl.proofs.status.status_of.Goals.{in-Some-false, in-None+else-is_some}

pub value-requires : goal.value-requires
value-requires c = below-at c.args.trail.now.vars c.args.lits.now c.loop-lit.lit-index _ c.requires c.loop-lit-test.true

pub returns-in-Some-true : goal.returns-in-Some-true
returns-in-Some-true c =
    let given = lits_of c.args.trail.now.entries in
    let lit = get_or c.args.lits.now c.loop-lit.lit-index (record { var = 0; negated = false }) in
    let value = c.in-Some-true.ensures.value in
    quiet_true given c.args.lits.now lit c.value.ensures.distinct (has-at c.args.lits.now c.loop-lit.lit-index (record { var = 0; negated = false }) c.loop-lit-test.true) (subst (λ (b : Bool). IsValue given lit (Some b)) c.in-Some-true.field-0-test value)

pub returns-then-is_some : goal.returns-then-is_some
returns-then-is_some c =
    quiet_found (lits_of c.args.trail.now.entries) c.args.lits.now c.loop-lit.found c.loop-lit.lit-index (record { var = 0; negated = false }) (sym c.if-is_some.ensures) c.loop-lit-test.true c.in-None.ensures.value c.loop-lit.invariant.split

pub loop-lit-preserved : goal.loop-lit-preserved
loop-lit-preserved c =
    let given = lits_of c.args.trail.now.entries in
    let clause = c.args.lits.now in
    let k = c.loop-lit.lit-index in
    let d : Lit = record { var = 0; negated = false } in
    let Here : Option Lit → Type 0 = λ (found : Option Lit). (unfalsified given clause ≡ option_to_list found ++ unfalsified given (drop (k + 1) clause)) × IfSome found (λ lit. is_free given lit.var ≡ true) in
    let both : Here c.match-value.found = elim c.match-value.branch [
      | in-Some-false w ↦ subst Here (sym w.found-is) (step_false given clause c.loop-lit.found k d c.loop-lit-test.true (subst (λ (b : Bool). IsValue given (get_or clause k d) (Some b)) w.in-Some-false.field-0-test w.in-Some-false.ensures.value) c.loop-lit.invariant.split, c.loop-lit.invariant.unset)
      | in-None+else-is_some w ↦ subst Here (sym w.found-is) (first_found given clause c.loop-lit.found k d (sym w.is_some.ensures ∙ w.if-is_some.false) c.loop-lit-test.true w.in-None.ensures.value c.loop-lit.invariant.split, w.in-None.ensures.value)
    ] in
    record { split = both.0; unset = both.1 }
