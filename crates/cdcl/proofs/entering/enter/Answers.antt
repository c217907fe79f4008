use Rattle.std.proofs.Common.{◌≡◌, ◌+◌, true, false, List, [], length, take, get_or, refl, sym, subst, arith}
use Rattle.std.proofs.lemmas.Bool.{eqb-false}
use Rattle.std.proofs.lemmas.Option.{get_or_from_slice_get}
use Rattle.cnf_form.specs.declared.lit.Lit.{Lit}
use Rattle.cnf_form.specs.Literals.{has}
use Rattle.cdcl.specs.Trail.{lits_of, IsFalsified}
use Rattle.cdcl.specs.Watch.{IsEntered}
use Rattle.cdcl.proofs.GivenLaws.{has-at, below-at}
use Rattle.cdcl.proofs.PropagationLaws.{clause_low}
use Rattle.cdcl.proofs.EnterLaws.{entered_next, two_apart, one_only, match_else}
use Rattle.cdcl.proofs.entering.enter.Goals as goal

abbrev blank : Lit
blank = record { var = 0; negated = false }

pub watch-requires-clause-first : goal.watch-requires-clause-first
watch-requires-clause-first c =
    let low = clause_low c.args.trail.now.vars c.args.clauses.now c.args.number c.get-lits.result.now c.requires.in_range c.get-lits.ensures.clause in
    c.requires.entered.room _ (below-at c.args.trail.now.vars c.get-lits.result.now 0 blank low (let n = c.if-lits-gt1.true in omega arith))

pub watch-requires-clause-second : goal.watch-requires-clause-second
watch-requires-clause-second c =
    let low = clause_low c.args.trail.now.vars c.args.clauses.now c.args.number c.get-lits.result.now c.requires.in_range c.get-lits.ensures.clause in
    c.requires.entered.room _ (below-at c.args.trail.now.vars c.get-lits.result.now 1 blank low c.if-lits-gt1.true)

pub returns-then-lits-gt1-clause-found : goal.returns-then-lits-gt1-clause-found
returns-then-lits-gt1-clause-found c =
    let lits = c.get-lits.result.now in
    let two = c.if-lits-gt1.true in
    entered_next c.args.clauses.now c.args.number lits (record { first = get_or lits 0 blank; second = get_or lits 1 blank }) c.args.trail.now c.args.trail.now c.args.pairs.now.items c.watch.new.pairs.items c.args.watches.now c.watch.new.watches c.requires.entered c.get-lits.ensures.clause
    (record { first = has-at lits 0 blank (omega arith); second = has-at lits 1 blank two }) refl (λ k h. h) (λ e. absurd (two_apart lits blank c.get-lits.ensures.ascending two e)) c.in_ok-watch.ensures.pairs c.in_ok-watch.ensures.watches

pub watch-requires-2-clause-first : goal.watch-requires-2-clause-first
watch-requires-2-clause-first c =
    let lits = c.get-lits.result.now in
    let low = clause_low c.args.trail.now.vars c.args.clauses.now c.args.number lits c.requires.in_range c.get-lits.ensures.clause in
    let some = eqb-false (length lits) 0 (sym c.if-is_empty.ensures) in
    let first = below-at c.args.trail.now.vars lits 0 blank low (omega arith) in
    c.requires.entered.room _ first

pub watch-requires-2-clause-second : goal.watch-requires-2-clause-second
watch-requires-2-clause-second c =
    let lits = c.get-lits.result.now in
    let low = clause_low c.args.trail.now.vars c.args.clauses.now c.args.number lits c.requires.in_range c.get-lits.ensures.clause in
    let some = eqb-false (length lits) 0 (sym c.if-is_empty.ensures) in
    let first = below-at c.args.trail.now.vars lits 0 blank low (omega arith) in
    c.requires.entered.room _ first

pub settle-requires-clause-in_range : goal.settle-requires-clause-in_range
settle-requires-clause-in_range c =
    let lits = c.get-lits.result.now in
    let low = clause_low c.args.trail.now.vars c.args.clauses.now c.args.number lits c.requires.in_range c.get-lits.ensures.clause in
    let some = eqb-false (length lits) 0 (sym c.if-is_empty.ensures) in
    let first = below-at c.args.trail.now.vars lits 0 blank low (omega arith) in
    first

pub settle-requires-clause-of_clause : goal.settle-requires-clause-of_clause
settle-requires-clause-of_clause c =
    let lits = c.get-lits.result.now in
    let some = eqb-false (length lits) 0 (sym c.if-is_empty.ensures) in
    subst (λ (ls : List Lit). has ls (get_or lits 0 blank) ≡ true) (sym (get_or_from_slice_get c.args.clauses.now c.args.number lits [] c.get-lits.ensures.clause)) (has-at lits 0 blank (omega arith))

pub settle-requires-clause-others : goal.settle-requires-clause-others
settle-requires-clause-others c =
    let lits = c.get-lits.result.now in
    λ l h n. absurd (n (one_only lits blank l c.if-lits-gt1.false (subst (λ (ls : List Lit). has ls l ≡ true) (get_or_from_slice_get c.args.clauses.now c.args.number lits [] c.get-lits.ensures.clause) h)))

pub returns-clause-found : goal.returns-clause-found
returns-clause-found c =
    let lits = c.get-lits.result.now in
    let some = eqb-false (length lits) 0 (sym c.if-is_empty.ensures) in
    let first = get_or lits 0 blank in
    let e = c.in_ok-conflict.ensures in
    match_else c.in_ok-conflict.conflict (IsFalsified c.args.clauses.now c.args.number (lits_of c.settle.new.trail.entries)) (has (lits_of c.settle.new.trail.entries) first ≡ true) (IsEntered (take (c.args.number + 1) c.args.clauses.now) c.settle.new.trail c.watch-2.new.pairs.items c.watch-2.new.watches) e.answer
    (λ set. entered_next c.args.clauses.now c.args.number lits (record { first = first; second = first }) c.args.trail.now c.settle.new.trail c.args.pairs.now.items c.watch-2.new.pairs.items c.args.watches.now c.watch-2.new.watches c.requires.entered c.get-lits.ensures.clause
    (record { first = has-at lits 0 blank (omega arith); second = has-at lits 0 blank (omega arith) }) e.grows.vars e.more (λ _. set) c.in_ok-watch-2.ensures.pairs c.in_ok-watch-2.ensures.watches)
