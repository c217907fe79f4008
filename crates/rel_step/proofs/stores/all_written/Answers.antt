use Rattle.std.proofs.Common.{◌+◌, ◌*◌, refl, ◌∙◌, arith}
use Rattle.bv_expr.proofs.Growing.{Extends-then, AddsNoInput-then}
use Rattle.rel_step.proofs.Growing.{Extends-wider, HasWidth-grows, HasSides-grows}
use Rattle.rel_step.proofs.Writing.{writing_none, writing_more}
use Rattle.rel_step.proofs.stores.all_written.Goals as goal

pub loop-k-init : goal.loop-k-init
loop-k-init g c = record { writing = writing_none c.args.arena.now c.args.at.0 c.args.word 100 c.new-ones.result.items c.new-ones.ensures.items; passes = refl }

pub one_written-requires-clause-at : goal.one_written-requires-clause-at
one_written-requires-clause-at g c = HasWidth-grows c.args.arena.now c.loop-k.arena _ c.args.at.0 32 c.loop-k.invariant.writing.extends c.requires.at

pub one_written-requires-clause-word : goal.one_written-requires-clause-word
one_written-requires-clause-word g c = HasSides-grows c.args.arena.now c.loop-k.arena _ 32 c.args.word c.loop-k.invariant.writing.extends c.requires.word

pub loop-k-preserved : goal.loop-k-preserved
loop-k-preserved g c = record {
  writing = writing_more c.args.arena.now c.loop-k.arena c.one_written.new.arena c.args.at.0 c.args.word 100 c.loop-k.k (c.loop-k.k + 1) c.loop-k.ones.items c.in_ok-one.one c.push.new.self.items
      c.loop-k.invariant.writing c.in_ok-one.ensures.extends c.in_ok-one.ensures.no_input c.in_ok-one.ensures.written refl c.in_ok-push.ensures.items;
  passes = c.in_ok-one.ensures.passes ∙ c.loop-k.invariant.passes;
}

pub returns-in_err-one-clause-extends : goal.returns-in_err-one-clause-extends
returns-in_err-one-clause-extends g c =
    Extends-then c.args.arena.now c.loop-k.arena c.one_written.new.arena (100 * c.loop-k.k) 100 400 c.loop-k.invariant.writing.extends c.in_err-one.ensures.extends (omega arith)

pub returns-in_err-one-clause-no_input : goal.returns-in_err-one-clause-no_input
returns-in_err-one-clause-no_input g c = AddsNoInput-then c.args.arena.now c.loop-k.arena c.one_written.new.arena c.loop-k.invariant.writing.no_input c.in_err-one.ensures.no_input

pub returns-in_err-push-clause-extends : goal.returns-in_err-push-clause-extends
returns-in_err-push-clause-extends g c =
    Extends-then c.args.arena.now c.loop-k.arena c.one_written.new.arena (100 * c.loop-k.k) 100 400 c.loop-k.invariant.writing.extends c.in_ok-one.ensures.extends (omega arith)

pub returns-in_err-push-clause-no_input : goal.returns-in_err-push-clause-no_input
returns-in_err-push-clause-no_input g c = AddsNoInput-then c.args.arena.now c.loop-k.arena c.one_written.new.arena c.loop-k.invariant.writing.no_input c.in_ok-one.ensures.no_input

pub returns-clause-written : goal.returns-clause-written
returns-clause-written g c = c.loop-k.invariant.writing.written

pub returns-clause-count : goal.returns-clause-count
returns-clause-count g c = omega (arith, c.loop-k.invariant.writing.length_is)

pub returns-clause-extends : goal.returns-clause-extends
returns-clause-extends g c = Extends-wider c.args.arena.now c.loop-k.arena (100 * c.loop-k.k) 400 c.loop-k.invariant.writing.extends (omega arith)

pub returns-clause-no_input : goal.returns-clause-no_input
returns-clause-no_input g c = c.loop-k.invariant.writing.no_input
