use Rattle.std.proofs.Common.{List, get_or, sym, ap, false, arith}
use Rattle.ct_pairs.specs.declared.place.Place.TheVariants.{Register}
use Rattle.ct_pairs.specs.declared.input_byte.InputByte.{InputByte}
use Rattle.rel_step.proofs.Growing.{IsHere-grows}
use Rattle.rel_step.proofs.RootLaws.{place_at, IsStarted-more}
use Rattle.rel_step.proofs.root.place_next.Goals as goal

abbrev no_input : InputByte
no_input = record { place = Register 0 0; secret = false }

pub hold-requires-clause-fits : goal.hold-requires-clause-fits
hold-requires-clause-fits c = omega (arith, c.args.job.now.limits.input_count)

pub hold-requires-clause-below : goal.hold-requires-clause-below
hold-requires-clause-below c = c.requires.started.variables

pub place-requires-clause-here : goal.place-requires-clause-here
place-requires-clause-here c = IsHere-grows _ _ 2 _ c.in_ok-held.ensures.extends c.requires.started.here

pub place-requires-clause-place : goal.place-requires-clause-place
place-requires-clause-place c = rw c.as_slice.ensures (place_at c.args.job.now _ c.args.count no_input c.requires.started.image c.requires.inside)

pub returns : goal.returns
returns c =
    IsStarted-more c.args.job.now c.args.count _ _ _ (get_or c.as_slice.result.now c.args.count no_input) no_input c.in_ok-held.held c.args.here.now _ c.requires.inside (ap (λ (xs : List InputByte). get_or xs c.args.count no_input) (sym c.as_slice.ensures)) c.requires.started c.in_ok-held.ensures.extends c.in_ok-held.ensures.below c.in_ok-held.ensures.value c.in_ok-place.ensures
