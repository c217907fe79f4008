use Rattle.std.proofs.Common.{arith, refl}
use Rattle.bv_range.proofs.Settles.{settled_within, settled_shape, first_of_two, zeros_lt}
use Rattle.bv_range.proofs.settling.settled.Goals as goal

pub overflow_sub-mask : goal.overflow_sub-mask
overflow_sub-mask c = rw c.ones_from-high.ensures
    (omega (arith, c.greatest-mask.ensures, zeros_lt c.args.width c.args.bits.zeros c.args.least c.first_shared-place.result c.greatest-mask.result c.greatest-mask.ensures c.requires.zeros))

pub returns : goal.returns
returns c = rw c.ones_from-high.ensures (record {
  right = λ x lt bits low high.
      settled_within c.args.width c.first_shared-place.result c.args.least c.args.most c.args.bits.zeros c.args.bits.ones c.greatest-mask.result x c.greatest-mask.ensures c.requires.zeros lt
      c.ranges.least.fits c.first_shared-place.ensures.shared bits low high _ refl refl (rw (← c.ones_from-high.ensures) c.max.ensures) (rw (← c.ones_from-high.ensures) c.min.ensures);
  shape = settled_shape c.args.width c.first_shared-place.result c.args.least c.args.most c.args.bits.zeros c.args.bits.ones c.greatest-mask.result c.greatest-mask.ensures c.requires.zeros
      _ refl refl (rw (← c.ones_from-high.ensures) c.max.ensures) (rw (← c.ones_from-high.ensures) c.min.ensures);
  has_zeros = first_of_two _ _;
  has_ones = first_of_two _ _;
})
