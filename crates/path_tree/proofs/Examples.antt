-- The machine on a pool of two seats: one takes the path and splits it, each closes a kid, and the first hears that it is finished.
use Rattle.std.proofs.Common.{ℕ, List, [], ◌∷◌, refl, arith}
use Rattle.path_tree.specs.declared.path.Path.{Path}
use Rattle.path_tree.specs.declared.seat.Seat.TheVariants.{Free, Ended}
use Rattle.path_tree.specs.declared.entered.PoolCall.{PoolCall}
use Rattle.path_tree.specs.declared.entered.PoolCall.TheVariants.{Took, Finished, Split, Closed}
use Rattle.path_tree.specs.declared.entered.Entered.{Entered}
use Rattle.path_tree.specs.PoolMachine.{Pool, whole_path, Needs, moved, Steps, IsLegal}

abbrev entry : ℕ → PoolCall → Entered
entry seat call = record { seat = seat; call = call }

step : (pool : Pool) (seat : ℕ) (call : PoolCall) (kids : List Path) → Needs pool seat call kids → Steps pool (entry seat call) (moved pool seat call kids)
step pool seat call kids needs = record { kids = kids; needs = needs; change = refl }

two_seats : (a b : Path) → IsLegal (record {
  history = entry 0 (Took 0) ∷ entry 0 (Split 0 1 2) ∷ entry 1 (Took 2) ∷ entry 0 (Closed 1) ∷ entry 1 (Closed 2) ∷ entry 0 Finished ∷ [];
  pool = record {
    paths = whole_path ∷ a ∷ b ∷ [];
    waiting = [];
    seats = Ended ∷ Free ∷ [];
    done = 0 ∷ 1 ∷ 2 ∷ [];
  };
})
two_seats a b = (
  _,
  step _ 0 (Took 0) [] (refl, refl),
  (
    _,
    step _ 0 (Split 0 1 2) (a ∷ b ∷ []) (refl, omega arith, refl, refl),
    (
      _,
      step _ 1 (Took 2) [] (refl, refl),
      (
        _,
        step _ 0 (Closed 1) [] refl,
        (
          _,
          step _ 1 (Closed 2) [] refl,
          (
            _,
            step _ 0 Finished [] (refl, refl, refl),
            refl,
          ),
        ),
      ),
    ),
  ),
)
