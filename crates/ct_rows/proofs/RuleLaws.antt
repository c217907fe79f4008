-- What holds where no rule fails.
use Rattle.std.proofs.Common.{◌≡◌, Bool, true, false, List, [], ◌∷◌, Option, Some, None, refl}
use Rattle.std.specs.List.{AllByRecursion}
use Rattle.std.specs.Option.{option_or, option_map}
use Rattle.ct_rows.specs.Rules.{unless, first_of}

pub option_or-none : {X : Type 0} (first second : Option X) → option_or first second ≡ None → (first ≡ None) × (second ≡ None)
option_or-none None second none = (refl, none)
option_or-none (Some x) second none = absurd cc

pub option_map-none : {X Y : Type 0} (f : X → Y) (o : Option X) → option_map f o ≡ None → o ≡ None
option_map-none f None none = refl
option_map-none f (Some x) none = absurd cc

pub unless-none : {R : Type 0} (holds : Bool) (refusal : R) → unless holds refusal ≡ None → holds ≡ true
unless-none true refusal none = refl
unless-none false refusal none = absurd cc

-- no rule fails where none is the first to fail
pub first_of-none : {R : Type 0} (rules : List (Option R)) → first_of rules ≡ None → AllByRecursion (λ rule. rule ≡ None) rules
first_of-none [] none = tt
first_of-none (first ∷ others) none =
    let both = option_or-none first (first_of others) none in
    (both.0, first_of-none others both.1)
