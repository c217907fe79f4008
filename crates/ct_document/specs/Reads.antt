-- How a part of a policy is read, where that takes memory.
use Rattle.std.specs.Prelude.{◌≡◌, ◌≢◌, Option, Some, None, Result, Ok, Err}
use Rattle.ct_document.specs.declared.refusal.PolicyRefusal.{PolicyRefusal}
use Rattle.ct_document.specs.declared.refusal.PolicyRefusal.TheVariants.{Memory, Field}

-- the result is what the part stands for, and P2 where it stands for nothing, unless memory ran out
abbrev pub Reads : {T : Type 0} → Option T → Result T PolicyRefusal → Type 0
Reads meaning (Ok value) = meaning ≡ Some value
Reads meaning (Err refusal) = refusal ≢ Memory → (refusal ≡ Field) × (meaning ≡ None)
