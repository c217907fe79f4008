-- The registers that a policy names, from one on.
use Rattle.std.proofs.Common.{◌≡◌, ℕ, ◌+◌, ◌<◌, ◌≤◌, true, ◌&&◌, List, length, get_or, drop, refl}
use Rattle.std.proofs.lemmas.List.{drop_more, drop_all}
use Rattle.ct_document.specs.declared.register.Register.{Register}
use Rattle.ct_policy.specs.Rules.{is_once, are_registers}

pub are_registers-drop : (registers : List Register) (i : ℕ) (d : Register) → i < length registers
    → are_registers (drop i registers) ≡ (is_once (get_or registers i d) (drop (i + 1) registers) && are_registers (drop (i + 1) registers))
unfolding are_registers
are_registers-drop registers i d inside = rw (drop_more registers i d inside) refl

pub are_registers-end : (registers : List Register) (i : ℕ) → length registers ≤ i → are_registers (drop i registers) ≡ true
unfolding are_registers
are_registers-end registers i past = rw (drop_all i registers past) refl
