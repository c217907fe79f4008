use Rattle.std.proofs.Common.{◌≡◌, ◌+◌, ◌-◌}
use Rattle.rv_image.specs.Image.{allowed_at}
use Rattle.rv_machine.specs.Step.{all_allowed, wrapped}
use Rattle.rel_memory.proofs.rel_memory.RelMemory.all_allowed.Given as goal

abbrev pub invariant-loop-i : goal.invariant-loop-i
invariant-loop-i l = all_allowed (allowed_at l.right l.self.image) (wrapped (l.address + l.i)) (l.bytes - l.i) ≡ all_allowed (allowed_at l.right l.self.image) l.address l.bytes
