use Rattle.std.proofs.Common.{◌≡◌, ◌-◌}
use Rattle.rv_image.specs.Image.{allowed_at}
use Rattle.rv_machine.specs.Step.{all_allowed}
use Rattle.rv_machine.proofs.machine.all_allowed.Given as goal

abbrev pub invariant-bytes : goal.invariant-bytes
invariant-bytes l = all_allowed (allowed_at l.right l.image) l.at (l.bytes - l._i) ≡ all_allowed (allowed_at l.right l.image) l.address l.bytes
