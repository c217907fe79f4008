use Rattle.std.proofs.Common.{◌≡◌, map, take}
use Rattle.ct_entries.specs.declared.listed.Seen.{Seen}
use Rattle.path_run.proofs.targets.first_nexts.Given as goal

abbrev pub invariant-loop-one : goal.invariant-loop-one
invariant-loop-one l = l.nexts.items ≡ map (λ (one : Seen). one.next) (take l.one-index l.one-items)
