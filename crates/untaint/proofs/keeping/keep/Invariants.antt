use Rattle.std.proofs.Common.{◌+◌}
use Rattle.std.specs.Prelude.{IfSome}
use Rattle.std.specs.Option.{option_map_or}
use Rattle.untaint.specs.Kept.{IsOf}
use Rattle.untaint.proofs.KeepLaws.{IsKeeping}
use Rattle.untaint.proofs.keeping.keep.Given as goal

abbrev pub invariant-loop-next : goal.invariant-loop-next
invariant-loop-next l = record {
  inside : IfSome l.next (IsOf l.arena);
  keeping : IsKeeping l.arena l.fn.first l.initial.kept.keys l.kept.keys l.next;
}

abbrev pub decreases-loop-next : goal.decreases-loop-next
decreases-loop-next l = option_map_or (λ one. one.left.0 + one.right.0 + 1) l.next 0
