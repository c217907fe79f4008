use Rattle.std.proofs.Common.{◌≡◌, length}
use Rattle.rel_step.proofs.Writing.{IsWriting}
use Rattle.rel_step.proofs.stores.all_written.Given as goal

abbrev pub invariant-loop-k : goal.invariant-loop-k
invariant-loop-k g l = record {
  writing : IsWriting l.initial.arena l.arena l.fn.at.0 l.fn.word 100 l.k l.ones.items;
  passes : length l.kit.items ≡ length l.initial.kit.items;
}
