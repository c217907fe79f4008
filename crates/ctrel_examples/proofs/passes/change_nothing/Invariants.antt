use Rattle.std.proofs.Common.{◌≡◌, ◌≤◌, length}
use Rattle.std.specs.List.{All}
use Rattle.rel_step.specs.declared.simplifying.TheConstants.{MOST_PASSES}
use Rattle.ctrel_examples.proofs.passes.change_nothing.Given as goal

abbrev pub invariant-loop : goal.invariant-loop
invariant-loop g l = record {
  count : length l.kits.items ≡ l.counter;
  few : All (λ kit. length kit.items ≤ MOST_PASSES) l.kits.items;
}
