use Rattle.std.proofs.Common.{◌≡◌, take}
use Rattle.bit_blast.specs.Roots.{numbers}
use Rattle.query_ask.specs.Beginning.{IsBegun}
use Rattle.query_ask.proofs.of_arena.question_of.Given as goal

abbrev pub invariant-loop-id : goal.invariant-loop-id
invariant-loop-id l = record {
  vars : l.cone.vars ≡ l.vars;
  begun : IsBegun l.nodes l.vars (take l.id-index (numbers l.conjuncts)) l.cone.origins.keys l.cone.copies.items l.kept.keys;
}
