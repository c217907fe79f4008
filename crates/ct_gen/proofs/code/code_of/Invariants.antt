use Rattle.std.proofs.Common.{◌≡◌}
use Rattle.ct_gen.specs.Blocks.{generator_after}
use Rattle.ct_gen.specs.Code.{blocks_code}
use Rattle.ct_gen.proofs.code.code_of.Given as goal

abbrev pub invariant-turns : goal.invariant-turns
invariant-turns l = record {
  generator : l.generator ≡ generator_after l.number l._block;
  code : l.code.items ≡ blocks_code l.number l._block;
}
