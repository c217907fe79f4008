use Rattle.std.proofs.Common.{◌≡◌, take, true}
use Rattle.std.specs.Prelude.{All}
use Rattle.bit_blast.specs.NodeWords.{has_word}
use Rattle.bit_blast.specs.WordMaps.{words_of}
use Rattle.bit_blast.specs.Blasting.{IsBlasting}
use Rattle.bit_blast.proofs.blaster.Blaster.visit_all.Given as goal

abbrev pub ghost-visit : goal.ghost-visit
ghost-visit g a = g.roots

abbrev pub invariant-loop-number : goal.invariant-loop-number
invariant-loop-number g l = record {
  blasting : IsBlasting l.nodes g.roots l.self;
  words : All (λ k. has_word (words_of l.self.words) k ≡ true) (take l.number-index l.numbers);
}
