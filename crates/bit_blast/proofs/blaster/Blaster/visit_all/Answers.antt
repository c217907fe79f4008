use Rattle.std.proofs.Common.{◌≡◌, subst, List, ℕ, true}
use Rattle.std.proofs.lemmas.List.{take_all}
use Rattle.std.specs.Prelude.{All}
use Rattle.bit_blast.specs.NodeWords.{has_word}
use Rattle.bit_blast.specs.WordMaps.{words_of}
use Rattle.bit_blast.proofs.Visits.{words_more}
use Rattle.bit_blast.proofs.blaster.Blaster.visit_all.Goals as goal

pub visit-requires : goal.visit-requires
visit-requires g c =
    let (typed, (inside, (needed, blasting))) = c.requires in
    (typed, (inside c.loop-number.number-index 0 c.loop-number-test.true, (needed c.loop-number.number-index 0 c.loop-number-test.true, c.loop-number.invariant.blasting)))

pub loop-number-preserved : goal.loop-number-preserved
loop-number-preserved g c =
    let visit = c.in_ok-visit.ensures in
    record {
      blasting = visit.blasting;
      words = words_more c.loop-number.self c.visit.new.self c.args.numbers.now c.loop-number.number-index 0 c.loop-number-test.true visit.kept visit.word c.loop-number.invariant.words;
    }

pub returns-clause-words : goal.returns-clause-words
returns-clause-words g c =
    let P : List ℕ → Type 0 = λ xs. All (λ k. has_word (words_of c.loop-number.self.words) k ≡ true) xs in
    subst P (take_all c.loop-number.number-index c.args.numbers.now c.loop-number-test.false) c.loop-number.invariant.words
