-- Words by the numbers of nodes or of variables.
use Rattle.std.specs.Prelude.{ℕ, List, Option, nat_eq}
use Rattle.std.specs.HashMap.{get}
use Rattle.gate_form.specs.declared.wire.Wire.{Wire}
use Rattle.bit_blast.specs.declared.word_map.WordMap.{WordMap}

-- the word of each number that has one
abbrev pub words_of : WordMap → ℕ → Option (List Wire)
words_of map = get nat_eq map.words
