-- The file and the policy of a number and a size.
use Rattle.std.specs.Prelude.{ℕ, List, ◌++◌, length, codes, decimal}
use Rattle.ct_rows.specs.Lines.{line}
use Rattle.ct_gen.specs.declared.building.Built.{Built}
use Rattle.ct_gen.specs.Code.{code_of}
use Rattle.ct_gen.specs.Files.{file_of}

-- the policy of generated code of so many words: as many steps at most, and the 64 bytes at `buf` are secret
unfoldable pub policy_of : ℕ → List ℕ
policy_of words =
    line (codes "format = 1")
    ++ line (codes "entry = \"routine\"")
    ++ line (codes "bound = " ++ decimal words)
    ++ line (codes "[registers]")
    ++ line (codes "s0 = \"buf\"")
    ++ line (codes "s2 = \"work\"")
    ++ line (codes "[[input]]")
    ++ line (codes "at = \"buf\"")
    ++ line (codes "length = 64")
    ++ line (codes "kind = \"secret\"")

-- the file, its policy, and how many words the code has
unfoldable pub built_of : ℕ → ℕ → Built
built_of number size = record {
  file = file_of (code_of number size);
  policy = policy_of (length (code_of number size));
  words = length (code_of number size);
}
