-- The policy of generated code, as one call writes it.
use Rattle.std.proofs.Common.{◌≡◌, ℕ, List, [], ◌∷◌, ◌++◌, codes, decimal, Result, IfOk, String, Global, string_bytes, sym, ◌∙◌, append_assoc}
use Rattle.std.proofs.lemmas.Result.{IfOk-weaker}
use Rattle.ct_rows.specs.Lines.{line}
use Rattle.ct_gen.specs.Building.{policy_of}

-- what stands before the number of words, and behind it
abbrev pub front : List ℕ
front = codes "format = 1\nentry = \"routine\"\nbound = "

abbrev pub back : List ℕ
back = codes "\n[registers]\ns0 = \"buf\"\ns2 = \"work\"\n[[input]]\nat = \"buf\"\nlength = 64\nkind = \"secret\"\n"

abbrev pub policy_written : ℕ → List ℕ
policy_written words = front ++ (decimal words ++ back)

regroup : (start before number after a b c d e f g : List ℕ)
    → start ++ (before ++ number ++ after) ++ a ++ b ++ c ++ d ++ e ++ f ++ g ≡ (start ++ before) ++ (number ++ (after ++ (a ++ (b ++ (c ++ (d ++ (e ++ (f ++ g))))))))
regroup start before number after a b c d e f g = simp append_assoc

pub same_policy : (words : ℕ) → policy_written words ≡ policy_of words
unfolding policy_of
same_policy words =
    sym (regroup (line (codes "format = 1") ++ line (codes "entry = \"routine\"")) (codes "bound = ") (decimal words) (10 ∷ [])
    (line (codes "[registers]")) (line (codes "s0 = \"buf\"")) (line (codes "s2 = \"work\"")) (line (codes "[[input]]"))
    (line (codes "at = \"buf\"")) (line (codes "length = 64")) (line (codes "kind = \"secret\"")))

pub policy_is : {E : Type 0} (result : Result (String Global) E) (words : ℕ) → IfOk result (λ policy. string_bytes policy ≡ policy_written words)
    → IfOk result (λ policy. string_bytes policy ≡ policy_of words)
policy_is result words told =
    IfOk-weaker result (λ policy. string_bytes policy ≡ policy_written words) (λ policy. string_bytes policy ≡ policy_of words) (λ policy same. same ∙ same_policy words) told
