-- Words as instructions, and instructions as texts.
use Rattle.std.proofs.Common.{◌≡◌, ◌++◌, Some, None, false, codes, refl, ap, lit<}
use Rattle.std.proofs.lemmas.Fmt.{decimal_digit}
use Rattle.ct_words.specs.declared.cond.Cond.TheVariants.{Eq}
use Rattle.rv_decode.specs.declared.instr.Instr.TheVariants.{Jalr, Branch, Load}
use Rattle.rv_decode.specs.Instructions.{instruction_of}
use Rattle.rv_decode.specs.Text.{text_value, hex_digits}

branch_word : instruction_of 0x00050463 ≡ Some (Branch Eq 10 0 8)
unfolding instruction_of
branch_word = refl

load_word : instruction_of 0x00054503 ≡ Some (Load 10 10 0 1 false)
unfolding instruction_of
load_word = refl

return_word : instruction_of 0x00008067 ≡ Some (Jalr 0 1 0)
unfolding instruction_of
return_word = refl

no_word : instruction_of 0 ≡ None
unfolding instruction_of
no_word = refl

branch_text : text_value (Branch Eq 10 0 8) 0x10054 ≡ codes "beq a0, zero, 0x0001005c"
unfolding text_value hex_digits
branch_text = refl

load_text : text_value (Load 10 10 0 1 false) 0x10054 ≡ codes "lbu a0, 0(a0)"
unfolding text_value
load_text = ap (λ digits. codes "lbu a0, " ++ (digits ++ codes "(a0)")) (decimal_digit 0 (lit< tt))

return_text : text_value (Jalr 0 1 0) 0x10054 ≡ codes "jalr zero, 0(ra)"
unfolding text_value
return_text = ap (λ digits. codes "jalr zero, " ++ (digits ++ codes "(ra)")) (decimal_digit 0 (lit< tt))
