use Rattle.ct_words.specs.declared.alu_op.AluOp.TheVariants.{Sra, Mulh, Mulhsu, Div, Rem}
use Rattle.bv_range.proofs.WordRules.{any_rule}
use Rattle.bv_range.proofs.words.range_of_alu.Goals as goal

pub returns-in-Sra : goal.returns-in-Sra
returns-in-Sra c = rw c.in-Sra.is (any_rule Sra _ _ _ c.any_word.ensures)

pub returns-in-Mulh : goal.returns-in-Mulh
returns-in-Mulh c = rw c.in-Mulh.is (any_rule Mulh _ _ _ c.any_word-in-Mulh.ensures)

pub returns-in-Mulhsu : goal.returns-in-Mulhsu
returns-in-Mulhsu c = rw c.in-Mulhsu.is (any_rule Mulhsu _ _ _ c.any_word-in-Mulhsu.ensures)

pub returns-in-Div : goal.returns-in-Div
returns-in-Div c = rw c.in-Div.is (any_rule Div _ _ _ c.any_word-in-Div.ensures)

pub returns-in-Rem : goal.returns-in-Rem
returns-in-Rem c = rw c.in-Rem.is (any_rule Rem _ _ _ c.any_word-in-Rem.ensures)
