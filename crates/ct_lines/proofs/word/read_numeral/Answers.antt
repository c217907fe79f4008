use Rattle.std.proofs.Common.{◌∙◌, ◌<◌, ◌^◌, IfSome, sym, subst, arith}
use Rattle.ct_lines.proofs.NumeralLemmas.{numeral_parsed, numeral_below}
use Rattle.ct_lines.proofs.word.read_numeral.Goals as goal

pub returns-clause-value : goal.returns-clause-value
returns-clause-value c =
    c.ok.ensures.value ∙ numeral_parsed c.args.radix c.args.most c.args.word.now c.from_str_radix.result (sym c.is_numeral.ensures ∙ c.if-not-is_numeral.false) c.requires.upper_radix c.requires.short c.from_str_radix.ensures.value

pub returns-clause-below : goal.returns-clause-below
returns-clause-below c =
    let value = c.ok.ensures.value ∙ numeral_parsed c.args.radix c.args.most c.args.word.now c.from_str_radix.result (sym c.is_numeral.ensures ∙ c.if-not-is_numeral.false) c.requires.upper_radix c.requires.short c.from_str_radix.ensures.value in
    subst (λ number. IfSome number (λ v. v < c.args.radix ^ c.args.most)) (sym value) (numeral_below c.args.radix c.args.most c.args.word.now (omega arith))
