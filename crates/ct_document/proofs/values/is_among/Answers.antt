use Rattle.std.proofs.Common.{sym, ◌∙◌, rules, tests}
use Rattle.std.proofs.lemmas.Iterator.{YieldsList-from_slice}
use Rattle.std.proofs.lemmas.Iterator.Search.{any_from_yields_List}
use Rattle.std.specs.Str.{bytes_eq}
use Rattle.ct_document.proofs.Lists.{list_any-map}
use Rattle.ct_document.proofs.values.is_among.Goals as goal

pub returns : goal.returns
returns c =
    any_from_yields_List (λ known. bytes_eq known.now c.args.key.now) _ _ c.any.result c.any.ensures.ran (YieldsList-from_slice c.args.keys.now cc) (λ x b q k. search (rules, tests))
    ∙ sym (list_any-map (λ known. bytes_eq known c.args.key.now) (λ known. known.now) c.args.keys.now)
