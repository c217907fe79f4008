use Rattle.std.proofs.Common.{◌≡◌, Option, Some, None, refl, sym, ◌∙◌, rules, tests}
use Rattle.std.specs.Option.{option_map}
use Rattle.std.proofs.lemmas.Iterator.{YieldsList-from_range}
use Rattle.std.proofs.lemmas.Iterator.Search.{find_from_yields_List}
use Rattle.ct_document.specs.Registers.{has_name, register_of}
use Rattle.ct_document.proofs.register.register_of.Goals as goal

same : {A : Type 0} (o : Option A) → option_map (λ x. x) o ≡ o
same None = refl
same (Some x) = refl

pub returns : goal.returns
unfolding register_of
returns c =
    sym (same c.find.result)
    ∙ find_from_yields_List (has_name c.args.name.now) _ _ c.find.result c.find.ensures.ran (YieldsList-from_range 0 32 32 (cc) refl) (λ x b q k. search (rules, tests))
