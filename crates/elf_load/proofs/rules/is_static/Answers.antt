use Rattle.std.proofs.Common.{ap, rules, tests}
use Rattle.std.specs.Prelude.{not}
use Rattle.std.proofs.lemmas.Iterator.{YieldsList-from_slice}
use Rattle.std.proofs.lemmas.Iterator.Search.{any_from_yields_List}
use Rattle.elf_load.specs.File.{is_dynamic}
use Rattle.elf_load.proofs.rules.is_static.Goals as goal

pub returns : goal.returns
returns c =
    ap not (any_from_yields_List is_dynamic _ _ c.any.result c.any.ensures.ran (YieldsList-from_slice c.args.headers.now cc) (λ x b q k. search (rules, tests)))
