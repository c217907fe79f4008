use Rattle.std.proofs.Common.{◌≡◌, ◌++◌, Some, None, sym, ◌∙◌, ap, rules}
use Rattle.std.specs.Prelude.{codes}
use Rattle.std.proofs.lemmas.Bool.Decides.{Decides-eqb}
use Rattle.std.proofs.lemmas.List.{length-append}
use Rattle.std.proofs.lemmas.Slice.Eq.{strip_prefix_is}
use Rattle.pair_replay.specs.PairText.{values_line}
use Rattle.pair_replay.proofs.LineLaws.{line-apart}
use Rattle.pair_replay.proofs.values.read_values.Goals as goal

pub returns-in_default-clause-none : goal.returns-in_default-clause-none
returns-in_default-clause-none c rest begins =
    let apart = line-apart c.args.name.now begins.0 rest c.args.count begins.1 in
    rw c.in_default.is at (c.in_ok-values.ensures.only (c.args.name.now ++ codes " ") begins.0 apart.0 (length-append c.args.name.now (codes " ")) begins.1 (begins.2 ∙ apart.1))

pub returns-in-Some-strip_prefix-clause-line : goal.returns-in-Some-strip_prefix-clause-line
returns-in-Some-strip_prefix-clause-line c =
    let line : c.as_bytes.result.now ≡ values_line c.args.name.now c.in-Some.values.items = search rules in
    rw (← line) (strip_prefix_is Decides-eqb c.args.bytes.now c.as_bytes.result.now (Some c.in-Some-strip_prefix.rest) c.in-Some-strip_prefix.ensures.cases)

pub returns-clause-none : goal.returns-clause-none
returns-clause-none c rest begins =
    let apart = line-apart c.args.name.now begins.0 rest c.args.count begins.1 in
    let found : c.in-Some.values.items ≡ begins.0 =
    rw c.in-Some.is at (c.in_ok-values.ensures.only (c.args.name.now ++ codes " ") begins.0 apart.0 (length-append c.args.name.now (codes " ")) begins.1 (begins.2 ∙ apart.1)) in
    let line : c.as_bytes.result.now ≡ values_line c.args.name.now c.in-Some.values.items = search rules in
    let same : c.args.bytes.now ≡ c.as_bytes.result.now ++ rest =
    begins.2 ∙ ap (λ xs. values_line c.args.name.now xs ++ rest) (sym found) ∙ ap (λ xs. xs ++ rest) (sym line) in
    strip_prefix_is Decides-eqb c.args.bytes.now c.as_bytes.result.now None c.in-None.ensures.cases rest same
