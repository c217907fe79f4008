use Rattle.std.proofs.Common.{◌≡◌, arith, None, Some, map, inl, inr, refl}
use Rattle.std.proofs.lemmas.List.{length-map}
use Rattle.std.proofs.lemmas.Result.{err_from_is_err_and}
use Rattle.std.specs.String.{string_bytes}
use Rattle.ct_pairs.specs.Limits.{most_bound}
use Rattle.ct_lines.specs.Commands.{run_from, run_of}
use Rattle.ct_lines.specs.Words.{number_of, entry_of, name_of}
use Rattle.ct_lines.proofs.CommandLemmas.{run_of-other, run_from-none, three_items}
use Rattle.ct_lines.proofs.words.read_run.Goals as goal
use Rattle.ct_lines.proofs.words.read_run.Goals.{in_default-via-then-words-lt3, in_default-via-else-words-lt3+else-words-lt4}

pub returns-in_default-clause-refused : goal.returns-in_default-clause-refused
returns-in_default-clause-refused c =
    let words = c.args.words.now in
    let none = run_of-other (map string_bytes words)
    (elim c.in_default.branch [
      | in_default-via-then-words-lt3 w ↦ inl (grind (arith, length-map words string_bytes))
      | in_default-via-else-words-lt3+else-words-lt4 w ↦ inr (grind (arith, length-map words string_bytes))
    ]) in
    (λ _. none, λ _. refl)

pub returns-in_err-entry-clause-refused : goal.returns-in_err-entry-clause-refused
returns-in_err-entry-clause-refused c =
    let words = three_items c.args.words.now _ _ _ (omega arith) c.binary-item.is c.entry-item.is c.bound-item.is in
    let entry = entry_of c.as_str-3.result.now in
    let read : run_of (map string_bytes c.args.words.now) ≡ run_from (name_of c.as_str.result.now) (number_of 1 most_bound c.as_str-2.result.now) entry =
    rw (words, c.as_str.ensures.value, c.as_str-2.ensures.value, c.as_str-3.ensures.value) refl in
    let name : name_of c.as_str.result.now ≡ Some c.in_ok-name.name.now = grind arith in
    let bound : number_of 1 most_bound c.as_str-2.result.now ≡ Some c.in_ok-bound.bound = grind arith in
    let p = err_from_is_err_and c.from_residual-in_err-entry.result c.from_residual-in_err-entry.ensures.1 in
    rw (p.1, p.2, read, name, bound) (
      λ e. let none : entry ≡ None = c.in_err-entry.ensures.refused.0 cc in rw none refl,
      λ e. let refused = c.in_err-entry.ensures.refused.1 (run_from-none _ _ entry e) in cc,
    )
