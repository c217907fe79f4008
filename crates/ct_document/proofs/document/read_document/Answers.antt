use Rattle.std.proofs.Common.{Some, refl, ap, sym, inl, inr, rules}
use Rattle.std.proofs.lemmas.Bool.{cases_Bool}
use Rattle.std.specs.Str.{is_utf8}
use Rattle.std.proofs.lemmas.Str.{IsUtf8-from_is_utf8, is_utf8-from_IsUtf8}
use Rattle.toml.proofs.Views.{view-Table}
use Rattle.ct_document.specs.Document.{document_of}
use Rattle.ct_document.proofs.document.read_document.Goals as goal

pub returns-in-Ok-clause-document : goal.returns-in-Ok-clause-document
unfolding document_of
returns-in-Ok-clause-document c =
    let utf8 = is_utf8-from_IsUtf8 c.args.bytes.now c.in-Ok.ensures.ok.0 in
    rw (utf8, c.in-Ok.ensures.ok.1) (ap Some (sym (view-Table c.in-Ok.table)))

pub returns-else-is_memory-clause-refused : goal.returns-else-is_memory-clause-refused
unfolding document_of
returns-else-is_memory-clause-refused c _ = (
  refl,
  elim (cases_Bool (is_utf8 c.args.bytes.now)) [
    | inl utf8 ↦
        let none = c.in-Err.ensures.refused (search rules) (IsUtf8-from_is_utf8 c.args.bytes.now utf8) in
        rw (utf8, none) refl
    | inr other ↦ rw other refl
  ],
)
