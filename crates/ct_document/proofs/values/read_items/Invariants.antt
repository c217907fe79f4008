use Rattle.std.proofs.Common.{◌≡◌, drop}
use Rattle.toml.specs.View.{items_view}
use Rattle.ct_document.specs.Document.{each_item}
use Rattle.ct_document.proofs.Lists.{onto}
use Rattle.ct_document.proofs.values.read_items.Given as goal

abbrev pub invariant-loop-value : goal.invariant-loop-value
invariant-loop-value g l =
    each_item (g.T.FromValue.meaning l.elf) (items_view l.array.items)
    ≡ onto l.items.items (each_item (g.T.FromValue.meaning l.elf) (items_view (drop l.value-index l.value-items)))
