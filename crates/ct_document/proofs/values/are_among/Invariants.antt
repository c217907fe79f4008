use Rattle.std.proofs.Common.{◌≡◌, map}
use Rattle.toml.specs.View.{members_view}
use Rattle.ct_document.specs.Document.{are_among}
use Rattle.ct_document.proofs.values.are_among.Given as goal

abbrev pub invariant-members : goal.invariant-members
invariant-members l =
    (goal.iterator-members).can_next l.key-iterator × (goal.iterator-members).is_finite l.key-iterator
    × (are_among (map (λ known. known.now) l.keys) (members_view l.key-iterator) ≡ are_among (map (λ known. known.now) l.keys) (members_view l.table.entries))
