use Rattle.std.proofs.Common.{◌≡◌, ◌≤◌, ◌^◌, vec_len}
use Rattle.ct_outside.specs.Told.{told_prepend}
use Rattle.ct_outside.proofs.reading.read_all.Given as goal

abbrev pub invariant-loop-turn : goal.invariant-loop-turn
invariant-loop-turn g l =
    (told_prepend l.text.items (g.F.Shelf.remaining l.shelf) ≡ g.F.Shelf.remaining l.initial.shelf)
    × (g.F.Shelf.given l.shelf ≡ vec_len l.text)
    × (l._turn ≤ vec_len l.text)
    × (vec_len l.text ≤ 2 ^ 26)
    × (g.F.Shelf.faults l.initial.shelf ≤ g.F.Shelf.faults l.shelf)
    × (g.F.Shelf.files l.shelf ≡ g.F.Shelf.files l.initial.shelf)
    × (g.F.Shelf.asked l.shelf ≡ g.F.Shelf.asked l.initial.shelf)
