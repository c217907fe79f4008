use Rattle.std.proofs.Common.{◌≡◌}
use Rattle.toml.specs.View.{members_view}
use Rattle.ct_document.specs.Document.{each_member}
use Rattle.ct_document.specs.Keys.{setting_value}
use Rattle.ct_document.proofs.Lists.{onto}
use Rattle.ct_document.proofs.setting.read_members.Given as goal

abbrev pub invariant-members : goal.invariant-members
invariant-members l =
    (goal.iterator-members).can_next l.name-iterator × (goal.iterator-members).is_finite l.name-iterator
    × (each_member (setting_value l.elf) (members_view l.table.entries)
    ≡ onto l.settings.items (each_member (setting_value l.elf) (members_view l.name-iterator)))
