use Rattle.std.proofs.Common.{◌≡◌, Some, sym, ◌∙◌, ap}
use Rattle.toml.specs.View.{view, members_view}
use Rattle.std.specs.String.{string_bytes}
use Rattle.ct_document.specs.Document.{each_member}
use Rattle.ct_document.specs.Keys.{setting_value}
use Rattle.ct_document.proofs.Lists.{onto, onto_more}
use Rattle.ct_document.proofs.setting.read_members.Goals as goal

pub members-preserved : goal.members-preserved
members-preserved c =
    let read = setting_value c.args.elf.now in
    let done = c.members.settings.items in
    let setting = c.in-Some-read_setting.setting in
    let gives : read (string_bytes c.in-Some.name.now) (view c.in-Some.value.now) ≡ Some setting =
    rw (← c.as_str.ensures.value) (sym c.in-Some-read_setting.ensures) in
    let rest = each_member read (members_view c.next.new.self) in (
      tt,
      tt,
      c.members.invariant.2
          ∙ ap (λ members. onto done (each_member read (members_view members))) c.in-Some.ensures.steps
          ∙ rw (gives, c.in_ok-push.ensures.items) (onto_more done setting rest),
    )
