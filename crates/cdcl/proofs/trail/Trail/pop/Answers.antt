use Rattle.std.proofs.Common.{◌-◌, None, sym, subst}
use Rattle.std.proofs.Math.ListN.{set}
use Rattle.cdcl.specs.declared.trail.Trail.TheInside.{Inside}
use Rattle.cdcl.specs.Marks.{IsKept}
use Rattle.cdcl.proofs.TrailLaws.{IsKept-pop, level_less-none, level_less-some}
use Rattle.cdcl.proofs.trail.Trail.pop.Goals as goal
use Rattle.cdcl.proofs.trail.Trail.pop.Goals.{then-is_none, else-is_none}

pub invariant_of-self-2 : goal.invariant_of-self-2
invariant_of-self-2 c =
    let e = c.in_ok-entry.entry in
    let level = c.self.inside.level in
    let Here : Inside → Type 0 = λ (i : Inside). IsKept (set i.marks.items e.lit.var None) i.level i.entries.items in
    elim c.if-is_none.branch [
      | then-is_none w ↦ subst Here (sym w.self-inside-is) (IsKept-pop c.self.inside.marks.items level (level - 1) c.self.inside.entries.items c.pop.new.self.items e c.self.invariant c.in_ok-entry.ensures.items (sym (level_less-none e.reason level w.if-is_none.ensures)))
      | else-is_none w ↦ subst Here (sym w.self-inside-is) (IsKept-pop c.self.inside.marks.items level level c.self.inside.entries.items c.pop.new.self.items e c.self.invariant c.in_ok-entry.ensures.items (sym (level_less-some e.reason level w.if-is_none.ensures)))
    ]
