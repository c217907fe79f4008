use Rattle.std.proofs.Common.{◌≡◌, ℕ, ◌<◌, List, [], ◌++◌, length, Option, Some, None, sym, ◌∙◌, ap, subst, arith}
use Rattle.std.specs.Option.{option_to_list, IfNone}
use Rattle.cdcl.specs.declared.entry.Entry.{Entry}
use Rattle.cdcl.specs.Trail.{level_of, back_to}
use Rattle.cdcl.proofs.TrailLaws.{back_to-pop, back_to-done}
use Rattle.cdcl.proofs.trail.Trail.back_to.Goals as goal

smaller : (old new : List Entry) (o : Option Entry) (level : ℕ) → level < level_of old → old ≡ option_to_list o ++ new → IfNone o (old ≡ []) → length new < length old
smaller old new None level low e n = absurd (let none = ap level_of n in omega arith)
smaller old new (Some x) level low e n = let l = ap length e in omega arith

same_back : (old new : List Entry) (o : Option Entry) (level : ℕ) → level < level_of old → old ≡ option_to_list o ++ new → back_to level new ≡ back_to level old
same_back old new None level low e = ap (back_to level) (sym e)
same_back old new (Some x) level low e = sym (ap (back_to level) e ∙ back_to-pop level x new (subst (λ (es : List Entry). level < level_of es) e low))

pub back-smaller : goal.back-smaller
back-smaller c = smaller c.back.self.entries c.pop.new.self.entries c.pop.result c.args.level (let n = c.level.ensures in let m = c.back-test.true in omega arith) c.pop.ensures.entries c.pop.ensures.empty

pub back-preserved : goal.back-preserved
back-preserved c = record {
  vars = c.pop.ensures.vars ∙ c.back.invariant.vars;
  entries = same_back c.back.self.entries c.pop.new.self.entries c.pop.result c.args.level (let n = c.level.ensures in let m = c.back-test.true in omega arith) c.pop.ensures.entries ∙ c.back.invariant.entries;
}

pub returns-clause-entries : goal.returns-clause-entries
returns-clause-entries c = sym (back_to-done c.args.level c.back.self.entries (let n = c.level.ensures in let m = c.back-test.false in omega arith)) ∙ c.back.invariant.entries
