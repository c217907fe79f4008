use Rattle.std.proofs.Common.{◌≡◌, ℕ, ◌≤◌, List, [], ◌∷◌, ◌++◌, length, refl, sym, ap, ◌∙◌, subst}
use Rattle.rel_memory.specs.declared.contents.Written.{Written}
use Rattle.rel_memory.specs.declared.entry.Entry.{Entry}
use Rattle.rel_memory.specs.declared.entry.Entry.TheVariants.{Computed}
use Rattle.rel_memory.specs.Contents.{Contents, passed}
use Rattle.rel_memory.specs.Log.{IsLogged}
use Rattle.rel_memory.proofs.Writing.{passed-few, IsLogged-written}
use Rattle.rel_memory.proofs.rel_memory.RelMemory.write.Goals as goal

pub invariant_of-self-2 : goal.invariant_of-self-2
invariant_of-self-2 c =
    let inside = c.self.inside in
    let old : Contents = record { image = inside.image; kept = inside.kept.entries; computed = inside.computed.items; later = length inside.log.items } in
    let new : Contents = record { image = inside.image; kept = inside.kept.entries; computed = c.push.new.self.items; later = length c.push-2.new.self.items } in
    let few : (at : ℕ) → passed old at ≤ length old.computed = λ at. subst (λ (m : Contents). passed m at ≤ length m.computed) (sym c.self.view_is) (passed-few c.requires.memory.0 c.args.self.now at c.requires.memory.1) in
    let computed : c.push.new.self.items ≡ inside.computed.items ++ c.args.one ∷ [] = c.in_ok-push.ensures.items ∙ ap (λ (xs : List Written). xs ++ c.args.one ∷ []) c.in_ok-reserve.ensures.items in
    let items : c.push-2.new.self.items ≡ inside.log.items ++ Computed c.args.one ∷ [] = c.in_ok-push-2.ensures.items ∙ ap (λ (xs : List Entry). xs ++ Computed c.args.one ∷ []) c.in_ok-reserve-2.ensures.items in
    subst (λ (log : List Entry). IsLogged new log) (sym items) (IsLogged-written old new c.args.one refl refl computed inside.log.items c.self.invariant few)
