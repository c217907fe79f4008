use Rattle.std.proofs.Common.{◌≡◌, Bool, cond, List, [], ◌∷◌, ◌++◌, length, Some, refl, sym, ap, ◌∙◌, subst, arith}
use Rattle.std.proofs.lemmas.Bool.{eqb-true}
use Rattle.rel_memory.specs.declared.contents.Kept.{Kept}
use Rattle.rel_memory.specs.declared.entry.Entry.{Entry}
use Rattle.rel_memory.specs.declared.entry.Entry.TheVariants.{Number}
use Rattle.rel_memory.specs.Contents.{Contents, IsPut, kept_at}
use Rattle.rel_memory.specs.Log.{IsLogged}
use Rattle.rel_memory.proofs.Writing.{swapped, IsLogged-put, IsLogged-first}
use Rattle.rel_memory.proofs.rel_memory.RelMemory.put.Goals as goal

pub invariant_of-self-in-Continue-branch-3 : goal.invariant_of-self-in-Continue-branch-3
invariant_of-self-in-Continue-branch-3 c =
    let inside = c.self.inside in
    let held : Kept = record { held = c.args.held; before = c.len.result } in
    let old : Contents = record { image = inside.image; kept = inside.kept.entries; computed = inside.computed.items; later = length inside.log.items } in
    let new : Contents = record { image = inside.image; kept = c.insert.new.self.entries; computed = inside.computed.items; later = length c.push.new.self.items } in
    let put : IsPut old c.args.address held new = record {
      image = refl;
      computed = refl;
      kept = λ other. c.in_ok-insert.ensures.updates.0 other ∙ ap (λ (b : Bool). cond b (Some held) (kept_at old other)) (swapped c.args.address other);
    } in
    let items : c.push.new.self.items ≡ inside.log.items ++ Number c.args.address ∷ [] = c.in_ok-push.ensures.items ∙ ap (λ (xs : List Entry). xs ++ Number c.args.address ∷ []) c.in_ok-reserve.ensures.items in
    subst (λ (log : List Entry). IsLogged new log) (sym items) (IsLogged-put old new c.args.address held put (omega (arith, c.len.ensures, inside.computed.ok.0)) inside.log.items c.self.invariant)

pub invariant_of-self-else-not-is_empty : goal.invariant_of-self-else-not-is_empty
invariant_of-self-else-not-is_empty c =
    let inside = c.self.inside in
    let held : Kept = record { held = c.args.held; before = c.len.result } in
    let old : Contents = record { image = inside.image; kept = inside.kept.entries; computed = inside.computed.items; later = length inside.log.items } in
    let new : Contents = record { image = inside.image; kept = c.insert.new.self.entries; computed = inside.computed.items; later = length c.reserve.new.self.items } in
    let put : IsPut old c.args.address held new = record {
      image = refl;
      computed = refl;
      kept = λ other. c.in_ok-insert.ensures.updates.0 other ∙ ap (λ (b : Bool). cond b (Some held) (kept_at old other)) (swapped c.args.address other);
    } in
    let items : c.reserve.new.self.items ≡ inside.log.items = c.in_ok-reserve.ensures.items in
    let none = eqb-true _ 0 (sym c.if-not-is_empty.ensures) in
    subst (λ (log : List Entry). IsLogged new log) (sym items)
    (IsLogged-first old new c.args.address held put (omega (arith, c.len.ensures, inside.computed.ok.0)) inside.log.items c.self.invariant (omega (arith, none, c.reserve.new.self.ok.0, ap length items)))
