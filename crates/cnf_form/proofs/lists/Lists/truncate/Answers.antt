use Rattle.std.proofs.Common.{◌≡◌, ℕ, ◌<◌, List, length, take, sym, ◌∙◌, ap, arith}
use Rattle.std.proofs.lemmas.List.{take_all}
use Rattle.cnf_form.specs.Pieces.{pieces, start_of, AreEnds}
use Rattle.cnf_form.proofs.PieceLaws.{length-pieces, pieces-take}
use Rattle.cnf_form.proofs.lists.Lists.truncate.Goals as goal

first_pieces : {A : Type 0} (values kept : List A) (ends less first : List ℕ) (count end : ℕ) → AreEnds values 0 ends → count < length ends → first ≡ ends → end ≡ start_of 0 first count → kept ≡ take end values → less ≡ take count ends → AreEnds kept 0 less × (pieces kept 0 less ≡ take count (pieces values 0 ends))
first_pieces values kept ends less first count end e low s f g h = rw (g, h, f, s) (pieces-take values 0 ends count e low)

pub invariant_of-self : goal.invariant_of-self
invariant_of-self g c =
    let low : c.args.count < length c.self.inside.ends.items = omega (arith, c.len.ensures, c.if-count-len.true) in
    (first_pieces c.self.inside.items.items c.truncate.new.self.items c.self.inside.ends.items c.truncate-then-count-len.new.self.items c.as_slice.result.now c.args.count c.start-end.result c.self.invariant low c.as_slice.ensures.value c.start-end.ensures c.truncate.ensures.items c.truncate-then-count-len.ensures.items).0

pub returns-then-count-len : goal.returns-then-count-len
returns-then-count-len g c =
    let low : c.args.count < length c.self.inside.ends.items = omega (arith, c.len.ensures, c.if-count-len.true) in
    (first_pieces c.self.inside.items.items c.truncate.new.self.items c.self.inside.ends.items c.truncate-then-count-len.new.self.items c.as_slice.result.now c.args.count c.start-end.result c.self.invariant low c.as_slice.ensures.value c.start-end.ensures c.truncate.ensures.items c.truncate-then-count-len.ensures.items).1
    ∙ ap (take c.args.count) c.self.view_is

pub returns-else-count-len : goal.returns-else-count-len
returns-else-count-len g c =
    let view = ap length c.self.view_is in
    let long = length-pieces c.self.inside.items.items 0 c.self.inside.ends.items in
    sym (take_all c.args.count c.args.self.now (omega (arith, c.len.ensures, c.if-count-len.false)))
