use Rattle.gate_form.specs.Run.{Grows-then}
use Rattle.std.proofs.Common.{◌≡◌, ◌∙◌, ◌*◌, ap, drop, length, refl, arith}
use Rattle.std.proofs.lemmas.List.{take_rest}
use Rattle.bit_arith.proofs.Computing.{IsWord-high_where}
use Rattle.bit_arith.proofs.product.high_product_where.Goals as goal

pub returns-clause-value : goal.returns-clause-value
returns-clause-value c = IsWord-high_where _ _ _ _ _ _ _ _ _ _ c.in_ok-turned.ensures.grows c.requires.words.left_width c.requires.words.right_width c.in_ok-whole.ensures.value c.deref.ensures.value c.in_ok-turned.ensures.value (c.in_ok-out.ensures.items ∙ take_rest c.deref-2.result.now 32 ∙ ap (drop 32) c.deref-2.ensures.value)

pub returns-clause-grows : goal.returns-clause-grows
returns-clause-grows c =
    let rows : 12 * length c.args.b.now * length c.args.a.now ≡ 12288 = rw c.requires.words.left_width (rw c.requires.words.right_width refl) in
    Grows-then _ _ _ _ _ 13056 c.in_ok-whole.ensures.grows c.in_ok-turned.ensures.grows
    (omega (arith, rows, ap length c.deref.ensures.value, c.in_ok-whole.ensures.value.width_is, c.requires.words.left_width, c.requires.words.right_width))
