use Rattle.std.proofs.Common.{◌≡◌, ◌+◌, ◌*◌, ◌^◌, sym, ◌∙◌, arith}
use Rattle.rv_image.proofs.Fetching.{fetch_at-first, fetch_at-second, fetch_at-third, fetch_at-fourth, fetch_at-all}
use Rattle.rv_image.proofs.image.Image.fetch_each.Goals as goal

pub returns-in_err-first : goal.returns-in_err-first
returns-in_err-first c = c.from_residual.ensures ∙ sym (fetch_at-first _ _ c.in_err-first.ensures)

pub returns-in_err-second : goal.returns-in_err-second
returns-in_err-second c = c.from_residual-in_err-second.ensures ∙ sym (fetch_at-second _ _ c.in_err-second.ensures)

pub returns-in_err-third : goal.returns-in_err-third
returns-in_err-third c = c.from_residual-in_err-third.ensures ∙ sym (fetch_at-third _ _ c.in_err-third.ensures)

pub returns-in_err-fourth : goal.returns-in_err-fourth
returns-in_err-fourth c = c.from_residual-in_err-fourth.ensures ∙ sym (fetch_at-fourth _ _ c.in_err-fourth.ensures)

pub returns : goal.returns
returns c =
    let word : c.from_le_bytes.result ≡ c.in_ok-first.first + 2 ^ 8 * c.in_ok-second.second + 2 ^ 16 * c.in_ok-third.third + 2 ^ 24 * c.in_ok-fourth.fourth = omega (arith, c.from_le_bytes.ensures) in
    rw word (sym (fetch_at-all _ _ _ _ _ _ c.requires c.in_ok-first.ensures c.in_ok-second.ensures c.in_ok-third.ensures c.in_ok-fourth.ensures))
