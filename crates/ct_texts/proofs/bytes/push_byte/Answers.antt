use Rattle.std.proofs.Common.{◌≡◌, ℕ, ◌/◌, ◌%◌, ◌^◌, ◌-◌, ◌<◌, false, [], ◌∷◌, arith, rules, ap, ◌∙◌}
use Rattle.std.proofs.lemmas.Fmt.{hex_byte}
use Rattle.std.specs.Fmt.{digits, digit_glyph, padded_integral, format_spec}
use Rattle.rv_decode.specs.Text.{hex_digits}
use Rattle.ct_texts.proofs.bytes.push_byte.Goals as goal

two_digits : (byte : ℕ) → byte < 256 → padded_integral (format_spec 32 0 4 2 (2 ^ 64 - 1)) false [] (digits 16 false byte) ≡ hex_digits 2 byte
unfolding hex_digits
two_digits byte small =
    let high : byte / 16 ≡ byte / 16 % 16 = omega arith in
    hex_byte false byte small ∙ ap (λ d. digit_glyph false d ∷ digit_glyph false (byte % 16) ∷ []) high

pub returns : goal.returns
returns c = rw (← two_digits c.args.byte (omega arith)) (search rules)
