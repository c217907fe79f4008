-- The line of a site, as one call writes it.
use Rattle.std.proofs.Common.{◌≡◌, ℕ, ◌-◌, ◌^◌, ◌<◌, false, List, [], ◌∷◌, ◌++◌, codes, decimal, Result, Ok, Err, OnOk, ◌∙◌, ap, append_assoc}
use Rattle.std.specs.Fmt.{digits, padded_integral, format_spec}
use Rattle.rv_decode.specs.Text.{address_text}
use Rattle.rv_decode.proofs.Hex.{hex_eight}

abbrev padded : ℕ → List ℕ
padded site = padded_integral (format_spec 32 0 4 8 (2 ^ 64 - 1)) false [] (digits 16 false site)

same_line : (site : ℕ) (number words : List ℕ) → site < 2 ^ 32
    → codes "site 0x" ++ (padded site ++ (codes " step " ++ (number ++ (codes " " ++ (words ++ 10 ∷ [])))))
    ≡ (codes "site " ++ address_text site ++ codes " step " ++ number ++ codes " " ++ words) ++ 10 ∷ []
same_line site number words small =
    ap (λ t. codes "site 0x" ++ (t ++ (codes " step " ++ (number ++ (codes " " ++ (words ++ 10 ∷ [])))))) (hex_eight site small)
    ∙ simp append_assoc

pub site_line_written : {A E : Type 0} (result : Result A E) (new old : List ℕ) (site step : ℕ) (words named : List ℕ) → site < 2 ^ 32 → words ≡ named
    → OnOk result (new ≡ old ++ (codes "site 0x" ++ (padded site ++ (codes " step " ++ (decimal step ++ (codes " " ++ (words ++ 10 ∷ [])))))))
    → OnOk result (new ≡ old ++ ((codes "site " ++ address_text site ++ codes " step " ++ decimal step ++ codes " " ++ named) ++ 10 ∷ []))
site_line_written (Ok done) new old site step words named small same told =
    told ∙ ap (λ t. old ++ t) (same_line site (decimal step) words small)
    ∙ ap (λ t. old ++ ((codes "site " ++ address_text site ++ codes " step " ++ decimal step ++ codes " " ++ t) ++ 10 ∷ [])) same
site_line_written (Err e) new old site step words named small same told = told
