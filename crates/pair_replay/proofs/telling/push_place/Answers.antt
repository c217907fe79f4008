use Rattle.std.proofs.Common.{◌≡◌, ◌∙◌, ℕ, List, ◌++◌, Result, Ok, Err, ap, append_assoc}
use Rattle.std.specs.Prelude.{codes, decimal}
use Rattle.std.specs.Result.{OnOk}
use Rattle.rv_decode.specs.Text.{address_text}
use Rattle.pair_replay.specs.ReplayText.{place_text}
use Rattle.pair_replay.proofs.telling.push_place.Goals as goal

-- what was written piece by piece is the place
whole : {T E : Type 0} (result : Result T E) (old wrote new : List ℕ) (step site : ℕ) → wrote ≡ old ++ (codes "differ step " ++ (decimal step ++ codes " site ")) → OnOk result (new ≡ wrote ++ address_text site)
    → OnOk result (new ≡ old ++ place_text step site)
unfolding place_text
whole (Ok done) old wrote new step site a b =
    b ∙ ap (λ w. w ++ address_text site) a ∙ append_assoc old (codes "differ step " ++ (decimal step ++ codes " site ")) (address_text site)
whole (Err error) old wrote new step site a b = tt

pub returns : goal.returns
returns c = whole c.push_address.result _ _ _ c.args.step c.args.site c.in_ok-write.ensures.bytes c.push_address.ensures
