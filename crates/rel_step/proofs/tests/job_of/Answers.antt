use Rattle.std.proofs.Common.{◌≡◌, ◌≤◌, ◌^◌, ℕ, List, [], ◌∷◌, length, true, false, refl, sym, ◌∙◌, ap, arith}
use Rattle.std.specs.Prelude.{is_some}
use Rattle.rv_image.specs.Cell.{Cell}
use Rattle.rv_image.specs.Image.{index_at}
use Rattle.ct_pairs.specs.Limits.{AreLimits}
use Rattle.ct_pairs.specs.declared.input_byte.InputByte.{InputByte}
use Rattle.ct_pairs.specs.declared.place.Place.TheVariants.{Register, Memory}
use Rattle.rel_step.proofs.tests.job_of.Goals as goal

are_limits : (view image : List Cell) (stops registers : List ℕ) (inputs : List InputByte) → view ≡ image → length image ≤ 2 ^ 24 → length stops ≤ 64 → length registers ≡ 32
    → inputs ≡ record { place = Register 10 0; secret = true } ∷ record { place = Register 11 0; secret = false } ∷ record { place = Memory 68; secret = true } ∷ [] → is_some (index_at image 68) ≡ true
    → AreLimits view stops registers inputs 10 20000 16
are_limits view image stops registers inputs same small few count is there = rw (same, is) (record {
  accessible_bytes = small;
  stop_count = few;
  register_count = count;
  input_count = omega arith;
  bound_least = omega arith;
  bound_most = omega arith;
  budget_most = omega arith;
  targets_least = omega arith;
  targets_most = omega arith;
  are_places = rw there refl;
  differ = refl;
})

pub invariant_of-result-2 : goal.invariant_of-result-2
invariant_of-result-2 c = record {
  limits = are_limits _ c.in_ok-image.image _ _ _ c.image.view_is c.in_ok-image.ensures (rw (c.from_vec.ensures, c.in_ok-vec.ensures.items) (omega arith)) c.in_ok-registers_of.ensures c.in_ok-inputs_of.ensures (ap is_some (sym c.index_of.ensures.location) ∙ c.if-is_none.ensures);
}

pub returns-clause-shared : goal.returns-clause-shared
returns-clause-shared c = rw c.in_ok-inputs_of.ensures refl

pub returns-clause-secret : goal.returns-clause-secret
returns-clause-secret c = rw c.in_ok-inputs_of.ensures refl
