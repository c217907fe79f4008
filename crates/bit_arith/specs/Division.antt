-- Division of numbers.
use Rattle.std.specs.Prelude.{◌≡◌, ℕ, ◌+◌, ◌*◌, ◌<◌}

-- a is the quotient times b and the rest, which is below b
pub record IsDivided (a b quotient rest : ℕ) : Type 0 where
  pub parts : quotient * b + rest ≡ a
  pub below : rest < b
