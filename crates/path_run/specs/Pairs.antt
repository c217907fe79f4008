-- Pairs from values of the variables.
use Rattle.std.specs.Prelude.{◌≡◌, ℕ, ◌++◌, true, false, List}
use Rattle.ct_pairs.specs.declared.input_byte.InputByte.{InputByte}
use Rattle.rel_step.specs.Bridge.{public_values, secret_values}
use Rattle.path_run.specs.declared.pairs.Dealt.{Dealt}

-- the values so far, and those of the inputs that are left, whose variables begin at n, are the values of these inputs,
-- whose variables begin at m
pub record AreDealt (env : ℕ → ℕ) (m : ℕ) (all : List InputByte) (dealt : Dealt) (n : ℕ) (rest : List InputByte) : Type 0 where
  pub shared_are : dealt.shared.items ++ public_values env n rest ≡ public_values env m all
  pub left_are : dealt.left.items ++ secret_values false env n rest ≡ secret_values false env m all
  pub right_are : dealt.right.items ++ secret_values true env n rest ≡ secret_values true env m all
