-- The blocks of a generator.
use Rattle.std.proofs.Common.{◌≡◌, ℕ, ◌*◌, ◌%◌, ◌==◌, ◌&&◌, Bool, true, false, nat_lt, if◌then◌else◌}
use Rattle.ct_gen.specs.declared.block.Block.TheVariants.{Mix, Keep, Scale, Follow}
use Rattle.ct_gen.specs.Blocks.{kind_of, detail_of, most_followed, block_of}

chosen : (keeps scales follows : Bool) (detail followed offset : ℕ)
    → (if keeps then Keep (4 * (detail % 16)) else (if scales then Scale (detail % 32) else (if follows then Follow followed else Mix detail))) ≡ Follow offset → offset ≡ followed
chosen true scales follows detail followed offset same = cc
chosen false true follows detail followed offset same = cc
chosen false false true detail followed offset same = cc
chosen false false false detail followed offset same = cc

-- the secret bytes are followed in their order
pub follows_next : (number followed offset : ℕ) → block_of number followed ≡ Follow offset → offset ≡ followed
unfolding block_of
follows_next number followed offset same =
    chosen (kind_of number == 1) (kind_of number == 2) (kind_of number == 3 && nat_lt followed most_followed) (detail_of number) followed offset same
