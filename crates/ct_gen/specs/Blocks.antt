-- The blocks of generated code: which one each number of a sequence stands for.
use Rattle.std.specs.Prelude.{ℕ, zero, suc, ◌+◌, ◌*◌, ◌/◌, ◌%◌, ◌^◌, ◌<◌, ◌==◌, ◌&&◌, nat_lt, if◌then◌else◌}
use Rattle.ct_gen.specs.declared.block.Block.{Block}
use Rattle.ct_gen.specs.declared.block.Block.TheVariants.{Mix, Keep, Scale, Follow}
use Rattle.ct_gen.specs.declared.generator.Generator.{Generator}

-- the number after a number of the sequence
abbrev pub next_number : ℕ → ℕ
next_number number = (1664525 * number + 1013904223) % 2 ^ 32

-- the kind of block that a number stands for: its two highest bits
abbrev pub kind_of : ℕ → ℕ
kind_of number = number / 2 ^ 30

-- the number that stands in the block: the six bits below
abbrev pub detail_of : ℕ → ℕ
detail_of number = number / 2 ^ 24 % 64

-- the most blocks that follow a secret byte
abbrev pub most_followed : ℕ
most_followed = 64

-- the block of a number, after so many blocks that follow a secret byte
unfoldable pub block_of : ℕ → ℕ → Block
block_of number followed =
    if kind_of number == 1 then Keep (4 * (detail_of number % 16)) else
    (if kind_of number == 2 then Scale (detail_of number % 32) else
    (if kind_of number == 3 && nat_lt followed most_followed then Follow followed else
    Mix (detail_of number)))

-- how many blocks follow a secret byte, after one block more
abbrev pub followed_after : ℕ → Block → ℕ
followed_after followed (Follow offset) = followed + 1
followed_after followed _ = followed

-- the next block of a generator
abbrev pub next_block : Generator → Block
next_block generator = block_of (next_number generator.number) generator.followed

-- the generator after its next block
abbrev pub after_block : Generator → Generator
after_block generator = record {
  number = next_number generator.number;
  followed = followed_after generator.followed (next_block generator);
}

-- the generator that begins at a number, after so many blocks
unfoldable pub generator_after : ℕ → ℕ → Generator
generator_after number zero = record { number = number; followed = 0 }
generator_after number (suc blocks) = after_block (generator_after number blocks)

-- the numbers in a block are those of a sequence
abbrev pub IsBlock : Block → Type 0
IsBlock (Mix offset) = offset < 64
IsBlock (Keep offset) = offset < 64
IsBlock (Scale amount) = amount < 32
IsBlock (Follow offset) = offset < most_followed
