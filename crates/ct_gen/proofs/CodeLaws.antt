-- Generated code, block by block.
use Rattle.std.proofs.Common.{◌≡◌, ℕ, zero, suc, ◌+◌, ◌*◌, ◌≤◌, List, ◌++◌, length, refl, sym, ◌∙◌, arith, length-append}
use Rattle.ct_gen.specs.declared.block.Block.{Block}
use Rattle.ct_gen.specs.declared.block.Block.TheVariants.{Mix, Keep, Scale, Follow}
use Rattle.ct_gen.specs.declared.generator.Generator.{Generator}
use Rattle.ct_gen.specs.Blocks.{next_block, after_block, generator_after}
use Rattle.ct_gen.specs.Code.{block_code, words_of, return_code, blocks_code, code_of}

pub generator_more : (number blocks : ℕ) → generator_after number (blocks + 1) ≡ after_block (generator_after number blocks)
unfolding generator_after
generator_more number blocks = let next : blocks + 1 ≡ suc blocks = omega arith in rw next refl

blocks_more : (number blocks : ℕ) → blocks_code number (blocks + 1) ≡ blocks_code number blocks ++ words_of (block_code (next_block (generator_after number blocks)))
unfolding blocks_code
blocks_more number blocks = let next : blocks + 1 ≡ suc blocks = omega arith in rw next refl

-- one block more
pub code_more : (number blocks : ℕ) (code more : List ℕ) (generator : Generator) (block : Block) → code ≡ blocks_code number blocks → generator ≡ generator_after number blocks
    → block ≡ next_block generator → more ≡ code ++ words_of (block_code block) → more ≡ blocks_code number (blocks + 1)
code_more number blocks code more generator block code_is generator_is block_is more_is =
    more_is ∙ rw (code_is, block_is, generator_is) (sym (blocks_more number blocks))

-- a block has at most four words
block_small : (block : Block) → length (words_of (block_code block)) ≤ 4
unfolding block_code
block_small (Mix offset) = omega arith
block_small (Keep offset) = omega arith
block_small (Scale amount) = omega arith
block_small (Follow offset) = omega arith

pub blocks_small : (number size : ℕ) → length (blocks_code number size) ≤ 4 * size
unfolding blocks_code
blocks_small number zero = omega arith
blocks_small number (suc size) =
    let block = words_of (block_code (next_block (generator_after number size))) in
    omega (arith, blocks_small number size, block_small (next_block (generator_after number size)), length-append (blocks_code number size) block)

-- the code of blocks has at most four words a block, and a return
pub code_small : (number size : ℕ) → length (code_of number size) ≤ 4 * size + 1
unfolding code_of
code_small number size = omega (arith, blocks_small number size, length-append (blocks_code number size) (words_of return_code))

pub code_some : (number size : ℕ) → 1 ≤ length (code_of number size)
unfolding code_of
code_some number size = omega (arith, length-append (blocks_code number size) (words_of return_code))
