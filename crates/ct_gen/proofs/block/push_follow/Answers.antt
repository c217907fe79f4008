use Rattle.std.proofs.Common.{[], ◌∷◌}
use Rattle.std.proofs.lemmas.List.Elements.{All-same}
use Rattle.rv_decode.specs.Instructions.{IsDecoded}
use Rattle.ct_gen.specs.declared.block.Block.TheVariants.{Follow}
use Rattle.ct_gen.specs.Code.{block_code}
use Rattle.ct_gen.proofs.Decoded.{block_decoded}
use Rattle.ct_gen.proofs.block.push_follow.Goals as goal

pub push_instructions-requires : goal.push_instructions-requires
unfolding block_code
push_instructions-requires c =
    let block = Follow c.args.offset in
    All-same IsDecoded (c.load_byte.result ∷ c.on_number.result ∷ c.on_registers.result ∷ c.load_byte-2.result ∷ []) (block_code block) (cc) (block_decoded block c.requires)
