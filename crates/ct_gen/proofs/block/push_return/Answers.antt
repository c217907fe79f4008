use Rattle.ct_gen.proofs.Decoded.{return_decoded}
use Rattle.ct_gen.proofs.block.push_return.Goals as goal

pub push_instructions-requires : goal.push_instructions-requires
push_instructions-requires c = return_decoded
