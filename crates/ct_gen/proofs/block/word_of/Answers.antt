use Rattle.rv_decode.proofs.Words.{word_of_is}
use Rattle.std.proofs.Common.{sym, arith}
use Rattle.ct_gen.proofs.block.word_of.Goals as goal

pub returns : goal.returns
returns c = sym (word_of_is c.encode.result c.args.instr (omega arith) c.encode.ensures.decodes)
