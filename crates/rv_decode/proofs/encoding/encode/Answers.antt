use Rattle.std.proofs.Common.{◌∙◌, ap}
use Rattle.rv_decode.specs.Instructions.{instruction_of}
use Rattle.rv_decode.proofs.Words.{word_of_is, word_of_decodes, decoded_in_range}
use Rattle.rv_decode.proofs.encoding.encode.Goals as goal

pub word_of-requires : goal.word_of-requires
word_of-requires c = decoded_in_range c.args.instr c.requires

pub returns : goal.returns
returns c = record {
  decodes = ap instruction_of c.word_of.ensures ∙ word_of_decodes c.args.instr c.requires;
  word = λ w small e. c.word_of.ensures ∙ word_of_is w c.args.instr small e;
}
